use Rattle.futures_buffered.proofs.InFlightLemmas.{makes_buffer}
use Rattle.futures_buffered.proofs.in_flight.try_buffered.BufferedTryStreamExt.try_buffered_ordered.Goals as goal

pub returns-clause-made : goal.returns-clause-made
returns-clause-made g c = makes_buffer _ _ _ _ _ c.in_ok-queue.ensures.made (rw c.over.ensures at c.with_queue.ensures)
