use Rattle.futures_buffered_in_flight.proofs.WaitingLemmas.{came}
use Rattle.futures_buffered_in_flight.proofs.waiting.FuturesUnorderedByNextOutput.poll_next_output.Goals as goal

pub returns-clause-until : goal.returns-clause-until
returns-clause-until g c = came g.F.Future c.args.self.now c.poll_next_keyed.new.self c.poll_next_keyed.result c.args.cx.now c.poll_next_keyed.new.cx c.poll_next_keyed.ensures
