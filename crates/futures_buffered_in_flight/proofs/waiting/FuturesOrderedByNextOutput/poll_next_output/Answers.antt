use Rattle.futures_buffered_in_flight.proofs.WaitingLemmas.{came_in_turn}
use Rattle.futures_buffered_in_flight.proofs.waiting.FuturesOrderedByNextOutput.poll_next_output.Goals as goal

pub returns-clause-until : goal.returns-clause-until
returns-clause-until g c = came_in_turn g.F.Future c.args.self.now c.poll_output.new.self c.poll_output.result c.args.cx.now c.poll_output.new.cx c.poll_output.ensures
