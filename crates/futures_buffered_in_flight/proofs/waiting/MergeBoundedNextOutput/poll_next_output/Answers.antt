use Rattle.futures_buffered_in_flight.proofs.WaitingLemmas.{came_of_merge}
use Rattle.futures_buffered_in_flight.proofs.waiting.MergeBoundedNextOutput.poll_next_output.Goals as goal

pub returns-clause-until : goal.returns-clause-until
returns-clause-until g c = came_of_merge g.St.Stream c.args.self.now c.poll_next.new.self c.poll_next.result c.args.cx.now c.poll_next.new.cx c.poll_next.ensures
