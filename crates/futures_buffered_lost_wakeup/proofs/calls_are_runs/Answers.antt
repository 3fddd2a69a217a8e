use Rattle.futures_buffered_lost_wakeup.proofs.RunsLemmas.{calls_are_runs}
use Rattle.futures_buffered_lost_wakeup.proofs.calls_are_runs.Goals as goal

pub returns : goal.returns
returns g c = λ task_of. calls_are_runs _ task_of
