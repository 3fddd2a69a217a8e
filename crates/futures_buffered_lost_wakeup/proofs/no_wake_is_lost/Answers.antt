use Rattle.futures_buffered_lost_wakeup.proofs.LostWakeLemmas.{no_wake_is_lost}
use Rattle.futures_buffered_lost_wakeup.proofs.no_wake_is_lost.Goals as goal

pub returns : goal.returns
returns c = no_wake_is_lost
