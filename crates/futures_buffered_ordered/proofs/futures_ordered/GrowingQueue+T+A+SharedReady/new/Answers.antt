use Rattle.futures_buffered_ordered.proofs.Common.{inl, refl, IsNewShared}
use Rattle.futures_buffered_ordered.proofs.FuturesOrderedLemmas.{new_keeps}
use Rattle.futures_buffered_ordered.proofs.futures_ordered.GrowingQueue+T+A+SharedReady.new.Goals as goal

pub invariant_of-result : goal.invariant_of-result
invariant_of-result g c =
    let made = c.new-2.ensures in
    new_keeps IsNewShared 0 61 c.new-2.result _ made.set (inl (refl, c.new.ensures)) made.entries
