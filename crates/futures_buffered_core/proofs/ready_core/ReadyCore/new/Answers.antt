use Rattle.futures_buffered_core.proofs.ReadyCoreLemmas.{KeepsLinks-none, KeepsLinks-found}
use Rattle.futures_buffered_core.proofs.ready_core.ReadyCore.new.Goals as goal

pub invariant_of-result : goal.invariant_of-result
invariant_of-result c =
    rw (c.in_ok-marks.ensures.items_if_clones_equal (λ y e. e), c.in_ok-links.ensures.items_if_clones_equal (λ y e. e))
    (KeepsLinks-found _ _ _ _ _ _ (KeepsLinks-none c.args.cap _ c.in_ok-marks.ensures.len))
