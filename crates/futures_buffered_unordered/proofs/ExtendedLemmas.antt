-- What is drawn from the iterator of a source is drawn from that source.
use Rattle.futures_buffered_unordered.proofs.Common.{◌≡◌, List, Some, subst, Items, Draws, DrawsAndOne}
use Rattle.std.specs.Iterator.{Drains, YieldsThen}

module _ {U F I : Type 0} (from : Items U F I) (it : I) (begins : from.by.into_iter_gives from.source it) (items : List F) where
  pub draws_of : (at : I) → at ≡ it → Drains from.gives.next_gives at items → Draws from items
  draws_of at is drains = (it, begins, subst (λ i. Drains from.gives.next_gives i items) is drains)

  pub draws_and_one_of : (at : I) (more : F) (rest : I) → at ≡ it → YieldsThen from.gives.next_gives at items (Some more) rest → DrawsAndOne from items
  draws_and_one_of at more rest is came = (it, more, rest, begins, subst (λ i. YieldsThen from.gives.next_gives i items (Some more) rest) is came)
