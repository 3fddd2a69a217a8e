use Rattle.futures_buffered_core.proofs.Common.{refl}
use Rattle.futures_buffered_core.proofs.SlotMapLemmas.{first_held_once}
use Rattle.futures_buffered_core.proofs.slot_map.SlotMapIterMut.next.Goals as goal

pub returns : goal.returns
returns g c =
    let slots = c.args.self.now.map.now in
    let start = c.args.self.now.from in
    let found = c.in_ok-i.ensures.found in (
      (refl, λ w i first. rw (← first_held_once slots start c.in_ok-i.i i found first) refl, tt),
      record { writes_back = tt; value = (c.in_ok-i.i, found, c.value_mut.ensures.value); end = tt },
    )
