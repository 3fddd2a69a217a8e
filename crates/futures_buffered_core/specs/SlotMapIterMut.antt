-- What a contract sees of an iterator over the values of a slot map, and the iterator after the borrow of an item ends.
use mir.Syntax.{named}
use Rattle.std.specs.Prelude.{◌≡◌, ℕ, ◌+◌, [], Option, OnSome, IfNone}
use Rattle.std.specs.Borrow.{GName, Fml, RattleType, MutBor, LendsSo}
use Rattle.futures_buffered_core.specs.SlotMap.{Slots, with_value, IsFirstHeld}
use Rattle.futures_buffered_core.specs.declared.slot_map.SlotMapIterMut.{SlotMapIterMut}
use Rattle.futures_buffered_core.specs.contracts.slot_map.SlotMapIterMut.{the_row}

module _ {F : Type 0} where
  -- the content of the map
  abbrev pub iter_slots : SlotMapIterMut F → Slots F
  iter_slots it = it.map.now

  -- the first slot that the iterator has not yet passed
  abbrev pub iter_from : SlotMapIterMut F → ℕ
  iter_from it = it.from

  -- the name of the iterator's borrow of the map
  abbrev pub iter_name : SlotMapIterMut F → GName
  iter_name it = it.map.ghost_name

  -- the iterator past slot `i`, with this value in that slot
  abbrev pub past_slot : SlotMapIterMut F → ℕ → F → SlotMapIterMut F
  past_slot it i value =
      record it { map = record it.map { now = with_value it.map.now i value }; from = i + 1 }

module _ (F : RattleType) (it : MutBor (SlotMapIterMut F.Denot)) where
  -- Once the borrow ends, the iterator has passed the next slot that held a value, and that slot holds the last value
  -- written. At `None` nothing changes.
  abbrev pub lends_next : Option (MutBor F.Denot) → Fml
  lends_next r =
      LendsSo (the_row (record { mir = named 0; lft = [] }) F) F it r
      (λ after value. OnSome r ((i : ℕ) → IsFirstHeld (iter_slots it.now) (iter_from it.now) i
      → after ≡ past_slot it.now i value))
      (λ after. IfNone r (after ≡ it.now))
