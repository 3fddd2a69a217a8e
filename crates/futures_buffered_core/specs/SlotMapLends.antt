-- What a slot map is after the borrow of one of its values ends.
use Rattle.std.specs.Prelude.{ℕ, Option}
use Rattle.std.specs.Borrow.{Lends, LendsIf, Fml, RattleType, MutBor}
use Rattle.futures_buffered_core.specs.SlotMap.{Slots, with_value}
use Rattle.futures_buffered_core.specs.contracts.slot_map.PinSlotMap.{the_row}

module _ (F : RattleType) (s : MutBor (Slots F.Denot)) (key : ℕ) where
  -- Once the borrow ends, the slot holds the last value written through it. At `None` nothing changes.
  abbrev pub lends_slot : Option (MutBor F.Denot) → Fml
  lends_slot r = LendsIf (the_row F) F s r (with_value s.now key) s.now

  -- the same for a slot that holds a value
  abbrev pub lends_value : MutBor F.Denot → Fml
  lends_value r = Lends (the_row F) F s r (with_value s.now key)
