use Rattle.futures_buffered_core.proofs.Common.{◌≡◌, take, length, slot_count, new_places}
use Rattle.futures_buffered_core.proofs.slot_map.PinSlotMap.clear.Given as goal

abbrev pub invariant-loop-i : goal.invariant-loop-i
invariant-loop-i g l =
    record {
      cleared : take l.i l.self-inside.places.items ≡ new_places l.i;
      same_size : length l.self-inside.places.items ≡ slot_count l.fn.self;
    }
