-- How a slot map keeps its free places. No public clause cites this module.
use Rattle.std.specs.Prelude.{◌≡◌, ℕ, zero, suc, ◌+◌, ◌-◌, Option, Some, None, is_some, is_none}
use Rattle.std.specs.Prelude.{List, [], ◌∷◌, map, length, slice_index_or, count_by}
use Rattle.std.specs.List.{range_with_len}
use Rattle.futures_buffered_core.specs.declared.slot_map.Place.{Place}
use Rattle.futures_buffered_core.specs.declared.slot_map.Place.TheVariants.{Free, Held}
use Rattle.futures_buffered_core.specs.SlotMap.{Slots}
use Rattle.futures_buffered_core.specs.KeepsOnce.{KeepsOnce}

module _ {F : Type 0} where
  -- the value that a place holds
  abbrev pub value_of : Place F → Option F
  value_of (Free _) = None
  value_of (Held value) = Some value

  -- the place that is used after a free one; 0 for a place that holds a value
  abbrev pub next_free : Place F → ℕ
  next_free (Free next) = next
  next_free (Held _) = 0

  -- the next `n` places to be used, if `first` is the first of them
  abbrev pub free_from : List (Place F) → ℕ → ℕ → List ℕ
  free_from places first zero = []
  free_from places first (suc n) =
      first ∷ free_from places (next_free (slice_index_or places first (Free 0))) n

  -- all free places, if `len` places hold a value
  abbrev pub free_list : List (Place F) → ℕ → ℕ → List ℕ
  free_list places first len = free_from places first (length places - len)

  -- what a contract sees of these places
  abbrev pub slots_of : List (Place F) → ℕ → ℕ → Slots F
  slots_of places first len =
      record { places = map value_of places; free = free_list places first len }

  -- the free list has each place without a value once, and no other; `len` is the number of places with one
  pub record KeepsPlaces (places : List (Place F)) (first len : ℕ) : Type 0 where
    pub once : KeepsOnce (map is_none (map value_of places)) (free_list places first len)
        (length places)
    pub counted : len ≡ count_by is_some (map value_of places)

  -- `n` free places, each of which has the number of the one after it
  abbrev pub new_places : ℕ → List (Place F)
  new_places n = map (λ i. Free (i + 1)) (range_with_len 0 n)
