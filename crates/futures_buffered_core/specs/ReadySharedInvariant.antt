-- How a shared source keeps itself. No public clause cites this module.
use Rattle.std.specs.Prelude.{◌≡◌, ◌<◌, ℕ}
use Rattle.std.specs.Arc.{arc_value}
use Rattle.futures_buffered_place.specs.History.{PlaceId}
use Rattle.futures_buffered_table.specs.ReadyList.{ListIdentity, Waker, Poller}
use Rattle.futures_buffered_core.specs.WakerPlace.{Awaited}
use Rattle.futures_buffered_core.specs.declared.ready_shared.Lent.{Lent}
use Rattle.futures_buffered_core.specs.declared.ready_shared.Lent.TheVariants.{OfSlot, OfNoSlot}

module _ {O : Type 0} where
  -- the list of the source, the place in which its wakers look, and the slot of its waker
  abbrev pub list_of : Lent O → ListIdentity
  list_of (OfSlot waker) = waker.list
  list_of (OfNoSlot wakes) = (arc_value wakes).list

  abbrev pub outer_of : Lent O → Awaited
  outer_of (OfSlot waker) = record { source = waker.awaited; place = waker.place }
  outer_of (OfNoSlot wakes) = arc_value (arc_value wakes).outer

  abbrev pub lent_slot : Lent O → ℕ
  lent_slot (OfSlot waker) = waker.slot
  lent_slot (OfNoSlot wakes) = 0

  -- a source has a waker if and only if it has a slot
  abbrev pub LendsSlot : Lent O → Type 0
  LendsSlot (OfSlot waker) = waker.slot < waker.list.capacity
  LendsSlot (OfNoSlot wakes) = (arc_value wakes).list.capacity ≡ 0

  -- Both seats at the list are of its list, and the seat at the place is of its place. It has a waker if and only if it
  -- has a slot.
  pub record KeepsShared (lent : Lent O) (poll : Poller) (marks : Waker) (place : PlaceId) : Type 0 where
    pub polls : poll.list ≡ (list_of lent).list
    pub marks_it : marks.list ≡ (list_of lent).list
    pub puts_in : place ≡ (outer_of lent).place
    pub lends : LendsSlot lent
