-- How a value that has seats of the list is stored. No public clause cites this module.
use Rattle.std.specs.Prelude.{◌≡◌, ℕ, zero, suc, List, refl}
use Rattle.std.specs.Coded.{Coded, code_by, coded×, coded_ℕ, coded_list, coded_option}
use Rattle.futures_buffered_place.specs.History.{PlaceId, place_id_code, seated_code}
use Rattle.futures_buffered_table.specs.ReadyList.{Poller as PollSeat, Waker}
use Rattle.futures_buffered_table.specs.declared.view.AtomicStep.{AtomicStep}
use Rattle.futures_buffered_table.specs.declared.view.AtomicStep.TheVariants.{MarkSwap, LinkClear, TailSwap, LinkWrite, LinkRead, TailRead, Unmark}
use Rattle.futures_buffered_core.specs.WakerPlace.{MadeWake, Side, poller_code}

-- a step as its kind and two numbers
abbrev to_numbers : AtomicStep → ℕ × (ℕ × ℕ)
to_numbers (MarkSwap slot found) = (0, (slot, found))
to_numbers (LinkClear entry) = (1, (entry, 0))
to_numbers (TailSwap entry found) = (2, (entry, found))
to_numbers (LinkWrite before entry) = (3, (before, entry))
to_numbers (LinkRead entry found) = (4, (entry, found))
to_numbers (TailRead found) = (5, (found, 0))
to_numbers (Unmark slot) = (6, (slot, 0))

abbrev of_numbers : ℕ × (ℕ × ℕ) → AtomicStep
of_numbers (zero, (a, b)) = MarkSwap a b
of_numbers (suc zero, (a, b)) = LinkClear a
of_numbers (suc (suc zero), (a, b)) = TailSwap a b
of_numbers (suc (suc (suc zero)), (a, b)) = LinkWrite a b
of_numbers (suc (suc (suc (suc zero))), (a, b)) = LinkRead a b
of_numbers (suc (suc (suc (suc (suc zero)))), (a, b)) = TailRead a
of_numbers (suc (suc (suc (suc (suc (suc kind))))), (a, b)) = Unmark a

pub numbers_back : (step : AtomicStep) → of_numbers (to_numbers step) ≡ step
numbers_back (MarkSwap slot found) = refl
numbers_back (LinkClear entry) = refl
numbers_back (TailSwap entry found) = refl
numbers_back (LinkWrite before entry) = refl
numbers_back (LinkRead entry found) = refl
numbers_back (TailRead found) = refl
numbers_back (Unmark slot) = refl

abbrev steps_code : Coded (List AtomicStep)
steps_code = coded_list (code_by (ℕ × (ℕ × ℕ)) (coded× coded_ℕ (coded× coded_ℕ coded_ℕ)) to_numbers of_numbers numbers_back)

abbrev waker_code : Coded Waker
waker_code = code_by (PlaceId × List AtomicStep) (coded× place_id_code steps_code)
    (λ w. (w.list, w.steps)) (λ p. record { list = p.0; steps = p.1 }) (λ _. refl)

abbrev poll_seat_code : Coded PollSeat
poll_seat_code = code_by (PlaceId × (ℕ × List AtomicStep)) (coded× place_id_code (coded× coded_ℕ steps_code))
    (λ s. (s.list, (s.head, s.steps))) (λ p. record { list = p.0; head = p.1.0; steps = p.1.1 }) (λ _. refl)

abbrev pub made_wake_code : {O : Type 0} → Coded O → Coded (MadeWake O)
made_wake_code code = code_by _ (coded× waker_code (coded_option (seated_code code)))
    (λ m. (m.listed, m.placed)) (λ p. record { listed = p.0; placed = p.1 }) (λ _. refl)

abbrev pub side_code : {O : Type 0} → Coded O → Coded (Side O)
side_code code = code_by _ (coded× poll_seat_code (poller_code code))
    (λ s. (s.poll, s.task)) (λ p. record { poll = p.0; task = p.1 }) (λ _. refl)
