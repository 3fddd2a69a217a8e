-- How a list begins, by its key: with no slot marked, or as a wake of each slot, in order, leaves such a list. These
-- wakes are in the list of a seat, and no seat makes their steps.
use Rattle.std.specs.Prelude.{ℕ, zero, suc, ◌+◌, List, [], ◌∷◌, ◌++◌, slice_set, if◌then◌else◌}
use Rattle.futures_buffered_table.specs.declared.rule.ListKey.{ListKey}
use Rattle.futures_buffered_table.specs.Types.{AtomicStep, MarkSwap, LinkClear, TailSwap, LinkWrite, Start, Polls, View}
use Rattle.futures_buffered_table.specs.Words.{empty_words, tail_at}

-- the entry before slot k if the slots are woken in order: the stub, or the slot before it
abbrev pub entry_before : ℕ → ℕ → ℕ
entry_before n zero = n
entry_before n (suc k) = k

-- the steps of the wake of slot k if the slots are woken in order
abbrev pub wake_in_order : ℕ → ℕ → List AtomicStep
wake_in_order n k = MarkSwap k 0 ∷ LinkClear k ∷ TailSwap k (entry_before n k) ∷ LinkWrite (entry_before n k) k ∷ []

-- the steps of one wake of each of the first k slots, in order
abbrev pub wakes_in_order : ℕ → ℕ → List AtomicStep
wakes_in_order n zero = []
wakes_in_order n (suc k) = wakes_in_order n k ++ wake_in_order n k

-- the words that these wakes leave
abbrev pub words_in_order : ℕ → ℕ → List ℕ
words_in_order n zero = empty_words n
words_in_order n (suc k) =
    slice_set (slice_set (slice_set (words_in_order n k) k 1) (tail_at n) k) (n + entry_before n k) (suc k)

-- the steps and the words of a list that begins full
abbrev pub all_wakes : ℕ → List AtomicStep
all_wakes n = wakes_in_order n n

abbrev pub full_words : ℕ → List ℕ
full_words n = words_in_order n n

-- the words of a list as it begins
abbrev pub words_at_first : ListKey → List ℕ
words_at_first key = if key.full then full_words key.capacity else empty_words key.capacity

-- the steps in the list of its first seat
abbrev pub steps_at_first : ListKey → List AtomicStep
steps_at_first key = if key.full then all_wakes key.capacity else []

-- the view of that seat, which polls: its head is the stub
abbrev pub first_view : ListKey → View
first_view key = record { stub = key.capacity; role = Polls key.capacity Start; steps = steps_at_first key }
