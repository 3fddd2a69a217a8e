-- The line that a run of threads writes, and the outputs of its futures.
use Rattle.std.specs.Prelude.{◌≡◌, ℕ, ◌+◌, ◌*◌, ◌==◌, ◌≤◌, Bool, false, List, ◌++◌, Option, Some, None, codes, count_by}
use Rattle.std.specs.List.{flat_map, range_with_len}
use Rattle.std.specs.Option.{option_to_list}
use Rattle.std.specs.Fmt.{decimal}
use Rattle.std.specs.Io.KnownBytes.{Appends}
use Rattle.futures.specs.declared.task.Poll.{Poll}
use Rattle.futures.specs.Poll.{IfReady}
use Rattle.futures_buffered_core.specs.SlotMap.{Slots}
use Rattle.fbuf_lines.specs.Command.{spaced_number}
use Rattle.fbuf_lines.specs.Reply.{line_feed}
use Rattle.fbuf_program.specs.declared.threads.AllWakes.{AllWakes}

-- the beginning of the line: how many threads ran, and how many wakes they made together
abbrev pub threads_text : ℕ → ℕ → List ℕ
threads_text n wakes = codes "threads " ++ (decimal n ++ (codes " wakes " ++ (decimal wakes ++ codes " outputs")))

-- the whole line, with the outputs of the futures
abbrev pub threads_line : ℕ → ℕ → List ℕ → List ℕ
threads_line n wakes outputs = threads_text n wakes ++ flat_map spaced_number outputs ++ line_feed

-- the line of a run was appended: n threads made m wakes each, and its outputs are 0 to n - 1, in order
abbrev pub AppendsThreadsLine : ℕ → ℕ → Option (List ℕ) → Option (List ℕ) → Type 0
AppendsThreadsLine n m old new = Appends old new (threads_line n (n * m) (range_with_len 0 n))

-- how often a number is among these
abbrev pub times_in : List ℕ → ℕ → ℕ
times_in numbers k = count_by (λ number. number == k) numbers

module _ {R : Type 0} where
  -- a poll does not change a future's number, which is its only output
  abbrev pub AnswersNumber : ℕ → AllWakes R → Poll ℕ → AllWakes R → Type 0
  AnswersNumber slot old answer new = (new.number ≡ old.number) × IfReady answer (λ number. number ≡ old.number)

  -- whether the future that a slot holds has this number
  abbrev pub is_numbered : ℕ → Option (AllWakes R) → Bool
  is_numbered k None = false
  is_numbered k (Some future) = future.number == k

  -- how many futures of this number are held
  abbrev pub times_held : Slots (AllWakes R) → ℕ → ℕ
  times_held slots k = count_by (is_numbered k) slots.places

  -- these are the numbers of the held futures, in any order
  abbrev pub HoldsNumbers : Slots (AllWakes R) → List ℕ → Type 0
  HoldsNumbers slots numbers = (k : ℕ) → times_in numbers k ≡ times_held slots k

  -- one held future gave its number, and is no longer held; or no future gave one
  abbrev pub GaveNumber : Slots (AllWakes R) → Option ℕ → Slots (AllWakes R) → Type 0
  GaveNumber old given new = (k : ℕ) → times_in (option_to_list given) k + times_held new k ≡ times_held old k

  -- each held future gives its number once, and then `None` comes
  pub record GiveNumbers (slots : Slots (AllWakes R)) (xs : List ℕ)
      (last : Option ℕ) : Type 0 where
    pub once : (k : ℕ) → times_in (xs ++ option_to_list last) k ≤ times_held slots k
    pub each : last ≡ None → HoldsNumbers slots xs
