-- How a script writes its commands.
use Rattle.std.specs.Prelude.{◌≡◌, ◌≢◌, ℕ, ◌^◌, ◌<◌, ◌≤◌, false, List, [], ◌∷◌, ◌++◌, ◌==◌, Option, Some, None, codes}
use Rattle.std.specs.Prelude.{length, slice_index}
use Rattle.std.specs.Borrow.{Bor}
use Rattle.std.specs.List.{AllByRecursion, flat_map, list_any}
use Rattle.std.specs.Fmt.{decimal}
use Rattle.fbuf_lines.specs.declared.command.Command.{Command}
use Rattle.fbuf_lines.specs.declared.command.Command.TheVariants.{Unordered, Ordered, Growing, Steps, Limit, Push, Back}
use Rattle.fbuf_lines.specs.declared.command.Command.TheVariants.{Front, Wake, Poll, Len, Mark, Go, Step}

-- the word that a command begins with, and its numbers, in the order in which it writes them
abbrev pub parts_of : Command → List ℕ × List ℕ
parts_of (Unordered capacity) = (codes "unordered", capacity ∷ [])
parts_of (Ordered capacity) = (codes "ordered", capacity ∷ [])
parts_of (Growing capacity) = (codes "growing", capacity ∷ [])
parts_of (Steps capacity) = (codes "steps", capacity ∷ [])
parts_of (Limit limit) = (codes "limit", limit ∷ [])
parts_of (Push future) = (codes "push", future.value ∷ future.pending ∷ [])
parts_of (Back future) = (codes "back", future.value ∷ future.pending ∷ [])
parts_of (Front future) = (codes "front", future.value ∷ future.pending ∷ [])
parts_of (Wake slot) = (codes "wake", slot ∷ [])
parts_of Poll = (codes "poll", [])
parts_of Len = (codes "len", [])
parts_of (Mark seat slot) = (codes "mark", seat ∷ slot ∷ [])
parts_of (Go seat) = (codes "go", seat ∷ [])
parts_of Step = (codes "step", [])

-- one space, and the number
abbrev pub spaced_number : ℕ → List ℕ
spaced_number n = 32 ∷ decimal n

-- a word, and for each number one space and the number
abbrev pub text_of : Command → List ℕ
text_of command = (parts_of command).0 ++ flat_map spaced_number (parts_of command).1

-- each number has at most 64 bits
abbrev pub IsWritable : Command → Type 0
IsWritable command = AllByRecursion (λ n. n < 2 ^ 64) (parts_of command).1

-- a line asks for the command that it writes, and for nothing if it writes none
abbrev pub LineAsksFor : List ℕ → Option Command → Type 0
LineAsksFor line (Some command) = (line ≡ text_of command) × IsWritable command
LineAsksFor line None = (command : Command) → IsWritable command → line ≢ text_of command

-- a word has no space in it
abbrev pub HasNoSpace : List ℕ → Type 0
HasNoSpace word = list_any (λ byte. byte == 32) word ≡ false

-- the text after a word: nothing, or a space and the rest
abbrev pub rest_text : Option (Bor (List ℕ)) → List ℕ
rest_text None = []
rest_text (Some rest) = 32 ∷ rest.now

-- the text begins with a digit, which is 0 only in the text `0`
pub record StartsAsNumber (text : List ℕ) : Type 0 where
  pub some : 0 < length text
  pub low : 48 ≤ slice_index text 0
  pub high : slice_index text 0 ≤ 57
  pub zero_alone : slice_index text 0 ≡ 48 → length text ≡ 1
