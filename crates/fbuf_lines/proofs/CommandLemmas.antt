-- A word, and what stands behind it, come from their text in one way; and the numbers of a command.
use Rattle.std.proofs.Common.{◌≡◌, ◌≢◌, ℕ, zero, suc, ◌^◌, ◌<◌, ◌≤◌, true, false, Bool, eqb, List}
use Rattle.std.proofs.Common.{[], ◌∷◌, ◌++◌, length, take, get_or, Option, Some, None, IfSome}
use Rattle.std.proofs.Common.{IfNone, is_some, codes, Result, Ok, Err, MatchResult, rules, refl}
use Rattle.std.proofs.Common.{sym, ap, arith, inl, inr, true≢false, ◌∙◌}
use lib.Pointwise.{pointwise}
use Rattle.std.proofs.Math.Seq.{take-length}
use Rattle.std.specs.Borrow.{Bor}
use Rattle.std.specs.Result.{result_ok}
use Rattle.std.specs.Str.{IsUtf8}
use Rattle.std.proofs.lemmas.Str.{IsUtf8-from_ascii}
use Rattle.std.specs.Fmt.{decimal}
use Rattle.std.specs.List.{list_any, flat_map}
use Rattle.std.specs.Str.Parse.{AllDigits, digits_value, ParsesUnsigned}
use Rattle.std.proofs.lemmas.Fmt.{decimal_digit, decimal_is_IsNumeral, decimal_nonempty}
use Rattle.std.proofs.lemmas.Fmt.{first_decimal, decimal-digits_value, parse-decimal}
use Rattle.std.proofs.lemmas.Fmt.{IsAscii-decimal}
use Rattle.std.proofs.lemmas.Str.Parse.{IsNumeralModel, numerals_by_value, digit_from_value}
use Rattle.std.proofs.lemmas.Str.Parse.{digit_at, parse_plain}
use Rattle.std.proofs.lemmas.Bool.{or_left, or_from, or_parts, ne_eqb, eq-eqb}
use Rattle.std.proofs.lemmas.Bool.Decides.{eqb_tells}
use Rattle.std.proofs.lemmas.Slice.Eq.{bytes_eq-Decides}
use Rattle.fbuf_lines.specs.declared.command.Command.{Command}
use Rattle.fbuf_lines.specs.declared.command.Command.TheVariants.{Unordered, Ordered, Growing, Steps, Limit}
use Rattle.fbuf_lines.specs.declared.command.Command.TheVariants.{Push, Back, Front, Wake, Poll, Len, Mark, Go, Step}
use Rattle.fbuf_lines.specs.Command.{HasNoSpace, StartsAsNumber, parts_of, text_of}
use Rattle.fbuf_lines.specs.Command.{spaced_number, rest_text}
use Rattle.fbuf_lines.proofs.LinesLemmas.{IsAbsentBefore, IsAbsentBefore-rest}

-- nothing, or a space first
abbrev pub IsRest : List ℕ → Type 0
IsRest [] = Unit {0}
IsRest (b ∷ rest) = b ≡ 32

pub no_space_before : (text : List ℕ) (k : ℕ) → k ≤ length text → IsAbsentBefore 32 text k
    → HasNoSpace (take k text)
no_space_before text zero within none = refl
no_space_before [] (suc k) within none = refl
no_space_before (b ∷ text) (suc k) within none =
    elim (eqb_tells b 32) [
      | inl same ↦ absurd (none 0 (omega arith) (omega arith) same.0)
      | inr other ↦ or_from (eqb b 32) (list_any (λ x. eqb x 32) (take k text)) (other.0) (no_space_before text k (omega arith) (IsAbsentBefore-rest 32 b k text none))
    ]

pub no_space_in : (text : List ℕ) → IsAbsentBefore 32 text (length text) → HasNoSpace text
no_space_in text none = rw (take-length text) at (no_space_before text (length text) (omega arith) none)

first_no_space : (b : ℕ) (word : List ℕ) → HasNoSpace (b ∷ word) → b ≡ 32 → ⊥
first_no_space b word none space = true≢false (sym (or_left (eqb b 32) (list_any (λ x. eqb x 32) word) (eq-eqb b 32 space)) ∙ none)

pub cut_one_way : (word other rest more : List ℕ) → HasNoSpace word → HasNoSpace other → IsRest rest
    → IsRest more → word ++ rest ≡ other ++ more → (word ≡ other) × (rest ≡ more)
cut_one_way [] [] rest more one two first second e = (refl, e)
cut_one_way [] (b ∷ other) [] more one two first second e = cc
cut_one_way [] (b ∷ other) (x ∷ rest) more one two first second e = let same : x ≡ b = cc in absurd (first_no_space b other two (sym same ∙ first))
cut_one_way (b ∷ word) [] rest [] one two first second e = cc
cut_one_way (b ∷ word) [] rest (x ∷ more) one two first second e = let same : b ≡ x = cc in absurd (first_no_space b word one (same ∙ second))
cut_one_way (b ∷ word) (d ∷ other) rest more one two first second e =
    let same : b ≡ d = cc in
    let later = cut_one_way word other rest more (or_parts (eqb b 32) (list_any (λ x. eqb x 32) word) one).1 (or_parts (eqb d 32) (list_any (λ x. eqb x 32) other) two).1 first second (cc) in
    (cc, later.1)

digits_no_space : (digits : List ℕ) → AllDigits 10 digits → HasNoSpace digits
digits_no_space [] all = refl
digits_no_space (b ∷ digits) all =
    let range = digit_from_value b all.0 in
    or_from (eqb b 32) (list_any (λ x. eqb x 32) digits) (ne_eqb b 32 (λ e. omega (arith, range))) (digits_no_space digits all.1)

pub decimal_no_space : (n : ℕ) → n < 2 ^ 64 → HasNoSpace (decimal n)
decimal_no_space n fits = digits_no_space (decimal n) ((decimal_is_IsNumeral n fits).0.1)

numeral : IsNumeralModel (AllDigits 10) (digits_value 10)
numeral = numerals_by_value (AllDigits 10) (search rules)

pub decimal_starts : (n : ℕ) → n < 2 ^ 64 → StartsAsNumber (decimal n)
decimal_starts n fits =
    let some = decimal_nonempty n fits in
    let first = digit_at (decimal n) 0 ((decimal_is_IsNumeral n fits).0.1) some in
    record { some = some; low = omega (arith, first); high = omega (arith, first); zero_alone = alone n fits }
  where
    alone : (n : ℕ) → n < 2 ^ 64 → get_or (decimal n) 0 0 ≡ 48 → length (decimal n) ≡ 1
    alone zero fits zero_first = ap length (decimal_digit 0 (omega arith))
    alone (suc k) fits zero_first = absurd (omega (arith, first_decimal (suc k) (omega arith) fits))

-- the number that was parsed is the one that is written, and where none was parsed none is
pub number_some : {E : Type 0} (text : List ℕ) (r : Result ℕ E) → StartsAsNumber text
    → ParsesUnsigned 64 10 text r → IfSome (result_ok r) (λ n. text ≡ decimal n)
number_some {E} text (Ok n) starts parses =
    let is = parse_plain numeral {E = E} 64 text (Ok n) parses (λ plus. omega (arith, starts.low)) in
    rw (is.1) (sym (decimal-digits_value numeral text (is.0.0) (starts.some) (starts.zero_alone) (is.0.2)))
number_some {E} text (Err e) starts parses = tt

pub number_none : {E : Type 0} (text : List ℕ) (r : Result ℕ E) → ParsesUnsigned 64 10 text r
    → IfNone (result_ok r) ((n : ℕ) → n < 2 ^ 64 → text ≢ decimal n)
number_none text (Ok n) parses = tt
number_none text (Err e) parses = λ n fits same. let gives = parse-decimal 64 n text (Err e) fits fits same parses in cc

pub not_utf8 : {T E : Type 0} (text : List ℕ) (r : Result T E) (P : T → Type 0) (R : E → Type 0)
    → result_ok r ≡ None → MatchResult r P (λ e. (IsUtf8 text → ⊥) × R e) → (n : ℕ) → n < 2 ^ 64
    → text ≢ decimal n
not_utf8 text (Ok x) P R none cases = cc
not_utf8 text (Err e) P R none cases = λ n fits same. cases.0 (rw same (IsUtf8-from_ascii (decimal n) (IsAscii-decimal n fits)))

pub same_text : {E : Type 0} (text : List ℕ) (r : Result (Bor (List ℕ)) E) (P : Type 0)
    (R : E → Type 0) (read : Bor (List ℕ))
    → result_ok r ≡ Some read → MatchResult r (λ s. (s.now ≡ text) × P) R → read.now ≡ text
same_text text (Ok s) P R read ok cases = let same : s ≡ read = cc in rw (← same) cases.0
same_text text (Err e) P R read ok cases = cc

pub rest_is : (rest : Option (Bor (List ℕ))) → IsRest (rest_text rest)
rest_is None = tt
rest_is (Some rest) = refl

-- two numbers behind a word are read in one way
pub two_parts : (text first rest : List ℕ) → HasNoSpace first → IsRest rest → text ≡ first ++ rest
    → (m n : ℕ) → m < 2 ^ 64 → 32 ∷ text ≡ spaced_number m ++ spaced_number n
    → (first ≡ decimal m) × (rest ≡ spaced_number n)
two_parts text first rest word is whole m n fits e = cut_one_way first (decimal m) rest (spaced_number n) word (decimal_no_space m fits) is refl (cc)

word_no_space : (command : Command) → HasNoSpace (parts_of command).0
word_no_space (Unordered capacity) = refl
word_no_space (Ordered capacity) = refl
word_no_space (Growing capacity) = refl
word_no_space (Steps capacity) = refl
word_no_space (Limit limit) = refl
word_no_space (Push future) = refl
word_no_space (Back future) = refl
word_no_space (Front future) = refl
word_no_space (Wake slot) = refl
word_no_space Poll = refl
word_no_space Len = refl
word_no_space (Mark seat slot) = refl
word_no_space (Go seat) = refl
word_no_space Step = refl

numbers_rest : (numbers : List ℕ) → IsRest (flat_map spaced_number numbers)
numbers_rest [] = tt
numbers_rest (n ∷ numbers) = refl

-- the word of a line is that of its command, and its numbers stand behind
pub command_parts : (line word rest : List ℕ) → HasNoSpace word → IsRest rest → line ≡ word ++ rest
    → (command : Command) → line ≡ text_of command
    → (word ≡ (parts_of command).0) × (rest ≡ flat_map spaced_number (parts_of command).1)
command_parts line word rest none is whole command e =
    cut_one_way word (parts_of command).0 rest (flat_map spaced_number (parts_of command).1) none (word_no_space command) is (numbers_rest (parts_of command).1) (sym whole ∙ e)

-- a text behind the word, where the word is none of those that numbers follow
pub no_bare_word : (line word : List ℕ) (rest : Option (Bor (List ℕ))) → HasNoSpace word
    → line ≡ word ++ rest_text rest → is_some rest ≡ true
    → word ≢ codes "unordered" → word ≢ codes "ordered" → word ≢ codes "growing"
    → word ≢ codes "steps" → word ≢ codes "limit" → word ≢ codes "push"
    → word ≢ codes "back" → word ≢ codes "front" → word ≢ codes "wake"
    → word ≢ codes "mark" → word ≢ codes "go"
    → (command : Command) → line ≢ text_of command
no_bare_word line word rest none whole some not_unordered not_ordered not_growing not_steps not_limit not_push not_back not_front not_wake not_mark not_go command e =
    by_command command (command_parts line word (rest_text rest) none (rest_is rest) whole command e)
  where
    more : (rest : Option (Bor (List ℕ))) → is_some rest ≡ true → rest_text rest ≡ [] → ⊥
    more None some empty = cc
    more (Some rest) some empty = cc

    by_command : (command : Command)
        → (word ≡ (parts_of command).0) × (rest_text rest ≡ flat_map spaced_number (parts_of command).1)
        → ⊥
    by_command (Unordered capacity) parts = not_unordered parts.0
    by_command (Ordered capacity) parts = not_ordered parts.0
    by_command (Growing capacity) parts = not_growing parts.0
    by_command (Steps capacity) parts = not_steps parts.0
    by_command (Limit limit) parts = not_limit parts.0
    by_command (Push future) parts = not_push parts.0
    by_command (Back future) parts = not_back parts.0
    by_command (Front future) parts = not_front parts.0
    by_command (Wake slot) parts = not_wake parts.0
    by_command Poll parts = more rest some parts.1
    by_command Len parts = more rest some parts.1
    by_command (Mark seat slot) parts = not_mark parts.0
    by_command (Go seat) parts = not_go parts.0
    by_command Step parts = more rest some parts.1

-- what a comparison that failed says
pub other_word : (word text codes : List ℕ) (test : Bool) → test ≡ pointwise eqb word text
    → test ≡ false → text ≡ codes → word ≢ codes
other_word word text codes test compared failed is same =
    true≢false (sym ((bytes_eq-Decides word text).1 (same ∙ sym is)) ∙ sym compared ∙ failed)
