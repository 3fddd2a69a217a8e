-- The words of a call, taken one by one, and the status that a call ends with.
use Rattle.fbuf_program.proofs.Common.{◌≡◌, ◌↔◌, ◌<◌, ◌⊎◌, ℕ, false, List, [], ◌∷◌, length, Option, Some, None, Result, Ok, Err, IfOk, IfErr, OnOk, IfSome, is_some, IsSome, refl, sym, ap, subst, ◌∙◌, arith, inl, inr, codes, decimal_injective, Appends-nil, take-length, lines_of, first_session, AppendsFirstReplies, AppendsPartOfReplies, AppendsThreadsLine}
use Rattle.std.specs.Fmt.{decimal}
use Rattle.fbuf_program.specs.ProgramWords.{WordsAskFor, ProgramEnds, EndsScript}
use Rattle.fbuf_program.specs.ProgramWords.{status_of, ended_status, fault_of_script}
use Rattle.fbuf_program.specs.declared.program_words.Call.{Call}
use Rattle.fbuf_program.specs.declared.program_words.Call.TheVariants.{Script, Threads}
use Rattle.fbuf_program.specs.declared.script.ScriptFault.{ScriptFault}
use Rattle.fbuf_program.specs.declared.script.ScriptFault.TheVariants as script
use Rattle.fbuf_program.specs.declared.program_words.Fault.{Fault}
use Rattle.fbuf_program.specs.declared.program_words.Fault.TheVariants.{Usage, Memory, Read, Write}
use Rattle.fbuf_program.specs.declared.program_words.Fault.TheVariants.{Start}

-- where the next word is none, no word is left
pub no_word_left : {X : Type 0} (words : List X) (count : ℕ) (next : Option X)
    → count ≡ length words → IsSome next ↔ (0 < count) → is_some next ≡ false → words ≡ []
no_word_left [] count next counted there none = refl
no_word_left (word ∷ words) count None counted there none =
    absurd (let some = there.1 (omega (arith, counted)) in cc)
no_word_left (word ∷ words) count (Some next) counted there none = cc

usage_of_status : (fault : Fault) → status_of fault ≡ 2 → fault ≡ Usage
usage_of_status Usage two = refl
usage_of_status Memory two = cc
usage_of_status Read two = cc
usage_of_status Write two = cc
usage_of_status Start two = cc

-- the status is 2 exactly where the fault is one of usage
pub usage_status : {X A E : Type 0} (words : Result X E) (given : X) (P : X → Type 0)
    (ended : Result A Fault) (fault : Fault) (status : ℕ)
    → words ≡ Ok given → ended ≡ Err fault → status ≡ status_of fault
    → (ended ≡ Err Usage) ↔ P given → IfOk words (λ given. (status ≡ 2) ↔ P given)
usage_status {A = A} words given P ended fault status are is told known =
    subst (λ words. IfOk words (λ given. (status ≡ 2) ↔ P given)) (sym are) (
      λ two. known.0 (is ∙ ap Err (usage_of_status fault (sym told ∙ two))),
      λ asked. usage (known.1 asked),
    )
  where
    usage : ended ≡ Err Usage → status ≡ 2
    usage asked = let same : fault ≡ Usage = (let both = sym is ∙ asked in cc) in
        told ∙ ap status_of same

-- nothing of the replies was appended
none_appended : (bytes : List ℕ) (old : Option (List ℕ)) → AppendsPartOfReplies bytes old old
none_appended bytes old =
    record {
      before = [];
      after = lines_of bytes;
      lines = refl;
      text = [];
      replied = record { replies = []; last = first_session; given = refl; written = refl };
      count = 0;
      appended = Appends-nil old;
    }

-- the replies to some lines are a part of the replies
first_are_part : (bytes : List ℕ) (old new : Option (List ℕ))
    → AppendsFirstReplies bytes old new → AppendsPartOfReplies bytes old new
first_are_part bytes old new first =
    record {
      before = first.before;
      after = first.line ∷ first.after;
      lines = first.lines;
      text = first.text;
      replied = first.replied;
      count = length first.text;
      appended = rw (take-length first.text) first.appended;
    }

-- what a script that was ended by a fault has written
pub script_part : (known old new : Option (List ℕ)) (fault : ScriptFault)
    → (fault ≡ script.Read → new ≡ old)
    → (fault ≡ script.Write → IfSome known (λ bytes. AppendsPartOfReplies bytes old new))
    → (fault ≡ script.Memory
    → (new ≡ old) ⊎ IfSome known (λ bytes. AppendsFirstReplies bytes old new))
    → IfSome known (λ bytes. AppendsPartOfReplies bytes old new)
script_part None old new fault read write memory = tt
script_part (Some bytes) old new script.Read read write memory =
    subst (AppendsPartOfReplies bytes old) (sym (read refl)) (none_appended bytes old)
script_part (Some bytes) old new script.Write read write memory = write refl
script_part (Some bytes) old new script.Memory read write memory =
    elim (memory refl) [
      | inl same ↦ subst (AppendsPartOfReplies bytes old) (sym same) (none_appended bytes old)
      | inr first ↦ first_are_part bytes old new first
    ]

-- a status of 1 says that no more than a part was written
pub ends_in_part : (known old new : Option (List ℕ)) (status : ℕ) → status ≡ 1
    → IfSome known (λ bytes. AppendsPartOfReplies bytes old new)
    → IfSome known (λ bytes. EndsScript status bytes old new)
ends_in_part None old new status one part = tt
ends_in_part (Some bytes) old new status one part =
    record { done = λ none. absurd (omega (arith, one, none)); failed = λ _. part }

pub nothing_written : (known old : Option (List ℕ))
    → IfSome known (λ bytes. AppendsPartOfReplies bytes old old)
nothing_written None old = tt
nothing_written (Some bytes) old = none_appended bytes old

pub script_status : (fault : ScriptFault) (given : Fault) → given ≡ fault_of_script fault
    → status_of given ≡ 1
script_status script.Read given is = ap status_of is
script_status script.Write given is = ap status_of is
script_status script.Memory given is = ap status_of is

-- a task that was not begun has the status 1
pub start_status : (given : Fault) → (given ≡ Memory) ⊎ (given ≡ Start) → status_of given ≡ 1
start_status given (inl is) = ap status_of is
start_status given (inr is) = ap status_of is

-- status 0 says that the run did what it was asked for
pub done_at_zero : {A : Type 0} (ended : Result A Fault) (P : Type 0)
    → IfErr ended (λ fault. status_of fault ≡ 1) → OnOk ended P → ended_status ended ≡ 0 → P
done_at_zero (Ok done) P fault ok none = ok
done_at_zero (Err given) P fault ok none = absurd (omega (arith, fault, none))

-- words that ask for a run of threads ask for no other call
pub threads_end : (words : List (List ℕ)) (n m status : ℕ) (known old new : Option (List ℕ))
    → WordsAskFor words (Some (Threads n m)) → (status ≡ 0 → AppendsThreadsLine n m old new)
    → (call : Call) → WordsAskFor words (Some call) → ProgramEnds call status known old new
threads_end words n m status known old new asked done Script asks =
    let none = sym asks.0 ∙ asked.0 in cc
threads_end words n m status known old new asked done (Threads p q) asks =
    let same : codes "threads" ∷ decimal n ∷ decimal m ∷ [] ≡ codes "threads" ∷ decimal p ∷ decimal q ∷ [] =
    sym asked.0 ∙ asks.0 in
    let bounds = asked.1 in
    let others = asks.1 in
    let threads : n ≡ p =
    decimal_injective n p (omega (arith, bounds)) (omega (arith, others)) (cc) in
    let wakes : m ≡ q =
    decimal_injective m q (omega (arith, bounds)) (omega (arith, others)) (cc) in
    λ none. subst (λ k. AppendsThreadsLine k q old new) threads
    (subst (λ k. AppendsThreadsLine n k old new) wakes (done none))
