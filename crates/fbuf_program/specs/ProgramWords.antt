-- What the program's words ask for, its message for a fault, and its exit status.
use Rattle.std.specs.Prelude.{◌≡◌, ◌≢◌, ℕ, ◌≤◌, List, [], ◌∷◌, Option, Some, None, codes, Result, Ok, Err, IfSome}
use Rattle.std.specs.Fmt.{decimal}
use Rattle.fbuf_program.specs.Script.{AppendsReplies, AppendsPartOfReplies}
use Rattle.fbuf_program.specs.Threads.{AppendsThreadsLine}
use Rattle.fbuf_program.specs.declared.script.ScriptFault.{ScriptFault}
use Rattle.fbuf_program.specs.declared.script.ScriptFault.TheVariants as script
use Rattle.fbuf_program.specs.declared.threads.ThreadsFault.{ThreadsFault}
use Rattle.fbuf_program.specs.declared.threads.ThreadsFault.TheVariants as threads
use Rattle.fbuf_program.specs.declared.threads.TheConstants.{MAX_THREADS, MAX_WAKES}
use Rattle.fbuf_program.specs.declared.program_words.Call.{Call}
use Rattle.fbuf_program.specs.declared.program_words.Call.TheVariants.{Script, Threads}
use Rattle.fbuf_program.specs.declared.program_words.Fault.{Fault}
use Rattle.fbuf_program.specs.declared.program_words.Fault.TheVariants.{Usage, Memory, Read, Write, Start}

-- the message for a fault, which comes after the program's name on a line of standard error
abbrev pub message_of : Fault → List ℕ
message_of Usage = codes "usage: fbuf, or fbuf threads N M"
message_of Memory = codes "out of memory"
message_of Read = codes "read failed"
message_of Write = codes "write failed"
message_of Start = codes "thread failed"

-- the exit status for a fault
abbrev pub status_of : Fault → ℕ
status_of Usage = 2
status_of Memory = 1
status_of Read = 1
status_of Write = 1
status_of Start = 1

-- the exit status, which is 0 if the call succeeded
abbrev pub ended_status : {A : Type 0} → Result A Fault → ℕ
ended_status (Ok done) = 0
ended_status (Err fault) = status_of fault

-- a run has 1 to 32 threads, of 1 to 1000000 wakes each
abbrev pub IsInBounds : Call → Type 0
IsInBounds Script = Unit {0}
IsInBounds (Threads threads wakes) = (1 ≤ threads) × (threads ≤ MAX_THREADS) × (1 ≤ wakes) × (wakes ≤ MAX_WAKES)

-- the words of a call after the program's name
abbrev pub words_of : Call → List (List ℕ)
words_of Script = []
words_of (Threads threads wakes) = codes "threads" ∷ decimal threads ∷ decimal wakes ∷ []

abbrev pub behind_name : List (List ℕ) → List (List ℕ)
behind_name [] = []
behind_name (name ∷ words) = words

-- words ask for the call that they write, and for none if they write none
abbrev pub WordsAskFor : List (List ℕ) → Option Call → Type 0
WordsAskFor words (Some call) = (behind_name words ≡ words_of call) × IsInBounds call
WordsAskFor words None = (call : Call) → IsInBounds call → behind_name words ≢ words_of call

-- at status 0 all replies to a script were written, and at status 1 a beginning of them
pub record EndsScript (status : ℕ) (bytes : List ℕ) (old new : Option (List ℕ)) : Type 0 where
  pub done : status ≡ 0 → AppendsReplies bytes old new
  pub failed : status ≡ 1 → AppendsPartOfReplies bytes old new

-- what a call has written, by its status; the bytes of a script may be known
abbrev pub ProgramEnds : Call → ℕ → Option (List ℕ) → Option (List ℕ) → Option (List ℕ) → Type 0
ProgramEnds Script status input old new = IfSome input (λ bytes. EndsScript status bytes old new)
ProgramEnds (Threads n m) status input old new = status ≡ 0 → AppendsThreadsLine n m old new

-- the program's fault, by the fault of its script or of its run of threads
abbrev pub fault_of_script : ScriptFault → Fault
fault_of_script script.Read = Read
fault_of_script script.Write = Write
fault_of_script script.Memory = Memory

abbrev pub fault_of_threads : ThreadsFault → Fault
fault_of_threads threads.Memory = Memory
fault_of_threads threads.Thread = Start
fault_of_threads threads.Write = Write
