use Rattle.fbuf_program.proofs.Common.{ap, Err, inl, inr}
use Rattle.fbuf_program.proofs.ProgramWordsLemmas.{ends_in_part, nothing_written, script_part}
use Rattle.fbuf_program.proofs.ProgramWordsLemmas.{script_status, start_status}
use Rattle.fbuf_program.proofs.program_words.answer_script.Goals as goal

pub returns-in-Err-clause-ends : goal.returns-in-Err-clause-ends
returns-in-Err-clause-ends g c =
    ends_in_part _ _ _ _ (start_status _ c.start_fault.ensures.either) (nothing_written _ _)

pub returns-clause-ends : goal.returns-clause-ends
returns-clause-ends g c =
    let ended = c.in-Err-answered.ensures in
    ends_in_part _ _ _ _ (script_status c.in-Err-answered.fault _ c.from.ensures)
    (script_part _ _ _ c.in-Err-answered.fault
    (λ is. ap (λ w. g.W.Write.contents w.inner) (ended.read (ap Err is)).0)
    (λ is. (ended.write (ap Err is)).1)
    (λ is.
    elim (ended.memory (ap Err is)) [
      | inl same ↦ inl (ap (λ w. g.W.Write.contents w.inner) same)
      | inr first ↦ inr first
    ]))
