use Rattle.fbuf_program.proofs.Common.{sym, ◌∙◌}
use Rattle.fbuf_program.proofs.ProgramWordsLemmas.{usage_status}
use Rattle.fbuf_program.proofs.program_words.run_words.Goals as goal
use Rattle.fbuf_program.proofs.program_words.run_words.Goals.{in-Ok, in-Err}

pub returns-in-Err-ended-clause-usage : goal.returns-in-Err-ended-clause-usage
returns-in-Err-ended-clause-usage g c =
    elim c.match-words.branch [
      | in-Ok w ↦ usage_status c.args.words w.in-Ok.given _ _ c.in-Err-ended.fault _ w.in-Ok.is
          (sym w.ended-is ∙ c.in-Err-ended.is) c.status.ensures w.do_call-ended.ensures.usage
      | in-Err w ↦ rw w.in-Err.is tt
    ]
