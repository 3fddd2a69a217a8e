use Rattle.fbuf_program.proofs.Common.{◌≡◌, [], ◌∷◌, codes, not, sym, ap, ◌∙◌}
use Rattle.std.specs.String.{string_bytes}
use Rattle.std.proofs.lemmas.Slice.Eq.{bytes_eq-Decides}
use Rattle.fbuf_program.proofs.ProgramWordsLemmas.{no_word_left}
use Rattle.fbuf_program.proofs.program_words.call_of.Goals as goal

pub returns-then-is_none : goal.returns-then-is_none
returns-then-is_none c =
    let threads = c.in_ok-threads.ensures.some in let wakes = c.in_ok-wakes.ensures.some in
    let same = (bytes_eq-Decides c.as_bytes-3.result.now c.as_slice.result.now).0 (sym c.eq.ensures ∙ c.if-eq.true) in
    let first : string_bytes c.in-Some-next.first ≡ codes "threads" = sym c.as_bytes-3.ensures.value ∙ (same ∙ c.as_slice.ensures) in
    let last = no_word_left c.next-4.new.self.rest.items _ _ c.next-4.new.self.rest.ok.0 c.next-then-eq.ensures.variant (c.is_none.ensures ∙ ap not c.if-is_none.true) in (
      rw (c.in-Some.ensures.items, c.in-Some-next.ensures.items, c.in_ok-next.ensures.items, c.in_ok-next-2.ensures.items, last)
          (λ k. first k ∷ (sym c.as_bytes.ensures.value ∙ threads.2) k ∷ (sym c.as_bytes-2.ensures.value ∙ wakes.2) k ∷ []),
      (threads.0, threads.1, wakes.0, wakes.1),
    )
