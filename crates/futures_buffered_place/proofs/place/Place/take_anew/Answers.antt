use Rattle.futures_buffered_place.proofs.Common.{◌∙◌, refl, sym, subst, None, new_taker, TakesOut, no_history}
use Rattle.futures_buffered_place.proofs.PlaceLemmas.{won_slot}
use Rattle.futures_buffered_place.proofs.ShapeLemmas.{by_steps, missed_it, missed_none, took}
use Rattle.futures_buffered_place.proofs.place.Place.take_anew.Goals as goal
use Rattle.futures_buffered_place.proofs.place.Place.take_anew.Goals.{then-found-ne-PRESENT-via-then-found-ne-PRESENT, then-found-ne-PRESENT-via-else-found-ne-PRESENT+then-win-ne-PRESENT}

pub empty-outer-requires : goal.empty-outer-requires
empty-outer-requires g c =
    let w = c.win.ensures in let s = won_slot g.J.Shown.made c.look_anew-found.result.1.me.0 c.win.result c.win.new.seat.me w.1 c.if-win-ne-PRESENT.false in
    (w.0 ∙ (c.look_anew-found.ensures.0), s.0, s.1)

pub returns-then-found-ne-PRESENT-clause-taken : goal.returns-then-found-ne-PRESENT-clause-taken
returns-then-found-ne-PRESENT-clause-taken g c =
    let made = g.J.Shown.made in let first = c.look_anew-found.result.1 in let found = c.look_anew-found.result.0 in
    elim c.then-found-ne-PRESENT.branch [
      | then-found-ne-PRESENT-via-then-found-ne-PRESENT w ↦ subst (λ s. TakesOut made no_history None s.me.0.steps) (sym w.seat-is)
          (by_steps made new_taker first.me.0 None (missed_none made new_taker refl first.me found c.look_anew-found.ensures.1 w.if-found-ne-PRESENT.true))
      | then-found-ne-PRESENT-via-else-found-ne-PRESENT+then-win-ne-PRESENT w ↦ subst (λ s. TakesOut made no_history None s.me.0.steps) (sym w.seat-is)
          (by_steps made new_taker w.win.new.seat.me.0 None (missed_it made new_taker refl first.me found c.look_anew-found.ensures.1 w.win.result w.win.new.seat.me w.win.ensures.1
          w.if-found-ne-PRESENT.false w.if-win-ne-PRESENT.true))
    ]

pub returns-clause-taken : goal.returns-clause-taken
returns-clause-taken g c =
    let made = g.J.Shown.made in let first = c.look_anew-found.result.1 in
    by_steps made new_taker c.empty-outer.new.seat.me.0 c.empty-outer.result
    (took made new_taker refl first.me c.look_anew-found.result.0 c.look_anew-found.ensures.1 c.win.result c.win.new.seat.me c.win.ensures.1
    c.if-found-ne-PRESENT.false c.if-win-ne-PRESENT.false c.empty-outer.result c.empty-outer.ensures.0 c.empty-outer.new.seat.me c.empty-outer.ensures.1.1)
