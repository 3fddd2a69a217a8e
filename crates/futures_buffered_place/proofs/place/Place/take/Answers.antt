use Rattle.futures_buffered_place.proofs.Common.{◌∙◌, sym, subst, None, TakesBy}
use Rattle.futures_buffered_place.proofs.PlaceLemmas.{won_slot}
use Rattle.futures_buffered_place.proofs.ShapeLemmas.{missed_it, missed_none, took}
use Rattle.futures_buffered_place.proofs.place.Place.take.Goals as goal
use Rattle.futures_buffered_place.proofs.place.Place.take.Goals.{then-look-ne-PRESENT-via-then-look-ne-PRESENT, then-look-ne-PRESENT-via-else-look-ne-PRESENT+then-win-ne-PRESENT}

pub empty-requires : goal.empty-requires
empty-requires g c =
    let w = c.win.ensures in let s = won_slot g.J.Shown.made c.look.new.seat.me.0 c.win.result c.win.new.seat.me w.1 c.if-win-ne-PRESENT.false in
    (w.0 ∙ (c.look.ensures.0 ∙ c.requires.0), s.0, s.1)

pub returns-then-look-ne-PRESENT-clause-taken : goal.returns-then-look-ne-PRESENT-clause-taken
returns-then-look-ne-PRESENT-clause-taken g c =
    let made = g.J.Shown.made in let v = c.args.seat.now.me.0 in
    elim c.then-look-ne-PRESENT.branch [
      | then-look-ne-PRESENT-via-then-look-ne-PRESENT w ↦ subst (λ s. TakesBy made v None s.me.0) (sym w.seat-is)
          (missed_none made v c.requires.1 c.look.new.seat.me c.look.result c.look.ensures.1 w.if-look-ne-PRESENT.true)
      | then-look-ne-PRESENT-via-else-look-ne-PRESENT+then-win-ne-PRESENT w ↦ subst (λ s. TakesBy made v None s.me.0) (sym w.seat-is)
          (missed_it made v c.requires.1 c.look.new.seat.me c.look.result c.look.ensures.1 w.win.result w.win.new.seat.me w.win.ensures.1 w.if-look-ne-PRESENT.false w.if-win-ne-PRESENT.true)
    ]

pub returns-clause-taken : goal.returns-clause-taken
returns-clause-taken g c =
    took g.J.Shown.made c.args.seat.now.me.0 c.requires.1 c.look.new.seat.me c.look.result c.look.ensures.1 c.win.result c.win.new.seat.me c.win.ensures.1
    c.if-look-ne-PRESENT.false c.if-win-ne-PRESENT.false c.empty.result c.empty.ensures.0 c.empty.new.seat.me c.empty.ensures.1.1
