use Rattle.futures_buffered_place.proofs.Common.{◌∙◌, false, sym, subst, Busy, PutsBy}
use Rattle.futures_buffered_place.proofs.PlaceLemmas.{won_slot}
use Rattle.futures_buffered_place.proofs.ShapeLemmas.{filled_free, filled_kept, met_free, met_it, met_other}
use Rattle.futures_buffered_place.proofs.place.Place.put_beside.Goals as goal
use Rattle.futures_buffered_place.proofs.place.Place.put_beside.Goals.{then-found-ne-PRESENT-via-then-found-ne-PRESENT, then-found-ne-PRESENT-via-else-found-ne-PRESENT+then-win-ne-PRESENT}

pub fill-requires-2 : goal.fill-requires-2
fill-requires-2 g c =
    let w = c.win.ensures in let s = won_slot g.J.Shown.made c.look-found.new.seat.me.0 c.win.result c.win.new.seat.me w.1 c.if-win-ne-PRESENT.false in
    (w.0 ∙ (c.look-found.ensures.0 ∙ c.requires.0.0), s.0, s.1)

pub returns-then-win_free-ne-FREE-clause-put : goal.returns-then-win_free-ne-FREE-clause-put
returns-then-win_free-ne-FREE-clause-put g c =
    met_free g.J.Shown.made c.args.seat.now.me.0 c.requires.0.1 c.look-found.new.seat.me c.look-found.result c.look-found.ensures.1
    c.win_free.result c.win_free.new.seat.me c.win_free.ensures.1 c.if-found-eq-FREE.true c.args.outer c.if-win_free-ne-FREE.true

pub returns-then-found-eq-FREE-clause-put : goal.returns-then-found-eq-FREE-clause-put
returns-then-found-eq-FREE-clause-put g c =
    filled_free g.J.Shown.made c.args.seat.now.me.0 c.requires.0.1 c.look-found.new.seat.me c.look-found.result c.look-found.ensures.1
    c.win_free.result c.win_free.new.seat.me c.win_free.ensures.1 c.if-found-eq-FREE.true c.if-win_free-ne-FREE.false
    c.fill.result c.fill.ensures.0 c.args.outer c.fill.new.seat.me c.fill.ensures.1.1

pub returns-then-found-ne-PRESENT-clause-put : goal.returns-then-found-ne-PRESENT-clause-put
returns-then-found-ne-PRESENT-clause-put g c =
    let made = g.J.Shown.made in let v = c.args.seat.now.me.0 in
    let found = c.look-found.result in
    elim c.then-found-ne-PRESENT.branch [
      | then-found-ne-PRESENT-via-then-found-ne-PRESENT w ↦ subst (λ s. PutsBy false made c.args.outer v (Busy c.args.outer) s.me.0) (sym w.seat-is)
          (met_other made v c.requires.0.1 c.look-found.new.seat.me found c.look-found.ensures.1 false c.args.outer c.if-found-eq-FREE.false w.if-found-ne-PRESENT.true)
      | then-found-ne-PRESENT-via-else-found-ne-PRESENT+then-win-ne-PRESENT w ↦ subst (λ s. PutsBy false made c.args.outer v (Busy c.args.outer) s.me.0) (sym w.seat-is)
          (met_it made v c.requires.0.1 c.look-found.new.seat.me found c.look-found.ensures.1 w.win.result w.win.new.seat.me w.win.ensures.1 w.if-found-ne-PRESENT.false false c.args.outer w.if-win-ne-PRESENT.true)
    ]

pub returns-clause-put : goal.returns-clause-put
returns-clause-put g c =
    let made = g.J.Shown.made in let v = c.args.seat.now.me.0 in
    let found = c.look-found.result in
    filled_kept made v c.requires.0.1 c.look-found.new.seat.me found c.look-found.ensures.1 c.win.result c.win.new.seat.me c.win.ensures.1 c.if-found-ne-PRESENT.false
    c.if-win-ne-PRESENT.false c.fill-2.result c.fill-2.ensures.0 false c.args.outer c.fill-2.new.seat.me c.fill-2.ensures.1.1
