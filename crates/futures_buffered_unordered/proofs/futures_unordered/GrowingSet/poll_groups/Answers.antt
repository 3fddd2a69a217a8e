use Rattle.futures_buffered_unordered.proofs.Common.{true, false, is_some, arith, subst, ap, sym, refl, length, ◌∙◌, true≢false, Growing}
use Rattle.futures_buffered_unordered.proofs.GroupsStepLemmas.{GoesOn, goes_end, goes_ended, goes_output, goes_pending, goes_start, one_still_some}
use Rattle.futures_buffered_unordered.proofs.futures_unordered.GrowingSet.poll_groups.Goals.{in-Pending, in-Ready+in_default}
use Rattle.futures_buffered_unordered.proofs.futures_unordered.GrowingSet.poll_groups.Goals as goal

pub ask_one-requires-clause-some : goal.ask_one-requires-clause-some
ask_one-requires-clause-some g c =
    let long = ap (λ (v : Growing g.row.F.Denot g.row.S.Denot). length v.groups.listed) c.self.view_is in
    c.loop-asked.invariant.some (omega (arith, long))

pub loop-asked-init : goal.loop-asked-init
loop-asked-init g c = record {
  goes_on = goes_start g.R.AskGroup.asks c.args.self.now.groups c.args.cx.now;
  some = λ some. some;
  pollable = c.requires;
  limit = refl;
  covered = λ e. absurd (true≢false (sym e));
  kept = λ fact h. h;
}

pub returns-then-is_registered : goal.returns-then-is_registered
returns-then-is_registered g c =
    let asks = g.R.AskGroup.asks in
    let so = c.loop-asked.invariant in
    let long = ap (λ (v : Growing g.row.F.Denot g.row.S.Denot). length v.groups.listed) c.self.view_is in
    let goes_on = subst (λ b. GoesOn asks c.args.self.now.groups c.args.cx.now c.loop-asked._asked b c.loop-asked.self.groups c.loop-asked.cx) c.if-is_registered.true so.goes_on in
    record {
      gave = goes_end asks c.args.self.now.groups c.args.cx.now c.loop-asked._asked true _ _ goes_on (omega (arith, long));
      limit = so.limit;
      covered = so.covered c.if-is_registered.true;
      kept = so.kept;
      pollable = so.pollable;
    }

pub returns-else-is_registered : goal.returns-else-is_registered
returns-else-is_registered g c =
    let asks = g.R.AskGroup.asks in
    let so = c.loop-asked.invariant in
    let long = ap (λ (v : Growing g.row.F.Denot g.row.S.Denot). length v.groups.listed) c.self.view_is in
    let goes_on = subst (λ b. GoesOn asks c.args.self.now.groups c.args.cx.now c.loop-asked._asked b c.loop-asked.self.groups c.loop-asked.cx) c.if-is_registered.false so.goes_on in
    record {
      gave = goes_end asks c.args.self.now.groups c.args.cx.now c.loop-asked._asked false _ _ goes_on (omega (arith, long));
      limit = so.limit;
      covered = tt;
      kept = so.kept;
      pollable = so.pollable;
    }

pub returns-in-Some : goal.returns-in-Some
returns-in-Some g c =
    let so = c.loop-asked.invariant in
    let long = ap (λ (v : Growing g.row.F.Denot g.row.S.Denot). length v.groups.listed) c.self.view_is in
    record {
      gave = goes_output g.R.AskGroup.asks c.args.self.now.groups c.args.cx.now c.loop-asked._asked c.loop-asked.is_registered c.loop-asked.self.groups _ _ _ so.goes_on _ _ c.in-Some.is (omega (arith, long)) c.in-Ready.ensures.asked;
      limit = c.ask_one.ensures.limit ∙ so.limit;
      covered = tt;
      kept = λ fact h. c.ask_one.ensures.kept fact (so.kept fact h);
      pollable = c.ask_one.ensures.pollable;
    }

pub loop-asked-preserved : goal.loop-asked-preserved
loop-asked-preserved g c =
    let asks = g.R.AskGroup.asks in
    let old = c.args.self.now.groups in
    let cx = c.args.cx.now in
    let now = c.loop-asked.self.groups in
    let so = c.loop-asked.invariant in
    elim c.match-ask_one.branch [
      | in-Pending w ↦ rw w.is_registered-is (record {
        goes_on = goes_pending asks old cx c.loop-asked._asked c.loop-asked.is_registered now _ _ _ so.goes_on w.in-Pending.ensures.asked;
        some = λ _. one_still_some (asks c.loop-asked.is_registered) now _ _ _ _ w.in-Pending.ensures.asked;
        pollable = c.ask_one.ensures.pollable;
        limit = c.ask_one.ensures.limit ∙ so.limit;
        covered = λ e. w.in-Pending.ensures.covered;
        kept = λ fact h. c.ask_one.ensures.kept fact (so.kept fact h);
      })
      | in-Ready+in_default w ↦ rw w.is_registered-is (record {
        goes_on = goes_ended asks old cx c.loop-asked._asked c.loop-asked.is_registered now _ _ _ so.goes_on _ (ap is_some w.in_default.is) w.in-Ready.ensures.asked;
        some = λ _. one_still_some (asks c.loop-asked.is_registered) now _ _ _ _ w.in-Ready.ensures.asked;
        pollable = c.ask_one.ensures.pollable;
        limit = c.ask_one.ensures.limit ∙ so.limit;
        covered = λ e. c.ask_one.ensures.still_covered e;
        kept = λ fact h. c.ask_one.ensures.kept fact (so.kept fact h);
      })
    ]
