use Rattle.futures_buffered_ordered.proofs.Common.{rules, ◌++◌, [], ◌∷◌, sym, subst, arith, ◌∙◌, FoldsTo-push, length_push, BesideTask, SetYields, with_task}
use Rattle.futures_buffered_ordered.proofs.OrderedEntriesLemmas.{last_from}
use Rattle.futures_buffered_ordered.proofs.ordered_entries.OrderedEntries.poll_entries.Goals as goal

pub loop-self-preserved : goal.loop-self-preserved
loop-self-preserved g c =
    let so_far = c.loop-self.invariant.row in
    let out = c.in-Ready.ensures.gave.0 in
    let left = c.keep_next.ensures.queue in
    record {
      row = (
        so_far.0 ++ out ∷ [],
        FoldsTo-push (SetYields (BesideTask g.Q.NumberedPolls.gives)) (with_task c.args.self.now c.args.cx.now) so_far.0 (with_task c.loop-self.self c.loop-self.cx) out (with_task c.keep_next.new.self c.keep_next.new.cx) so_far.1 c.in-Ready.ensures.gave.1,
        omega (arith, length_push so_far.0 out, so_far.2, c.in-Ready.ensures.fewer),
      );
      pollable = left.pollable;
      keeps = g.met.Q.NumberedSet.keeps_on _ _ _ c.loop-self.invariant.keeps left.set;
      same_room = left.room ∙ c.loop-self.invariant.same_room;
      kept = λ fact h. left.kept fact (c.loop-self.invariant.kept fact h);
      numbered = c.keep_next.ensures.numbered;
    }

pub returns-in-Pending : goal.returns-in-Pending
returns-in-Pending g c =
    let so = c.loop-self.invariant in
    let left = c.in-Pending.ensures.queue in
    record {
      polls = record {
        gave = record { yielded = so.row.0; before = with_task c.loop-self.self c.loop-self.cx; row = so.row.1; count_left = so.row.2; last_step = c.in-Pending.ensures.waits };
        queue = record {
          set = g.met.Q.NumberedSet.keeps_on _ _ _ so.keeps left.set;
          room = left.room ∙ so.same_room;
          holds = left.holds;
          covered = left.covered;
          kept = λ fact h. left.kept fact (so.kept fact h);
          pollable = left.pollable;
        };
      };
      numbered = c.in-Pending.ensures.numbered;
    }

pub returns : goal.returns
returns g c =
    let so = c.loop-self.invariant in
    let same = c.pop_kept.ensures.set in
    record {
      polls = record {
        gave = record { yielded = so.row.0; before = with_task c.loop-self.self c.loop-self.cx; row = so.row.1; count_left = so.row.2; last_step = last_from g.Q.NumberedPolls.gives c.loop-self.self c.pop_kept.new.self c.loop-self.cx c.pop_kept.result c.pop_kept.ensures.front same };
        queue = record {
          set = subst (g.Q.NumberedSet.keeps c.args.self.now.set) (sym same) so.keeps;
          room = search rules;
          holds = tt;
          covered = tt;
          kept = so.kept;
          pollable = subst g.Q.NumberedPolls.can_poll (sym same) so.pollable;
        };
      };
      numbered = c.pop_kept.ensures.numbered;
    }
