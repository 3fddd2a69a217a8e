use Rattle.futures_buffered_core.proofs.Common.{◌≡◌, refl, ◌∙◌, subst, arith, rules, range_with_len, FoldsTo-push, MarksEach, MarksSlot}
use Rattle.futures_buffered_core.proofs.RangeLemmas.{range_push}
use Rattle.futures_buffered_core.proofs.ready_source.NewSource.make_marked.Goals as goal

pub slots-init : goal.slots-init
slots-init g c = record { marked = refl; same_size = g.met.Self.NewSource.made_slots _ _ c.in_ok-source.ensures.made }

pub slots-preserved : goal.slots-preserved
slots-preserved g c =
    let marks = g.Self.ReadySource.marks in
    record {
      marked = rw (range_push c.slots.i) (FoldsTo-push (MarksSlot marks) c.in_ok-source.source (range_with_len 0 c.slots.i) c.slots.source c.slots.i c.mark-woke.new.self c.slots.invariant.marked (c.mark-woke.result, c.mark-woke.ensures));
      same_size = g.met.Self.ReadySource.laws.mark_keeps _ _ _ _ c.mark-woke.ensures ∙ c.slots.invariant.same_size;
    }

pub returns : goal.returns
returns g c =
    let all : c.slots.i ≡ c.args.cap = omega arith in
    record {
      made = record {
        new_source = c.in_ok-source.source;
        was_made = c.in_ok-source.ensures.made;
        marked = subst (λ k. MarksEach g.Self.ReadySource.marks c.in_ok-source.source (range_with_len 0 k) c.slots.source) all c.slots.invariant.marked;
      };
      refuses = search rules;
    }
