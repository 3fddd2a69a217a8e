use Rattle.futures_buffered_unordered.proofs.Common.{Bounded, Some, refl, sym, arith, ◌∙◌, length-set, ap, subst, Covers, AllHeld, Empty, Pause}
use Rattle.futures_buffered_unordered.proofs.PollsBoundedLemmas.{SoFar-start, SoFar-skip, SoFar-pending, takes_all, takes_last, takes_ready}
use Rattle.futures_buffered_unordered.proofs.futures_unordered_bounded.BoundedSet.poll_first_registered.Goals.{in-Some+in_default-poll_one, in_default}
use Rattle.futures_buffered_unordered.proofs.futures_unordered_bounded.BoundedSet.poll_first_registered.Goals as goal

pub returns-in-Empty : goal.returns-in-Empty
returns-in-Empty g c =
    let so = c.names.invariant in
    takes_last g.R.PollOne g.S.ReadySource c.args.self.now _ _ _ _ so.so_far so.same_limit _ _ Empty _ c.in-Empty.ensures (omega (arith, ap (λ (v : Bounded g.row.F.Denot g.row.S.Denot). v.limit) c.self.view_is), so.same_context) (so.covers.0, λ n h. so.covers.1 n (g.met.S.ReadySource.laws.take_needs _ _ _ c.in-Empty.ensures n h)) (rw so.same_context (λ fact holds. holds))

pub returns-in-Pause : goal.returns-in-Pause
returns-in-Pause g c =
    let so = c.names.invariant in
    let woken = c.yield_now.ensures in
    rw woken.pending (takes_last g.R.PollOne g.S.ReadySource c.args.self.now _ _ _ _ so.so_far so.same_limit _ _ Pause _ c.in-Pause.ensures (omega (arith, ap (λ (v : Bounded g.row.F.Denot g.row.S.Denot). v.limit) c.self.view_is), woken.heard) (woken.armed, λ n waits. woken.heard n) (rw (← so.same_context) woken.kept))

pub returns-in-Ready : goal.returns-in-Ready
returns-in-Ready g c =
    let so = c.names.invariant in
    takes_ready g.R.PollOne g.S.ReadySource c.args.self.now _ _ _ _ so.so_far so.same_limit _ _ c.in-Slot.i _ _ c.poll_one.new.held c.in-Ready.output (omega (arith, ap (λ (v : Bounded g.row.F.Denot g.row.S.Denot). v.limit) c.self.view_is)) c.in-Slot.ensures c.in-Some.ensures.value (c.in-Ready.ensures.polled c.in-Slot.i c.waker-waker.ensures) c.in-Ready.ensures.goes_on so.same_context (so.covers.0, λ n h. so.covers.1 n (g.met.S.ReadySource.laws.take_needs _ _ _ c.in-Slot.ensures n h))

pub returns : goal.returns
returns g c =
    let so = c.names.invariant in
    let woken = c.yield_now-2.ensures in
    rw woken.pending (takes_all g.R.PollOne g.S.ReadySource c.args.self.now _ _ _ _ so.so_far so.same_limit _ _ (omega (arith, so.same_limit, ap (λ (v : Bounded g.row.F.Denot g.row.S.Denot). v.limit) c.self.view_is), woken.heard) (woken.armed, λ n waits. woken.heard n) (rw (← so.same_context) woken.kept))

pub names-preserved : goal.names-preserved
names-preserved g c =
    let source = g.S.ReadySource in
    let rule = g.R.PollOne in
    let so = c.names.invariant in
    let slots = c.names.self-inside.slots in
    let keeps = g.met.S.ReadySource.laws.take_keeps _ _ _ c.in-Slot.ensures ∙ so.same_size in
    elim c.match-get.branch [
      | in-Some+in_default-poll_one w ↦ rw w.self-inside-is (record {
        so_far = SoFar-pending rule source c.args.self.now _ c.in-Slot.i slots _ _ _ w.poll_one.new.held so.so_far c.in-Slot.ensures w.in-Some.ensures.value (w.in_default-poll_one.ensures.polled c.in-Slot.i c.waker-waker.ensures) w.in_default-poll_one.ensures.again;
        same_size = keeps ∙ sym (length-set slots.places c.in-Slot.i (Some w.poll_one.new.held));
        some_names = so.some_names;
        same_limit = so.same_limit;
        covers = (so.covers.0, λ n h. so.covers.1 n (g.met.S.ReadySource.laws.take_needs _ _ _ c.in-Slot.ensures n h));
        same_context = so.same_context;
      })
      | in_default w ↦ rw w.self-inside-is (record {
        so_far = SoFar-skip rule source c.args.self.now _ c.in-Slot.i slots _ _ so.so_far c.in-Slot.ensures (sym w.in_default.ensures.value);
        same_size = keeps;
        some_names = so.some_names;
        same_limit = so.same_limit;
        covers = (so.covers.0, λ n h. so.covers.1 n (g.met.S.ReadySource.laws.take_needs _ _ _ c.in-Slot.ensures n h));
        same_context = so.same_context;
      })
    ]

pub names-init : goal.names-init
names-init g c =
    let view = c.self.view_is in
    record {
      so_far = SoFar-start g.R.PollOne g.S.ReadySource c.args.self.now _ _ (ap (λ (v : Bounded g.row.F.Denot g.row.S.Denot). v.slots) view) (ap (λ (v : Bounded g.row.F.Denot g.row.S.Denot). v.source) view) (subst (λ (v : Bounded g.row.F.Denot g.row.S.Denot). AllHeld g.R.PollOne.can_poll v.slots) (sym view) c.requires.held);
      same_size = c.self.invariant.0;
      some_names = c.self.invariant.1;
      same_limit = ap (λ (v : Bounded g.row.F.Denot g.row.S.Denot). v.limit) view;
      covers = subst (λ (v : Bounded g.row.F.Denot g.row.S.Denot). Covers c.args.cx.now (g.S.ReadySource.needs v.source)) (sym view) c.requires.registered;
      same_context = refl;
    }
