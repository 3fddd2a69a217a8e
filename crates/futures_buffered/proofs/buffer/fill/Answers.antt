use Rattle.futures_buffered.proofs.Common.{refl}
use Rattle.futures_buffered.proofs.BufferLemmas.{fill_gave, fill_item, fill_none}
use Rattle.futures_buffered.proofs.buffer.fill.Goals as goal

pub draws-preserved : goal.draws-preserved
draws-preserved g c =
    let drew = c.in-Some.ensures.drew in
    rw drew.2 (fill_item g.St.Stream g.Q.FutureQueue (record { stream = c.args.stream.now; queue = c.args.queue.now }) c.draws.stream c.draws.queue _ _ _ c.draws.invariant c.in-Some.ensures.task.kept drew.0 c.in-Some.item c.push.new.self drew.1 (rw drew.2 at c.next_item.ensures.next) c.push.ensures.again c.in_default-push.ensures.pushed c.in_default-push.ensures.queue c.in_default-push.ensures.adds)

pub returns-in-Some-push : goal.returns-in-Some-push
returns-in-Some-push g c =
    let drew = c.in-Some.ensures.drew in
    rw drew.2 (fill_gave g.St.Stream g.Q.FutureQueue _ c.draws.stream c.draws.queue _ _ _ c.draws.invariant c.in-Some.ensures.task.kept drew.0 c.in-Some.item c.push.new.self drew.1 (rw drew.2 at c.next_item.ensures.next) c.push.ensures.again c.in-Some-push.answer c.in-Some-push.ensures.pushed c.in-Some-push.ensures.queue c.in-Some-push.ensures.adds)

pub returns : goal.returns
returns g c =
    fill_none g.St.Stream g.Q.FutureQueue _ c.draws.stream c.draws.queue _ _ _ c.draws.invariant c.in_default.ensures.task.kept c.next_item.new.stream refl c.in_default.ensures.drew c.next_item.ensures.next c.next_item.ensures.bound c.in_default.ensures.task
