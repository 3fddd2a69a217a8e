use Rattle.futures_buffered.proofs.ForEachConcurrentLemmas.{none_each, item_each, item_ends, each_fit}
use Rattle.futures_buffered.proofs.for_each_concurrent.ForEachBy.draw.Goals as goal

pub returns-in_default-clause-again : goal.returns-in_default-clause-again
returns-in_default-clause-again g c =
    (none_each g.St.Stream g.F.FnMut g.Q.FutureQueue (record { stream = c.self.inside.stream; queue = c.self.inside.queue }) _ c.self.inside.closure c.in_default.ensures.drew c.next_item.ensures.next (rw (← c.self.view_is) at c.requires)).0

pub returns-in_default-clause-same : goal.returns-in_default-clause-same
returns-in_default-clause-same g c =
    rw (← c.self.view_is) ((none_each g.St.Stream g.F.FnMut g.Q.FutureQueue (record { stream = c.self.inside.stream; queue = c.self.inside.queue }) _ c.self.inside.closure c.in_default.ensures.drew c.next_item.ensures.next (rw (← c.self.view_is) at c.requires)).1)

pub call_mut-future-requires : goal.call_mut-future-requires
call_mut-future-requires g c =
    (each_fit g.St.Stream g.F.FnMut g.Q.FutureQueue _ _ _ _ c.self.inside.closure c.in-Some.ensures.drew.1 (rw (← c.self.view_is) at c.requires)).0

pub push-requires-clause-fit : goal.push-requires-clause-fit
push-requires-clause-fit g c =
    (each_fit g.St.Stream g.F.FnMut g.Q.FutureQueue _ _ _ _ c.self.inside.closure c.in-Some.ensures.drew.1 (rw (← c.self.view_is) at c.requires)).1 c.call_mut-future.result c.call_mut-future.new.self c.call_mut-future.ensures

pub returns-clause-again : goal.returns-clause-again
returns-clause-again g c =
    let drew = c.in-Some.ensures.drew in
    rw drew.2 (item_each g.St.Stream g.F.FnMut g.Q.FutureQueue c.self.inside.stream drew.0 c.in-Some.item c.self.inside.queue c.self.inside.closure drew.1 c.push.new.self c.call_mut-future.new.self c.call_mut-future.result (rw (← c.self.view_is) at c.requires) c.push.ensures.again c.call_mut-future.ensures (rw drew.2 at c.next_item.ensures.next))

pub returns-clause-same : goal.returns-clause-same
returns-clause-same g c =
    let drew = c.in-Some.ensures.drew in
    rw (← c.self.view_is, drew.2) (item_ends g.St.Stream g.F.FnMut g.Q.FutureQueue c.self.inside.stream drew.0 c.in-Some.item c.self.inside.queue c.self.inside.closure drew.1 c.push.new.self c.call_mut-future.new.self)
