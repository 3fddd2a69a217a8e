use Rattle.futures_buffered_in_flight.proofs.Common.{rules, vec_len, items_of}
use Rattle.futures_buffered_in_flight.proofs.FromIterLemmas.{fit_drawn, holds_in_turn}
use Rattle.futures_buffered_in_flight.proofs.in_flight_ordered.FuturesOrderedBy.from_iter.Goals as goal

pub push_in_turn-requires-clause-fit : goal.push_in_turn-requires-clause-fit
push_in_turn-requires-clause-fit g c = fit_drawn (items_of g.I.IntoIterator g.I.IntoIter.Iterator c.args.iter) g.F.Future.can_poll c.in_ok-futures.futures.items c.requires.fit c.in_ok-futures.ensures.drawn

pub returns-clause-holds : goal.returns-clause-holds
returns-clause-holds g c =
    let futures = c.in_ok-futures.futures in
    let pushed = c.in_ok-push_in_turn.ensures in
    (futures.items, c.in_ok-futures.ensures.drawn, holds_in_turn g.F.Future g.K.Kind.GROWS futures.items (vec_len futures) c.in_ok-queue.queue c.push_in_turn.new.queue futures.ok.0 (search rules) pushed.pushed pushed.one_each)
