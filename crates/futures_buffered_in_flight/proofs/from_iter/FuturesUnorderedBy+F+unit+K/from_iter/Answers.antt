use Rattle.futures_buffered_in_flight.proofs.Common.{items_of}
use Rattle.futures_buffered_in_flight.proofs.FromIterLemmas.{fit_drawn}
use Rattle.futures_buffered_in_flight.proofs.from_iter.FuturesUnorderedBy+F+unit+K.from_iter.Goals as goal

pub push_all-requires-clause-fit : goal.push_all-requires-clause-fit
push_all-requires-clause-fit g c = fit_drawn (items_of g.I.IntoIterator g.I.IntoIter.Iterator c.args.iter) g.F.Future.can_poll c.in_ok-futures.futures.items c.requires.fit c.in_ok-futures.ensures.drawn
