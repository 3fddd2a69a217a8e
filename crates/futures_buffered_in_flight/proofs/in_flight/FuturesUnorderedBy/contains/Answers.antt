use Rattle.futures_buffered_in_flight.proofs.Common.{rules}
use Rattle.futures_buffered_in_flight.proofs.in_flight.FuturesUnorderedBy.contains.Goals as goal

pub returns-in-Some-clause-held : goal.returns-in-Some-clause-held
returns-in-Some-clause-held g c same = (c.in-Some.place.now.tag, search rules)
