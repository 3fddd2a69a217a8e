use Rattle.futures_buffered_in_flight.proofs.Common.{rules, arith, common_steps}
use Rattle.futures_buffered_in_flight.proofs.FromIterLemmas.{pushed_one}
use Rattle.futures_buffered_in_flight.proofs.from_iter.push_all.Goals as goal

pub futures-preserved : goal.futures-preserved
futures-preserved g c = (
  pushed_one g.F.Future _ c.futures.yielded c.in-Some.future c.push_any.result c.futures.set c.push_any.new.self c.futures.invariant.0 c.push_any.ensures,
  first_of (search rules, grind (arith, common_steps)),
)
