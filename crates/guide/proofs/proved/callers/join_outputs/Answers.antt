use Rattle.std.proofs.Common.{◌≡◌, length, ap, sym, ◌∙◌, rules}
use Rattle.guide.specs.Doubling.{Doubles}
use Rattle.futures_buffered.proofs.StreamLemmas.{gave_all, one_of_each_item}
use Rattle.guide.proofs.proved.callers.join_outputs.Goals as goal

pub returns : goal.returns
returns g c =
    let new = c.in_ok-join.ensures.holds in
    let count = one_of_each_item (λ _. Doubles) _ _ _ _ new.0 _ new.2 c.in_ok-block_on.ensures in
    let came = gave_all new.1.0 c.args.jobs.items new.0 (search rules) (search rules) new.1.2 in
    c.in_ok-block_on.field-0.ok.0 ∙ (count ∙ (ap length came ∙ sym c.args.jobs.ok.0))
