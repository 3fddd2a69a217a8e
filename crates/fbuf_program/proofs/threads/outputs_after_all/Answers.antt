use Rattle.fbuf_program.proofs.Common.{◌≡◌, ℕ, ◌*◌, length, ap, arith, ◌∙◌}
use Rattle.std.proofs.Common.{sum}
use Rattle.std.proofs.lemmas.Nat.{mul-le}
use Rattle.fbuf_program.proofs.ThreadsLemmas.{all_numbers}
use Rattle.fbuf_program.proofs.threads.outputs_after_all.Goals as goal

pub returns-clause-outputs : goal.returns-clause-outputs
returns-clause-outputs g c =
    all_numbers c.in_ok-in_rising_order.field-0.items c.args.n c.in_ok-first.first
    c.in_ok-outputs.field-0.items c.seated.new.set.slots c.poll_once.new.set.slots
    c.in_ok-seats.ensures.numbers c.in_ok-first.ensures.numbers c.in_ok-outputs.ensures.numbers
    c.in_ok-in_rising_order.ensures.all c.in_ok-in_rising_order.ensures.rising

pub returns-clause-wakes : goal.returns-clause-wakes
returns-clause-wakes g c =
    let worked = rw c.in_ok-started.ensures.items at c.in_ok-outputs.ensures.wakes in
    let seats = c.in_ok-seats.ensures.seats in
    let same = c.deref.ensures.value in
    let len = c.deref.ensures.len in
    let count : length c.deref.result.now ≡ c.args.n = grind arith in
    let total : sum c.run_started-outputs.new.started.items ≡ c.args.n * c.args.m = omega (arith, worked, ap (λ (threads : ℕ). threads * c.args.m) count) in
    let most = mul-le c.args.n c.args.m _ _ c.requires.threads c.requires.wakes in
    c.join_each-made.ensures (omega (arith, total, most)) ∙ total
