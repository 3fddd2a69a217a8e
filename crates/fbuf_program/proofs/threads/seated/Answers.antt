use Rattle.fbuf_program.proofs.Common.{◌≡◌, ap, refl, subst, ◌∙◌, length, arith, range_with_len, length-range_with_len, AllHeld-none, AllHeld-push, HoldsNumbers}
use Rattle.std.proofs.lemmas.Grind.{common_steps}
use Rattle.fbuf_program.proofs.ThreadsLemmas.{HoldsNumbers-none, HoldsNumbers-push}
use Rattle.fbuf_program.proofs.threads.seated.Goals as goal

pub loop-number-init : goal.loop-number-init
loop-number-init g c =
    let all_free : length c.args.set.now.slots.free ≡ c.args.n =
    ap (λ slots. length slots.free) c.requires ∙ length-range_with_len 0 c.args.n in
    record {
      len = grind (arith, common_steps);
      room = grind (arith, common_steps);
      free = omega arith;
      numbers = rw c.requires (HoldsNumbers-none _ c.args.n);
      goals = rw c.requires (AllHeld-none (λ future. future.goal ≡ c.args.m) c.args.n);
    }

pub loop-number-preserved : goal.loop-number-preserved
loop-number-preserved g c =
    let put = c.in-Ok.ensures.pushed.pushed in
    record {
      len = grind (arith, common_steps);
      room = grind (arith, common_steps);
      free = omega (arith, c.loop-number.invariant.free, ap length put.1.inserted.first_free);
      numbers = HoldsNumbers-push _ _ put.0 c.loop-number.number _ put.1.inserted refl
          c.loop-number.invariant.numbers;
      goals = AllHeld-push (λ future. future.goal ≡ c.args.m) _ put.0 _ _ put.1.inserted
          c.loop-number.invariant.goals refl;
    }

pub returns-clause-numbers : goal.returns-clause-numbers
returns-clause-numbers g c =
    let all : c.loop-number.number ≡ c.args.n =
    omega (arith, c.loop-number-test.false, c.loop-number.auto.number-end) in
    subst (λ j. HoldsNumbers c.loop-number.set.slots (range_with_len 0 j)) all
    c.loop-number.invariant.numbers
