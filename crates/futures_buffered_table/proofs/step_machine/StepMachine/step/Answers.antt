use Rattle.futures_buffered_table.proofs.Common.{rules, subst, Machine, CanMake, MakesStep, LeadsOn, IsLedTo}
use Rattle.futures_buffered_table.proofs.StepMachineLemmas.{has_read, has_found, may_touch, may_put, word_low, now, makes_step, leads_there, keeps_now, places_slots}
use Rattle.futures_buffered_table.proofs.step_machine.StepMachine.step.Goals as goal

pub returns-in_err-seat-clause-reached : goal.returns-in_err-seat-clause-reached
returns-in_err-seat-clause-reached c = subst (λ (m : Machine). ∥ IsLedTo m ∥₁) c.self.view_is c.self.invariant.reached

pub returns-in_err-seat-clause-placed : goal.returns-in_err-seat-clause-placed
returns-in_err-seat-clause-placed c = places_slots _

pub touches-word-requires : goal.touches-word-requires
touches-word-requires c =
    may_touch (has_read c.args.step c.self.invariant c.as_slice.ensures.value c.in_ok-seat.ensures c.index-role.ensures)

pub index-found-requires : goal.index-found-requires
index-found-requires c =
    let read = has_read c.args.step c.self.invariant c.as_slice.ensures.value c.in_ok-seat.ensures c.index-role.ensures in
    let low = word_low read c.touches-word.result c.touches-word.ensures in search (rules, low)

pub puts-requires : goal.puts-requires
puts-requires c =
    may_put (has_read c.args.step c.self.invariant c.as_slice.ensures.value c.in_ok-seat.ensures c.index-role.ensures)

pub index_mut-requires : goal.index_mut-requires
index_mut-requires c =
    let read = has_read c.args.step c.self.invariant c.as_slice.ensures.value c.in_ok-seat.ensures c.index-role.ensures in
    let low = word_low read c.touches-word.result c.touches-word.ensures in search (rules, low)

pub invariant_of-self : goal.invariant_of-self
invariant_of-self c =
    let read = has_read c.args.step c.self.invariant c.as_slice.ensures.value c.in_ok-seat.ensures c.index-role.ensures in
    let did = has_found c.touches-word.ensures c.index-found.ensures c.puts.ensures c.role_after.ensures c.reply.ensures in
    keeps_now read did

pub returns : goal.returns
returns c =
    let read = has_read c.args.step c.self.invariant c.as_slice.ensures.value c.in_ok-seat.ensures c.index-role.ensures in
    let did = has_found c.touches-word.ensures c.index-found.ensures c.puts.ensures c.role_after.ensures c.reply.ensures in
    record {
      refused = search rules;
      made =
          subst (λ (old : Machine). CanMake old c.args.step × MakesStep old c.args.step (now read did) c.reply.result)
          c.self.view_is (read.can, makes_step read did);
      leads = subst (λ (old : Machine). LeadsOn old c.args.step (now read did) c.reply.result) c.self.view_is
          (leads_there read did);
      reached = (keeps_now read did).reached;
      placed = places_slots _;
    }
