use Rattle.futures_buffered_in_flight.proofs.Common.{runs_in, ◌∙◌}
use Rattle.futures_buffered_in_flight.proofs.AgreesLemmas.{run_notice}
use Rattle.futures_buffered_in_flight.proofs.InFlightLemmas.{came_out, turned}
use Rattle.futures_buffered_in_flight.proofs.in_flight.FuturesUnorderedBy.turn.Goals as goal

pub take_answer-requires-clause-notice : goal.take_answer-requires-clause-notice
take_answer-requires-clause-notice g c =
    run_notice g.F.Future.gives (runs_in c.args.self.now.running) (c.in-Ready-Some.ticket, c.in-Ready-Some.answer) (rw c.in-Ready-Some.field-0-is at c.in-Ready-Some.ensures.gave)

pub returns-in-Some-clause-came : goal.returns-in-Some-clause-came
returns-in-Some-clause-came g c =
    let polled = c.poll_running.ensures in
    let rest = polled.rest in
    let took = c.take_answer.ensures in
    came_out g.F.Future c.args.self.now c.poll_running.new.self c.take_answer.new.self c.in-Ready-Some.ticket c.in-Ready-Some.answer c.in-Some.came c.args.cx.now c.poll_running.new.cx c.requires.held
    polled.pollable polled.gives (rw c.in-Ready-Some.field-0-is at c.in-Ready-Some.ensures.counts) rest.0 rest.1 rest.2 rest.3
    (rw c.in-Ready-Some.field-0-is at c.in-Ready-Some.ensures.gave) c.in-Some.ensures.came took.rest.0 took.rest.1 took.rest.2 c.requires.started polled.kept

pub returns-in-None-clause-none : goal.returns-in-None-clause-none
returns-in-None-clause-none g c =
    let polled = c.poll_running.ensures in
    let rest = polled.rest in
    let took = c.take_answer.ensures in (
      turned g.F.Future c.args.self.now c.poll_running.new.self c.take_answer.new.self c.requires.held
          polled.pollable polled.gives (rw c.in-Ready-Some.field-0-is at c.in-Ready-Some.ensures.counts) rest.0 rest.1 rest.2 rest.3
          c.in-None.ensures.none.0 c.in-None.ensures.none.1 took.rest.0 took.rest.1 took.rest.2,
      took.rest.1 ∙ rest.2,
      polled.kept,
    )
