use Rattle.futures_buffered.proofs.Common.{rules, ◌≡◌, ◌∷◌, Some, None, refl, map, Ready, Pending}
use Rattle.futures_buffered.proofs.drain.DrainTakeTurns.turn.Goals as goal

pub returns-in-Pending : goal.returns-in-Pending
returns-in-Pending g c =
    let is : c.args.self.now ≡ record { buffer = Some c.in-Some.buffer; limit = c.self.inside.limit } = let e = c.self.view_is in let k = c.in-Some.buffer-is in cc in
    let same : c.poll_next.result ≡ Pending = search rules in
    record { turn = rw is (c.poll_next.new.self, rw same at c.poll_next.ensures, refl); leaves = search rules; registered = search rules }

pub returns-then-is_done : goal.returns-then-is_done
returns-then-is_done g c =
    let output = g.Q.Output.DrainOutput in
    let is : c.args.self.now ≡ record { buffer = Some c.in-Some.buffer; limit = c.self.inside.limit } = let e = c.self.view_is in let k = c.in-Some.buffer-is in cc in
    let same : c.poll_next.result ≡ Ready (Some output.done) = let d = c.if-is_done.ensures.goes refl in let k = c.in-Ready-Some.is in let j = c.in-Ready-Some.field-0-is in cc in
    let polled = rw same at c.poll_next.ensures in
    record {
      turn = rw is (c.poll_next.new.self, polled, refl);
      leaves = record {
        value = tt;
        ended = tt;
        same = λ x h. rw is (tt ∷ h.0, polled.as_stream.rest (map (λ _. output.done) h.0) (output.last_of x) h.1);
        again = polled.as_stream.goes;
        limit = rw is refl;
        kept = polled.as_stream.kept;
      };
      registered = tt;
    }

pub returns-else-is_done : goal.returns-else-is_done
returns-else-is_done g c =
    let is : c.args.self.now ≡ record { buffer = Some c.in-Some.buffer; limit = c.self.inside.limit } = let e = c.self.view_is in let k = c.in-Some.buffer-is in cc in
    let same : c.poll_next.result ≡ Ready (g.Q.Output.DrainOutput.last_of c.in-Ready-Some.output) = let d = c.if-is_done.ensures.ends refl in let k = c.in-Ready-Some.is in let j = c.in-Ready-Some.field-0-is in cc in
    record { turn = rw is (c.poll_next.new.self, rw same at c.poll_next.ensures, refl); leaves = search rules; registered = tt }

pub returns-in-Ready-None : goal.returns-in-Ready-None
returns-in-Ready-None g c =
    let is : c.args.self.now ≡ record { buffer = Some c.in-Some.buffer; limit = c.self.inside.limit } = let e = c.self.view_is in let k = c.in-Some.buffer-is in cc in
    let same : c.poll_next.result ≡ Ready (g.Q.Output.DrainOutput.last_of c.done-in-Ready-None.result) = let e : c.poll_next.result ≡ Ready None = search rules in let d = c.done-in-Ready-None.ensures.ends in cc in
    record { turn = rw is (c.poll_next.new.self, rw same at c.poll_next.ensures, refl); leaves = search rules; registered = tt }
