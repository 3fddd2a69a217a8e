use Rattle.futures_buffered.proofs.Common.{rules, ◌≡◌, ◌∷◌, ◌++◌, [], None, refl, inl, inr, arith, FoldsTo-push, length_push}
use Rattle.futures_buffered.proofs.TurnsLemmas.{GoesOn, leaves_then}
use Rattle.futures_buffered.proofs.turns.TakeTurns.poll_in_turns.Goals as goal

pub turns-preserved : goal.turns-preserved
turns-preserved g c =
    let so = c.turns.invariant in
    let none : c.turn.result ≡ None = search rules in
    let turn = rw none at c.turn.ensures in
    record {
      done = so.done ++ tt ∷ [];
      row = FoldsTo-push (GoesOn g.Self.TakeTurns.taken) _ so.done _ tt _ so.row turn.turn;
      count = omega (arith, length_push so.done tt, so.count);
      leaves = leaves_then g.Self.TakeTurns.taken _ _ _ _ _ _ _ so.leaves turn.leaves;
    }

pub returns-in-Some : goal.returns-in-Some
returns-in-Some g c =
    let so = c.turns.invariant in
    let turn = c.in-Some.ensures in
    let end = c.turn_limit-turn-end.ensures in
    record {
      turns = so.done;
      before = (c.turns.self, c.turns.cx);
      row = so.row;
      ends = inl (omega (arith, so.count, end.value), turn.turn);
      some = omega (arith, end.value, end.some);
      leaves = leaves_then g.Self.TakeTurns.taken _ _ _ _ _ _ _ so.leaves turn.leaves;
      registered = turn.registered;
    }

pub returns : goal.returns
returns g c =
    let so = c.turns.invariant in
    let woken = c.yield_now.ensures in
    let end = c.turn_limit-turn-end.ensures in
    record {
      turns = so.done;
      before = (c.turns.self, c.turns.cx);
      row = so.row;
      ends = inr (omega (arith, so.count, end.value, end.some), woken.pending, refl, woken.heard);
      some = omega (arith, end.value, end.some);
      leaves = rw woken.pending (record { value = tt; ended = tt; same = so.leaves.same; again = so.leaves.again; limit = so.leaves.limit; kept = λ fact h. woken.kept fact (so.leaves.kept fact h) });
      registered = rw woken.pending (woken.armed, λ place _. woken.heard place);
    }
