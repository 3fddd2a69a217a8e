use Rattle.futures_buffered.proofs.Common.{◌≡◌, List, length, FoldsTo, Pending, TurnLeaves}
use Rattle.futures_buffered.proofs.TurnsLemmas.{GoesOn}
use Rattle.futures_buffered.proofs.turns.TakeTurns.poll_in_turns.Given as goal

abbrev pub invariant-turns : goal.invariant-turns
invariant-turns g l =
    let future = g.Self.TakeTurns.taken in
    record {
      done : List (Unit {0});
      row : FoldsTo (GoesOn future) (l.fn.self, l.fn.cx) done (l.self, l.cx);
      count : length done ≡ l._turn;
      leaves : TurnLeaves future l.fn.self Pending l.self l.fn.cx l.cx;
    }
