use Rattle.futures_buffered_core.proofs.must_wake.WakingPlace.put_in.Given as goal

-- how many steps the seat that is shown has made
abbrev pub ghosts-put_in : goal.ghosts-put_in
ghosts-put_in g a = record { made = g.T.ListSeat.made a._shown.now }
