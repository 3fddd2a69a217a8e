use Rattle.futures_buffered_core.proofs.must_wake.WakingPlace.take_back.Given as goal

-- how many steps the seat that is shown has made
abbrev pub ghosts-take_out : goal.ghosts-take_out
ghosts-take_out g a = record { made = g.T.ListSeat.made a._shown.now }
