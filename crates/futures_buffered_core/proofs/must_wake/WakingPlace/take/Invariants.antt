use Rattle.futures_buffered_core.proofs.must_wake.WakingPlace.take.Given as goal

-- how many steps the seat that is shown has made
abbrev pub ghosts-take_anew : goal.ghosts-take_anew
ghosts-take_anew g a = record { made = g.T.ListSeat.made a._shown.now }
