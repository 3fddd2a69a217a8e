use Rattle.futures_buffered_in_flight.proofs.ledger.Ledger.give.Given as goal

-- the key of the ticket that is given
abbrev pub ghosts-give_to : goal.ghosts-give_to
ghosts-give_to a = record { key = a.key }
