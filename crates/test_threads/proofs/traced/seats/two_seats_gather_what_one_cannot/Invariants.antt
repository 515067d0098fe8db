use Rattle.test_threads.proofs.traced.seats.two_seats_gather_what_one_cannot.Given as goal

-- the ledger is the one of the blank
abbrev pub ghosts-three_calls : goal.ghosts-three_calls
ghosts-three_calls g a = record { name = a.blank.name; parts = a.blank.parts }
