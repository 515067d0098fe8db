use Rattle.test_threads.proofs.history.two_seats.what_two_threads_left_is_there.Given as goal

-- the history is the one that was just begun
abbrev pub ghosts-two_rows : goal.ghosts-two_rows
ghosts-two_rows g a = record { book = a.history }
