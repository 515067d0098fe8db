use Rattle.test_threads.proofs.history.one_seat.each_call_acts_and_answers.Given as goal

-- the history is the one that was just begun
abbrev pub ghosts-told : goal.ghosts-told
ghosts-told g a = record { book = a.history }
