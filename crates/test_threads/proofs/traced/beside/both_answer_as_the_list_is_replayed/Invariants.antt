use Rattle.test_threads.proofs.traced.beside.both_answer_as_the_list_is_replayed.Given as goal

-- the history is the one that was just begun
abbrev pub ghosts-made_by_four-J-Naming : goal.ghosts-made_by_four-J-Naming
ghosts-made_by_four-J-Naming g a = record { book = a.history }

-- and the ledger is the one of the blank
abbrev pub ghosts-made_by_four-G-Ledger : goal.ghosts-made_by_four-G-Ledger
ghosts-made_by_four-G-Ledger g a = record { name = a.blank.name; parts = a.blank.parts }
