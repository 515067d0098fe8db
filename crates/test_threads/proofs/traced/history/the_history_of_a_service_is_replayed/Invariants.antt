use Rattle.test_threads.proofs.traced.history.the_history_of_a_service_is_replayed.Given as goal

-- the ledger is the one of the blank
abbrev pub ghosts-asked_by_two : goal.ghosts-asked_by_two
ghosts-asked_by_two g a = record { name = a.blank.name; parts = a.blank.parts }
