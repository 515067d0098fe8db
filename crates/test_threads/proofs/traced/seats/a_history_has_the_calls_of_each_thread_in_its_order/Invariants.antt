use Rattle.test_threads.proofs.traced.seats.a_history_has_the_calls_of_each_thread_in_its_order.Given as goal

-- the ledger is the one of the blank
abbrev pub ghosts-made_by_two : goal.ghosts-made_by_two
ghosts-made_by_two g a = record { name = a.blank.name; parts = a.blank.parts }
