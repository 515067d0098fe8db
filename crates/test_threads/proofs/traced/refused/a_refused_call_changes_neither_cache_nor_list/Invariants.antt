use Rattle.test_threads.proofs.traced.refused.a_refused_call_changes_neither_cache_nor_list.Given as goal

-- the ledger is the one of the blank
abbrev pub ghosts-with_blocks : goal.ghosts-with_blocks
ghosts-with_blocks g a = record { name = a.blank.name; parts = a.blank.parts }
