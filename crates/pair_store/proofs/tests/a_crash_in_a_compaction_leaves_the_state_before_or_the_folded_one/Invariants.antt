use Rattle.pair_store.proofs.tests.a_crash_in_a_compaction_leaves_the_state_before_or_the_folded_one.Given as goal

abbrev pub ghosts-crashes : goal.ghosts-crashes
ghosts-crashes g a = record { name = a.blank.name; parts = a.blank.parts }
