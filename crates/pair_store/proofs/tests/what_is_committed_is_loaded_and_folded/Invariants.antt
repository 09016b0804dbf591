use Rattle.pair_store.proofs.tests.what_is_committed_is_loaded_and_folded.Given as goal

abbrev pub ghosts-commits_and_folds : goal.ghosts-commits_and_folds
ghosts-commits_and_folds g a = record { name = a.blank.name; parts = a.blank.parts }
