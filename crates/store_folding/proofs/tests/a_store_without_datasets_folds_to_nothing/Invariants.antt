use Rattle.store_folding.proofs.tests.a_store_without_datasets_folds_to_nothing.Given as goal

abbrev pub ghosts-parts_of : goal.ghosts-parts_of
ghosts-parts_of g a = record { name = a.blank.name; parts = a.blank.parts }
