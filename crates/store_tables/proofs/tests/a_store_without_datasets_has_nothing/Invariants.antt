use Rattle.store_tables.proofs.tests.a_store_without_datasets_has_nothing.Given as goal

abbrev pub ghosts-has_none : goal.ghosts-has_none
ghosts-has_none g a = record { name = a.blank.name; parts = a.blank.parts }
