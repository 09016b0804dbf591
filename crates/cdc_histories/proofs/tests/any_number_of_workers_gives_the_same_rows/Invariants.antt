use Rattle.cdc_histories.proofs.tests.any_number_of_workers_gives_the_same_rows.Given as goal

abbrev pub ghosts-splits : goal.ghosts-splits
ghosts-splits g a = record { name = a.blank.name; parts = a.blank.parts }
