use Rattle.cdc_histories.proofs.tests.an_event_opens_the_row_of_its_key.Given as goal

abbrev pub ghosts-changes : goal.ghosts-changes
ghosts-changes g a = record { name = a.blank.name; parts = a.blank.parts }
