use Rattle.cdc_scd2.proofs.tests.a_late_event_changes_the_rows_that_it_touches.Given as goal

abbrev pub ghosts-changes : goal.ghosts-changes
ghosts-changes g a = record { name = a.blank.name; parts = a.blank.parts }
