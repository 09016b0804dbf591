use Rattle.update_run.proofs.tests.a_listing_that_fails_stops_its_flow.Given as goal

abbrev pub ghosts-updated : goal.ghosts-updated
ghosts-updated g a = record { name = a.blank.name; parts = a.blank.parts }
