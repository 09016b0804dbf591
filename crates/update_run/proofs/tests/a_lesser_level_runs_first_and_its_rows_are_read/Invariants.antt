use Rattle.update_run.proofs.tests.a_lesser_level_runs_first_and_its_rows_are_read.Given as goal

abbrev pub ghosts-updated : goal.ghosts-updated
ghosts-updated g a = record { name = a.blank.name; parts = a.blank.parts }
