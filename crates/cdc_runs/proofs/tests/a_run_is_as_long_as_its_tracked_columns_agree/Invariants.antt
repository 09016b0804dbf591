use Rattle.cdc_runs.proofs.tests.a_run_is_as_long_as_its_tracked_columns_agree.Given as goal

abbrev pub ghosts-runs : goal.ghosts-runs
ghosts-runs g a = record { name = a.blank.name; parts = a.blank.parts }
