use Rattle.cdc_histories.proofs.tests.a_late_event_splits_a_past_interval.Given as goal

abbrev pub ghosts-splits : goal.ghosts-splits
ghosts-splits g a = record { name = a.blank.name; parts = a.blank.parts }
