use Rattle.event_ledger.proofs.tests.late_events_are_fresh_repeated_or_tied.Given as goal

abbrev pub ghosts-late_events : goal.ghosts-late_events
ghosts-late_events g a = record { name = a.blank.name; parts = a.blank.parts }
