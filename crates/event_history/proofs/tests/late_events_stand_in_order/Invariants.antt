use Rattle.event_history.proofs.tests.late_events_stand_in_order.Given as goal

abbrev pub ghosts-late_events : goal.ghosts-late_events
ghosts-late_events g a = record { name = a.blank.name; parts = a.blank.parts }
