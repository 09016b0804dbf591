use Rattle.store_commands.proofs.tests.what_is_not_there_is_refused.Given as goal

abbrev pub ghosts-refusals : goal.ghosts-refusals
ghosts-refusals g a = record { name = a.blank.name; parts = a.blank.parts }
