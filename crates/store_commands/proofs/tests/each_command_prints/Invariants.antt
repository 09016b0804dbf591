use Rattle.store_commands.proofs.tests.each_command_prints.Given as goal

abbrev pub ghosts-all_print : goal.ghosts-all_print
ghosts-all_print g a = record { name = a.blank.name; parts = a.blank.parts }
