use Rattle.view_upkeep.proofs.tests.a_least_value_goes.Given as goal

abbrev pub ghosts-the_next_comes : goal.ghosts-the_next_comes
ghosts-the_next_comes g a = record { name = a.blank.name; parts = a.blank.parts }
