use Rattle.view_patches.proofs.tests.a_least_value_goes_and_comes_back.Given as goal

abbrev pub ghosts-there_and_back : goal.ghosts-there_and_back
ghosts-there_and_back g a = record { name = a.blank.name; parts = a.blank.parts }
