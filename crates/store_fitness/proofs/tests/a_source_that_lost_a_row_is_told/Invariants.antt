use Rattle.store_fitness.proofs.tests.a_source_that_lost_a_row_is_told.Given as goal

abbrev pub ghosts-tells : goal.ghosts-tells
ghosts-tells g a = record { name = a.blank.name; parts = a.blank.parts }
