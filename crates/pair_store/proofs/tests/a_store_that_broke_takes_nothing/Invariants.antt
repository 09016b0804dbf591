use Rattle.pair_store.proofs.tests.a_store_that_broke_takes_nothing.Given as goal

abbrev pub ghosts-breaks : goal.ghosts-breaks
ghosts-breaks g a = record { name = a.blank.name; parts = a.blank.parts }
