use Rattle.append_offers.proofs.tests.a_landing_that_fails_halts_a_flow.Given as goal

abbrev pub ghosts-fails : goal.ghosts-fails
ghosts-fails g a = record { name = a.blank.name; parts = a.blank.parts }
