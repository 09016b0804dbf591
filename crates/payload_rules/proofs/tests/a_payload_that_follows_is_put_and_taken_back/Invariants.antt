use Rattle.payload_rules.proofs.tests.a_payload_that_follows_is_put_and_taken_back.Given as goal

abbrev pub ghosts-all : goal.ghosts-all
ghosts-all g a = record { name = a.blank.name; parts = a.blank.parts }
