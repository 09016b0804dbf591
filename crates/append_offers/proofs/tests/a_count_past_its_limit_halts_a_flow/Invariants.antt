use Rattle.append_offers.proofs.tests.a_count_past_its_limit_halts_a_flow.Given as goal

abbrev pub ghosts-overflows : goal.ghosts-overflows
ghosts-overflows g a = record { name = a.blank.name; parts = a.blank.parts }
