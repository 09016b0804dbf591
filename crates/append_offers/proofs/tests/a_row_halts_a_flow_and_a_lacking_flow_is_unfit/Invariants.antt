use Rattle.append_offers.proofs.tests.a_row_halts_a_flow_and_a_lacking_flow_is_unfit.Given as goal

abbrev pub ghosts-halts : goal.ghosts-halts
ghosts-halts g a = record { name = a.blank.name; parts = a.blank.parts }
