use Rattle.append_offers.proofs.tests.a_table_is_read_up_to_its_version.Given as goal

abbrev pub ghosts-reads_a_table : goal.ghosts-reads_a_table
ghosts-reads_a_table g a = record { name = a.blank.name; parts = a.blank.parts }
