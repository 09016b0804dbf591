use Rattle.append_offers.proofs.tests.a_folder_is_read_up_to_its_end.Given as goal

abbrev pub ghosts-reads_files : goal.ghosts-reads_files
ghosts-reads_files g a = record { name = a.blank.name; parts = a.blank.parts }
