use Rattle.table_versions.proofs.tests.a_table_is_read_at_its_versions_and_folded.Given as goal

abbrev pub ghosts-all : goal.ghosts-all
ghosts-all g a = record { name = a.blank.name; parts = a.blank.parts }
