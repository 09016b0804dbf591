-- What is lent of a dataset.
use Rattle.std.specs.Prelude.{List}
use Rattle.value_core.specs.declared.cursor.Cursor.{Cursor}
use Rattle.state_model.specs.Dataset.{Dataset}
use Rattle.store_tables.specs.declared.kept.Kept.{Kept}

-- the dataset of what is lent
abbrev pub dataset_of_kept : Kept → Dataset
dataset_of_kept kept = record { definition = kept.definition.now; table = kept.table.now; cursors = kept.cursors.now; counts = kept.counts.now; events = kept.events.now }

-- how far its flows have read, in their order
abbrev pub cursors_of : Dataset → List Cursor
cursors_of dataset = dataset.cursors
