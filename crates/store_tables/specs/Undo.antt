-- What takes a payload back.
use Rattle.std.specs.Prelude.{◌≡◌, ℕ, List, [], ◌∷◌, Option, Some, None, take}
use Rattle.value_core.specs.declared.change.Tally.{Tally}
use Rattle.value_core.specs.declared.cursor.Cursor.{Cursor}
use Rattle.value_core.specs.declared.event.Event.{Event}
use Rattle.table_versions.specs.Versions.{shrunk}
use Rattle.commit_payloads.specs.declared.take.Refresh.{Refresh}
use Rattle.commit_payloads.specs.declared.take.Take.{Take}
use Rattle.state_model.specs.After.{moved, updated}
use Rattle.state_model.specs.Dataset.{Dataset, State, cursor_of}
use Rattle.store_tables.specs.declared.part.Part.{Part}
use Rattle.store_tables.specs.declared.part.Rest.{Rest}
use Rattle.store_tables.specs.declared.undo.Undo.{Undo}
use Rattle.store_tables.specs.declared.undo.Undo.TheVariants.{Began, Added, Took, Refreshed, Emptied}

-- the last version goes, and the flow, the counts and the events are as given
abbrev pub untaken : List ℕ → Cursor → List Tally → List Event → Dataset → Dataset
untaken flow cursor counts events dataset = record dataset {
  table = shrunk dataset.table;
  cursors = moved dataset.definition.flows dataset.cursors flow cursor;
  counts = counts;
  events = events;
}

-- the last version goes, and the cursors and the counts are as given
abbrev pub unrefreshed : List Cursor → List Tally → Dataset → Dataset
unrefreshed cursors counts dataset = record dataset { table = shrunk dataset.table; cursors = cursors; counts = counts }

-- the last version goes, and all that is kept beside the table is as given
abbrev pub restored : Rest → Dataset → Dataset
restored rest dataset = record dataset { table = shrunk dataset.table; cursors = rest.cursors.items; counts = rest.counts; events = rest.events }

-- the same where something is given
abbrev pub restored_if : Option Rest → Dataset → Dataset
restored_if None dataset = dataset
restored_if (Some rest) dataset = restored rest dataset

-- the same of each dataset, in their order
abbrev pub all_restored : List (Option Rest) → State → State
all_restored [] state = state
all_restored (rest ∷ rests) [] = []
all_restored (rest ∷ rests) (dataset ∷ state) = restored_if rest dataset ∷ all_restored rests state

-- the state before: the old one, its first datasets, or one or some of its datasets as they were
abbrev pub undone : State → Undo → State
undone state (Began old) = old
undone state (Added before) = take before state
undone state (Took table flow cursor counts events) = updated table (untaken flow cursor counts events) state
undone state (Refreshed view cursors counts) = updated view (unrefreshed cursors.items counts) state
undone state (Emptied rests) = all_restored rests.items state

-- what is given back where a batch was taken into a dataset: the batch's names, and the dataset's old cursor, counts and events
abbrev pub GivesBack : Take → Dataset → Undo → Type 0
GivesBack batch dataset (Took table flow cursor counts events) =
    (table ≡ batch.table) × (flow ≡ batch.flow) × (cursor_of dataset batch.flow ≡ Some cursor) × (counts ≡ dataset.counts) × (events ≡ dataset.events)
GivesBack batch dataset (Began old) = ⊥
GivesBack batch dataset (Added before) = ⊥
GivesBack batch dataset (Refreshed view cursors counts) = ⊥
GivesBack batch dataset (Emptied rests) = ⊥

-- what is given back where a view was refreshed: its name, and its old cursors and counts
abbrev pub GivesViewBack : Refresh → Part → Undo → Type 0
GivesViewBack refresh part (Refreshed view cursors counts) = (view ≡ refresh.view) × (cursors.items ≡ part.cursors.items) × (counts ≡ part.counts)
GivesViewBack refresh part (Began old) = ⊥
GivesViewBack refresh part (Added before) = ⊥
GivesViewBack refresh part (Took table flow cursor counts events) = ⊥
GivesViewBack refresh part (Emptied rests) = ⊥

-- what was kept of a part beside its table
pub record IsRestOf (part : Part) (rest : Rest) : Type 0 where
  pub cursors : rest.cursors.items ≡ part.cursors.items
  pub counts : rest.counts ≡ part.counts
  pub events : rest.events ≡ part.events
