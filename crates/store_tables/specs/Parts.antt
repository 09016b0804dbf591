-- Definitions and what is kept beside them, as one list.
use Rattle.std.specs.Prelude.{◌≡◌, List, [], ◌∷◌, length, true}
use Rattle.value_core.specs.declared.change.Tally.{Tally}
use Rattle.value_core.specs.declared.event.Event.{Event}
use Rattle.table_versions.specs.Versions.{Versions}
use Rattle.commit_payloads.specs.declared.definition.Definition.{Definition}
use Rattle.commit_payloads.specs.declared.state.DatasetState.{DatasetState}
use Rattle.state_model.specs.Dataset.{Dataset, State}
use Rattle.state_model.specs.Follows.{are_distinct}
use Rattle.state_model.specs.Saved as saved
use Rattle.store_tables.specs.declared.part.Part.{Part}

-- a dataset of its definition and what is kept beside it
abbrev pub joined : Definition → Part → Dataset
joined definition part = record { definition = definition; table = part.table; cursors = part.cursors.items; counts = part.counts; events = part.events }

-- the datasets of two lists of equal length
abbrev pub side_by_side : List Definition → List Part → State
side_by_side [] parts = []
side_by_side (definition ∷ list) [] = []
side_by_side (definition ∷ list) (part ∷ parts) = joined definition part ∷ side_by_side list parts

-- there is one part a definition, and no name is that of a later definition
pub record AreBeside (list : List Definition) (parts : List Part) : Type 0 where
  pub long : length list ≡ length parts
  pub distinct : are_distinct list ≡ true

-- the dataset of a part is changed so, whatever its definition
abbrev pub Becomes : (Dataset → Dataset) → Part → Part → Type 0
Becomes change old new = (definition : Definition) → joined definition new ≡ change (joined definition old)

-- a part is what was saved
abbrev pub IsFrom : DatasetState → Part → Type 0
IsFrom state part = (definition : Definition) → joined definition part ≡ saved.joined definition state

-- the versions that are kept of a dataset
abbrev pub table_of : Dataset → Versions
table_of dataset = dataset.table

-- the counts of its expectations
abbrev pub counts_of : Dataset → List Tally
counts_of dataset = dataset.counts

-- its events
abbrev pub events_of : Dataset → List Event
events_of dataset = dataset.events
