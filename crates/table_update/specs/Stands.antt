-- What a store of a table stands for: the lines that were ever there, up to how far they were read.
use Rattle.std.specs.Prelude.{◌≡◌, ◌⊎◌, ℕ, List, [], ◌∷◌, Option, Some, None}
use Rattle.disk_model.specs.declared.disk.Side.TheVariants.{Left}
use Rattle.disk_model.specs.Disk.{TwoFiles, DiskState, file}
use Rattle.value_core.specs.declared.change.Change.{Change}
use Rattle.value_core.specs.declared.cursor.FilePlace.{FilePlace}
use Rattle.value_core.specs.Bags.{SameBag, changed}
use Rattle.value_core.specs.Order.{Row}
use Rattle.landing_core.specs.declared.landing.LandingFile.{LandingFile}
use Rattle.landing_history.specs.Taken.{AreEnds, taken}
use Rattle.store_state.specs.State.{Dataset, State}
use Rattle.store_core.specs.State.{HasState}
use Rattle.table_update.specs.declared.table.AppendTable.{AppendTable}
use Rattle.table_update.specs.Table.{rows_of, HoldsTable}

-- the rows after changes, one after another
abbrev pub rows_after : List Row → List Change → List Row
rows_after rows [] = rows
rows_after rows (change ∷ changes) = rows_after (changed rows change) changes

-- the rows of a dataset at its version now
abbrev pub content : Dataset → List Row
content dataset = rows_after dataset.rows dataset.changes

-- the rows of the complete lines of a table's folder up to these places, from the beginning of each file
abbrev pub rows_up_to : AppendTable → List LandingFile → List FilePlace → List Row
rows_up_to table ever places = rows_of table (taken table.shape.format table.shape.header table.folder ever places)

-- The table's rows are those of the lines up to how far its flow has read, each place is the end of a complete line, and it
-- counts no expectations. `ever` is all files that were ever there.
pub record TableStands (table : AppendTable) (ever : List LandingFile) (state : State) : Type 0 where
  pub dataset : Dataset
  pub places : List FilePlace
  pub holds : HoldsTable table state dataset places
  pub ends : AreEnds table.folder ever places
  pub content_is : SameBag (content dataset) (rows_up_to table ever places)

-- a store that has no dataset yet, or the table as it should stand
abbrev pub Stands : AppendTable → List LandingFile → State → Type 0
Stands table ever state = (state ≡ []) ⊎ TableStands table ever state

-- an update is of this table, or of none
abbrev pub IsFor : Option AppendTable → AppendTable → Type 0
IsFor None table = Unit {0}
IsFor (Some other) table = other ≡ table

-- these bytes have a state that stands
abbrev pub HasStanding : AppendTable → List LandingFile → List ℕ → Type 0
HasStanding table ever bytes = (state : State) × HasState bytes state × Stands table ever state

-- whatever a crash may leave now has a state that stands
abbrev pub IsStanding : AppendTable → List LandingFile → DiskState → Type 0
IsStanding table ever disk = (files : TwoFiles) → disk.may_leave files → HasStanding table ever (file Left files)
