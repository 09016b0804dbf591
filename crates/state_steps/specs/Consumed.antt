-- What a flow has consumed of its source.
use Rattle.std.specs.Prelude.{◌≡◌, ⊤, ℕ, ◌≤◌, List, [], ◌∷◌, map, if◌then◌else◌, Option, Some, None, IsSomeAnd}
use Rattle.std.specs.Option.{option_map_or}
use Rattle.value_core.specs.declared.change.Change.{Change}
use Rattle.value_core.specs.declared.cursor.Cursor.{Cursor}
use Rattle.value_core.specs.declared.cursor.Cursor.TheVariants.{Files, At, Never}
use Rattle.value_core.specs.declared.cursor.FilePlace.{FilePlace}
use Rattle.value_core.specs.declared.shape.Shape.{Shape}
use Rattle.value_core.specs.FilePlaces.{IsPlaces}
use Rattle.value_core.specs.Order.{Row}
use Rattle.landing_core.specs.declared.landing.LandingFile.{LandingFile}
use Rattle.landing_history.specs.Taken.{AreEnds, LandedLine, taken}
use Rattle.line_rows.specs.Lines.{row_of}
use Rattle.plan_core.specs.declared.flow.Origin.{Origin}
use Rattle.plan_core.specs.declared.flow.Origin.TheVariants as origin
use Rattle.state_model.specs.Dataset.{Dataset, State, content_at, changes_after, dataset_of, version_of}

-- ---- the rows of files

-- the header line that a line stands under, where lines have one
abbrev pub head_given : Shape → List ℕ → Option (List ℕ)
head_given shape head = if shape.header then Some head else None

abbrev pub row_of_line : Shape → LandedLine → Row
row_of_line shape line = row_of shape (head_given shape line.head) line.text

-- the rows of the complete lines of a folder up to these places, from the beginning of each file
abbrev pub rows_of_files : Shape → List ℕ → List LandingFile → List FilePlace → List Row
rows_of_files shape dir ever places = map (row_of_line shape) (taken shape.format shape.header dir ever places)

-- ---- the rows of a dataset

-- the rows that the dataset of a name has at a version
abbrev pub rows_of_table : State → List ℕ → ℕ → List Row
rows_of_table state name version = option_map_or (λ source. content_at source version) (dataset_of state name) []

-- ---- a flow

-- what a flow over this origin has consumed where it stands at this cursor
abbrev pub consumed : List LandingFile → State → Origin → Cursor → List Row
consumed ever state (origin.Files dir shape) (Files places) = rows_of_files shape dir ever places
consumed ever state (origin.Table name) (At version) = rows_of_table state name version
consumed ever state from cursor = []

-- ---- where a cursor may stand

-- the version is one that is kept of the dataset
abbrev pub IsKept : ℕ → Dataset → Type 0
IsKept version source = (source.table.base ≤ version) × (version ≤ version_of source)

-- places in files are ends of complete lines, and a version is one that is kept of the source
abbrev pub CursorStands : List LandingFile → State → Origin → Cursor → Type 0
CursorStands ever state (origin.Files dir shape) (Files places) = IsPlaces places × AreEnds dir ever places
CursorStands ever state (origin.Table name) (At version) = IsSomeAnd (dataset_of state name) (IsKept version)
CursorStands ever state (origin.Table name) Never = ⊤
CursorStands ever state from cursor = ⊥

-- changes that remove no row
abbrev pub RemoveNone : List Change → Type 0
RemoveNone [] = ⊤
RemoveNone (change ∷ changes) = (change.removed ≡ []) × RemoveNone changes

-- a version is kept, and after it no row was removed
abbrev pub IsStreamed : ℕ → Dataset → Type 0
IsStreamed version source = IsKept version source × RemoveNone (changes_after source version)

-- the same of a flow of a streaming table, which doesn't see a row go that it has consumed
abbrev pub StreamStands : List LandingFile → State → Origin → Cursor → Type 0
StreamStands ever state (origin.Table name) (At version) = IsSomeAnd (dataset_of state name) (IsStreamed version)
StreamStands ever state from cursor = CursorStands ever state from cursor

-- one cursor an origin, and each stands so
abbrev pub StreamsStand : List LandingFile → State → List Origin → List Cursor → Type 0
StreamsStand ever state [] [] = ⊤
StreamsStand ever state (from ∷ origins) (cursor ∷ cursors) = StreamStands ever state from cursor × StreamsStand ever state origins cursors
StreamsStand ever state origins cursors = ⊥
