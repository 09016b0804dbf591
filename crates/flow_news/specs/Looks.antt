-- How many looks at stored rows a flow may take.
use Rattle.std.specs.Prelude.{ℕ, length, Option, Some, None}
use Rattle.std.specs.Option.{option_map_or}
use Rattle.value_core.specs.declared.cursor.Cursor.{Cursor}
use Rattle.value_core.specs.declared.cursor.Cursor.TheVariants.{Files, At, Never}
use Rattle.table_versions.specs.Versions.{Versions, changes_since, content_now, rows_in}
use Rattle.plan_core.specs.declared.flow.Origin.{Origin}
use Rattle.plan_core.specs.declared.flow.Origin.TheVariants as origin
use Rattle.state_model.specs.Dataset.{State, dataset_of}

-- one for each row of a source that was never read, or of its changes after a version
abbrev pub table_looks : Versions → Cursor → ℕ
table_looks table Never = length (content_now table)
table_looks table (At version) = rows_in (changes_since table version)
table_looks table (Files places) = 0

-- none for files
abbrev pub origin_looks : State → Origin → Cursor → ℕ
origin_looks state (origin.Files dir shape) cursor = 0
origin_looks state (origin.Table name) cursor = option_map_or (λ source. table_looks source.table cursor) (dataset_of state name) 0

-- by where the flow stands
abbrev pub cursor_looks : State → Origin → Option Cursor → ℕ
cursor_looks state from None = 0
cursor_looks state from (Some cursor) = origin_looks state from cursor
