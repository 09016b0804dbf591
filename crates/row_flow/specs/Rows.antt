-- The rows that a flow reads.
use Rattle.std.specs.Prelude.{ℕ, List, [], if◌then◌else◌, map, slice_index_or, Option, Some, None}
use Rattle.value_core.specs.Order.{Row}
use Rattle.value_core.specs.declared.shape.Shape.{Shape}
use Rattle.landing_core.specs.declared.lines.FreshLine.{FreshLine}
use Rattle.line_rows.specs.Lines.{row_of}
use Rattle.plan_core.specs.declared.flow.Origin.{Origin}
use Rattle.plan_core.specs.declared.flow.Origin.TheVariants as origin
use Rattle.row_flow.specs.declared.input.Input.{Input}
use Rattle.row_flow.specs.declared.input.Input.TheVariants as input

-- the header line that a line stands under, where lines have one
abbrev pub head_given : Shape → List ℕ → Option (List ℕ)
head_given shape head = if shape.header then Some head else None

-- the row of a line, under the head of its file
abbrev pub line_row : Shape → List (List ℕ) → FreshLine → Row
line_row shape heads line = row_of shape (head_given shape (slice_index_or heads line.file [])) line.line

-- the rows of an input; a flow over a dataset has no shape for lines, and takes none
abbrev pub rows_of : Origin → Input → List Row
rows_of from (input.Rows rows) = rows.now
rows_of (origin.Files dir shape) (input.Lines fresh) = map (line_row shape fresh.now.heads) fresh.now.lines
rows_of (origin.Table name) (input.Lines fresh) = []
