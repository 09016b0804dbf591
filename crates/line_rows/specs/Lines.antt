-- The row of a line.
use Rattle.std.specs.Prelude.{List, [], ◌∷◌, ◌++◌, ℕ, ◌-◌, ◌==◌, codes, length, map, take, Bool, true, false, not, ◌&&◌, ◌||◌, if◌then◌else◌, Option}
use Rattle.std.specs.Str.{is_utf8}
use Rattle.value_core.specs.Order.{Row}
use Rattle.value_core.specs.declared.cursor.Format.{Format}
use Rattle.value_core.specs.declared.cursor.Format.TheVariants.{Json, Csv}
use Rattle.value_core.specs.declared.schema.Column.{Column}
use Rattle.value_core.specs.declared.shape.Shape.{Shape}
use Rattle.value_core.specs.declared.value.Kind.{Kind}
use Rattle.value_core.specs.declared.value.Kind.TheVariants as kind
use Rattle.value_core.specs.declared.value.Value.{Value}
use Rattle.value_core.specs.declared.value.Value.TheVariants.{Null, Str}
use Rattle.line_rows.specs.Csv.{csv_reading}
use Rattle.line_rows.specs.Hex.{hex_text}
use Rattle.line_rows.specs.Json.{json_reading}
use Rattle.line_rows.specs.declared.reading.Reading.{Reading}

-- the last column keeps the text of rescued lines
abbrev pub has_rescued : Shape → Bool
has_rescued shape = shape.rescued && not (length shape.columns == 0)

-- the other columns, which take what a line has
abbrev pub columns_of : Shape → List Column
columns_of shape = if has_rescued shape then take (length shape.columns - 1) shape.columns else shape.columns

-- what is kept of a rescued line: its text, and where it isn't UTF-8 `hex:` and two lower-case hexadecimal digits a byte
abbrev pub rescued_text : List ℕ → List ℕ
rescued_text line = if is_utf8 line then line else codes "hex:" ++ hex_text line

-- the value of the rescued column
abbrev pub rescued_value : List ℕ → Bool → Value
rescued_value line is_rescued = if is_rescued then Str (rescued_text line) else Null

abbrev pub reading_of_line : Shape → Option (List ℕ) → List ℕ → Format → Reading
reading_of_line shape head line Json = json_reading (columns_of shape) line
reading_of_line shape head line Csv = csv_reading shape.sep (columns_of shape) head line

-- the row of a line under a header line, if there is one; the rescued column stands last
abbrev pub row_of : Shape → Option (List ℕ) → List ℕ → Row
row_of shape head line =
    let reading = reading_of_line shape head line shape.format in
    if has_rescued shape then reading.values ++ rescued_value line reading.is_rescued ∷ [] else reading.values

-- ---- rows and kinds

abbrev pub kinds_of : List Column → List Kind
kinds_of columns = map (λ column. column.kind) columns

abbrev pub is_text_kind : Kind → Bool
is_text_kind kind.Str = true
is_text_kind _ = false

-- the last column, if there is one, is a STRING
abbrev pub ends_in_text : List Column → Bool
ends_in_text [] = true
ends_in_text (column ∷ []) = is_text_kind column.kind
ends_in_text (column ∷ next ∷ more) = ends_in_text (next ∷ more)

-- the rescued column, if there is one, is a STRING
abbrev pub keeps_text : Shape → Bool
keeps_text shape = not (has_rescued shape) || ends_in_text shape.columns
