-- What a line gives to the columns.
use Rattle.std.specs.Prelude.{List, [], ◌∷◌, ◌++◌, map, Bool, true, ◌||◌, Option, is_none, unwrap_or}
use Rattle.std.specs.List.{list_any}
use Rattle.value_core.specs.declared.schema.Column.{Column}
use Rattle.value_core.specs.declared.value.Value.{Value}
use Rattle.value_core.specs.declared.value.Value.TheVariants.{Null}
use Rattle.line_rows.specs.declared.reading.Reading.{Reading}

-- the reading of what each column takes, or refuses: a refused value is NULL, and the line is rescued for it, as it is for what no column takes
abbrev pub reading_of : List (Option Value) → Bool → Reading
reading_of taken has_stray = record { values = map (λ value. unwrap_or value Null) taken; is_rescued = list_any is_none taken || has_stray }

-- a reading with one column more
abbrev pub with_taken : Reading → Option Value → Reading
with_taken reading value = record { values = reading.values ++ unwrap_or value Null ∷ []; is_rescued = reading.is_rescued || is_none value }

-- a malformed line is NULL in every column, and is rescued
abbrev pub malformed : List Column → Reading
malformed columns = record { values = map (λ column. Null) columns; is_rescued = true }
