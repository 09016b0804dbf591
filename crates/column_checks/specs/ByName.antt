-- What a flow gives to a table that has its columns, by name (Databricks SQL reference, CREATE FLOW, INSERT INTO .. BY NAME).
use Rattle.std.specs.Prelude.{ℕ, Bool, if◌then◌else◌, List, [], ◌∷◌, ◌++◌, map, flat_map, position, slice_get, slice_set, Option, Some, None, option_map, option_and_then, option_to_list}
use Rattle.std.specs.List.{list_any}
use Rattle.std.specs.Option.{option_or}
use Rattle.value_core.specs.declared.schema.Column.{Column}
use Rattle.expr_typing.specs.Typing.{has_column}
use Rattle.statement_checks.specs.declared.fault.CheckFault.TheVariants.{SchemaDiffers}
use Rattle.statement_checks.specs.Limits.{Check}
use Rattle.column_checks.specs.Tables.{is_equal_column}

abbrev pub has_equal : List Column → Column → Bool
has_equal columns wanted = list_any (is_equal_column wanted) columns

-- the name of the first of these columns of a table that is not given
abbrev pub first_missing : List Column → List Column → Option (List ℕ)
first_missing columns [] = None
first_missing columns (wanted ∷ more) = if has_equal columns wanted then first_missing columns more else Some wanted.name

-- the name of the first of these given columns that is one too many
abbrev pub first_beyond : List Column → List Column → Option (List ℕ)
first_beyond table [] = None
first_beyond table (given ∷ more) = if has_column table given.name then first_beyond table more else Some given.name

-- the given columns are those of the table by name and kind, in whatever order
abbrev pub gives_table : List Column → List Column → Check
gives_table table columns = option_map SchemaDiffers (option_or (first_missing columns table) (first_beyond table columns))

abbrev pub place_equal : List Column → Column → Option ℕ
place_equal columns wanted = position (is_equal_column wanted) columns

-- the places of the given columns in the order of the table's
abbrev pub places_by_name : List Column → List Column → List ℕ
places_by_name table columns = flat_map (λ wanted. option_to_list (place_equal columns wanted)) table

-- ---- items in the order of places

-- an item that is there and was not taken
abbrev pub slot_left : {A : Type 0} → List (Option A) → ℕ → Option A
slot_left slots place = option_and_then (λ slot. slot) (slice_get slots place)

-- the items at places, in the order of the places; each is there once
abbrev pub taken_from : {A : Type 0} → List (Option A) → List ℕ → List A
taken_from slots [] = []
taken_from slots (place ∷ more) = option_to_list (slot_left slots place) ++ taken_from (slice_set slots place None) more

abbrev pub items_placed : {A : Type 0} → List A → List ℕ → List A
items_placed items places = taken_from (map Some items) places
