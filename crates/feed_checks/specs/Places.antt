-- Columns by name and by place. Names are compared but for the case of ASCII letters.
use Rattle.std.specs.Prelude.{ℕ, ◌+◌, Bool, if◌then◌else◌, List, [], ◌∷◌, ◌++◌, flat_map, position, slice_get, option_to_list, Option, Some, None}
use Rattle.std.specs.List.{list_any}
use Rattle.sql_tree.specs.declared.statement.SqlSome.{SqlSome}
use Rattle.sql_tree.specs.declared.statement.SqlSome.TheVariants as some
use Rattle.value_core.specs.declared.schema.Column.{Column}
use Rattle.value_core.specs.NameFold.{same_name}

-- the place of the first column of that name
abbrev pub place_named : List Column → List ℕ → Option ℕ
place_named columns name = position (λ column. same_name column.name name) columns

-- the places of the columns of these names, in the order of the names
abbrev pub places_named : List Column → List (List ℕ) → List ℕ
places_named columns names = flat_map (λ name. option_to_list (place_named columns name)) names

-- whether one of these names is this one
abbrev pub is_named_in : List (List ℕ) → List ℕ → Bool
is_named_in names name = list_any (λ other. same_name other name) names

-- this place, where the column of it has none of these names
abbrev pub place_if_other : List (List ℕ) → ℕ → Column → List ℕ
place_if_other names place column = if is_named_in names column.name then [] else place ∷ []

-- the places, from this one on, of the columns of none of these names
abbrev pub others_from : List (List ℕ) → ℕ → List Column → List ℕ
others_from names place [] = []
others_from names place (first ∷ more) = place_if_other names place first ++ others_from names (place + 1) more

-- the places of some columns: of all in their order, of all but those of a list, or of those of a list in its order
abbrev pub some_places : List Column → Option SqlSome → List ℕ
some_places columns None = others_from [] 0 columns
some_places columns (Some (some.Except names)) = others_from names 0 columns
some_places columns (Some (some.Only names)) = places_named columns names

-- the columns at places
abbrev pub columns_at : List Column → List ℕ → List Column
columns_at columns places = flat_map (λ place. option_to_list (slice_get columns place)) places
