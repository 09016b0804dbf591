-- The value of `--full-refresh`.
use Rattle.std.specs.Prelude.{ℕ, List, [], ◌∷◌, codes, Bool, true, false, ◌==◌, if◌then◌else◌, Option, Some, None}
use Rattle.std.specs.List.{list_any, slice_split}
use Rattle.std.specs.Str.{bytes_eq}
use Rattle.update_plan.specs.declared.ends.Refresh.{Refresh}
use Rattle.update_plan.specs.declared.ends.Refresh.TheVariants.{Nothing, All, Only}

abbrev pub is_empty : {A : Type 0} → List A → Bool
is_empty [] = true
is_empty (item ∷ more) = false

-- words, where none of them is empty
abbrev pub if_none_empty : List (List ℕ) → Option (List (List ℕ))
if_none_empty words = if list_any is_empty words then None else Some words

-- names with a comma between two of them, none of them empty
abbrev pub names_of : List ℕ → Option (List (List ℕ))
names_of value = if_none_empty (slice_split (λ byte. byte == 44) value)

abbrev pub only : Option (List (List ℕ)) → Option Refresh
only None = None
only (Some names) = Some (Only names)

-- the word `all`, or names
abbrev pub refresh_of : List ℕ → Option Refresh
refresh_of value = if bytes_eq value (codes "all") then Some All else only (names_of value)

-- nothing is refreshed where the option is not given
abbrev pub refresh_given : Option (List ℕ) → Option Refresh
refresh_given None = Some Nothing
refresh_given (Some value) = refresh_of value
