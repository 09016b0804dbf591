-- What occurs twice.
use Rattle.std.specs.Prelude.{ℕ, Bool, if◌then◌else◌, List, [], ◌∷◌, ◌++◌, Option, Some, None}
use Rattle.std.specs.List.{list_any}
use Rattle.std.specs.Option.{option_or}
use Rattle.value_core.specs.NameFold.{same_name}

-- the first that is there
abbrev pub first_of : {A : Type 0} → List (Option A) → Option A
first_of [] = None
first_of (found ∷ more) = option_or found (first_of more)

-- behind others, the first that is the same as an earlier one
abbrev pub repeat_behind : {A : Type 0} → (A → A → Bool) → List A → List A → Option A
repeat_behind same before [] = None
repeat_behind same before (first ∷ more) = if list_any (same first) before then Some first else repeat_behind same (before ++ first ∷ []) more

-- the first name that an earlier one is, but for the case of ASCII letters
abbrev pub first_repeat : List (List ℕ) → Option (List ℕ)
first_repeat = repeat_behind same_name []
