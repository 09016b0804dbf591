-- Readings, column by column.
use Rattle.std.proofs.Common.{◌≡◌, ℕ, ◌+◌, ◌<◌, List, [], ◌∷◌, ◌++◌, map, take, length, get_or, Bool, true, false, ◌||◌, Option, refl}
use Rattle.std.specs.Prelude.{is_none}
use Rattle.std.specs.List.{list_any}
use Rattle.std.proofs.lemmas.List.{map-append, map_more}
use Rattle.std.proofs.lemmas.List.Folds.{list_any-append}
use Rattle.value_core.specs.declared.value.Value.{Value}
use Rattle.line_rows.specs.Readings.{reading_of, with_taken}

last_refused : (before now stray : Bool) → ((before || (now || false)) || stray) ≡ ((before || stray) || now)
last_refused true now stray = refl
last_refused false true true = refl
last_refused false true false = refl
last_refused false false true = refl
last_refused false false false = refl

pub reading-append : (taken : List (Option Value)) (value : Option Value) (stray : Bool) → reading_of (taken ++ value ∷ []) stray ≡ with_taken (reading_of taken stray) value
reading-append taken value stray =
    rw (map-append _ taken (value ∷ []), list_any-append is_none taken (value ∷ []), last_refused (list_any is_none taken) (is_none value) stray) refl

-- one column more, in a loop
pub reading_more : {X : Type 0} (f : X → Option Value) (xs : List X) (i : ℕ) (d : X) (stray : Bool) → i < length xs
    → reading_of (map f (take (i + 1) xs)) stray ≡ with_taken (reading_of (map f (take i xs)) stray) (f (get_or xs i d))
reading_more f xs i d stray lt = rw (map_more f xs i d lt) (reading-append (map f (take i xs)) (f (get_or xs i d)) stray)
