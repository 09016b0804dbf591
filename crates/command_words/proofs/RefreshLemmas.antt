-- Words none of which is empty, one after another.
use Rattle.std.proofs.Common.{◌≡◌, ℕ, Bool, true, false, List, [], ◌∷◌, ◌++◌, Option, Some, None, refl, ap, sym, ◌∙◌}
use Rattle.std.specs.List.{list_any}
use Rattle.command_words.specs.Refreshes.{is_empty, if_none_empty}

pub none_empty_more : (names : List (List ℕ)) (name : List ℕ) → list_any is_empty names ≡ false → is_empty name ≡ false → list_any is_empty (names ++ name ∷ []) ≡ false
none_empty_more [] name e f = rw f refl
none_empty_more ([] ∷ names) name e f = cc
none_empty_more ((byte ∷ bytes) ∷ names) name e f = none_empty_more names name e f

pub one_is_empty : (names : List (List ℕ)) (name : List ℕ) (more : List (List ℕ)) → is_empty name ≡ true → list_any is_empty (names ++ name ∷ more) ≡ true
one_is_empty [] name more f = rw f refl
one_is_empty ([] ∷ names) name more f = refl
one_is_empty ((byte ∷ bytes) ∷ names) name more f = one_is_empty names name more f
