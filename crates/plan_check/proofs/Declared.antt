-- The places of statements that declare datasets, and the names there.
use Rattle.std.proofs.Common.{◌≡◌, ℕ, zero, suc, ◌+◌, ◌<◌, Bool, true, false, cond, List, [], ◌∷◌, ◌++◌, Option, Some, None, length, refl, sym, ◌∙◌, ap, subst, arith, append_assoc}
use Rattle.std.specs.Prelude.{map, slice_get, is_some, option_to_list, option_and_then}
use Rattle.std.proofs.lemmas.List.{length-append}
use Rattle.sql_tree.specs.declared.statement.Statement.{Statement}
use Rattle.statement_checks.specs.Declares.{dataset_name}
use Rattle.statement_checks.specs.Limits.{is_dataset}
use Rattle.name_checks.specs.Edges.{dataset_names}
use Rattle.plan_check.specs.Visits.{declared_from, declared_places}
use Rattle.plan_check.specs.Walks.{name_at}
use Rattle.plan_check.proofs.Placed.{AreAbove, AreAscending}

above_if : (least place : ℕ) (there : Bool) (rest : List ℕ) → least < place → AreAbove least rest → AreAbove least (cond there (place ∷ rest) rest)
above_if least place true rest less above = (less, above)
above_if least place false rest less above = above

above : (least place : ℕ) (statements : List Statement) → least < place → AreAbove least (declared_from place statements)
above least place [] less = tt
above least place (first ∷ more) less = above_if least place (is_dataset first) (declared_from (place + 1) more) less (above least (place + 1) more (omega (arith, less)))

ascending_if : (place : ℕ) (there : Bool) (rest : List ℕ) → AreAbove place rest → AreAscending rest → AreAscending (cond there (place ∷ rest) rest)
ascending_if place true rest above ascending = (above, ascending)
ascending_if place false rest above ascending = ascending

-- the places ascend
pub ascending_from : (place : ℕ) (statements : List Statement) → AreAscending (declared_from place statements)
ascending_from place [] = tt
ascending_from place (first ∷ more) = ascending_if place (is_dataset first) (declared_from (place + 1) more) (above place (place + 1) more (omega arith)) (ascending_from (place + 1) more)

at_seam : {A : Type 0} (before : List A) (x : A) (more : List A) → slice_get (before ++ x ∷ more) (length before) ≡ Some x
at_seam [] x more = refl
at_seam (first ∷ before) x more = at_seam before x more

name_here : (before : List Statement) (first : Statement) (more : List Statement) → name_at (before ++ first ∷ more) (length before) ≡ dataset_name first
name_here before first more = ap (option_and_then dataset_name) (at_seam before first more)

names_if : (all : List Statement) (place : ℕ) (name : Option (List ℕ)) (places : List ℕ) (names : List (List ℕ)) → name_at all place ≡ name → map (name_at all) places ≡ map Some names →
    map (name_at all) (cond (is_some name) (place ∷ places) places) ≡ map Some (option_to_list name ++ names)
names_if all place None places names here rest = rest
names_if all place (Some name) places names here rest = ap (λ (x : Option (List ℕ)). x ∷ map (name_at all) places) here ∙ ap (λ (x : List (Option (List ℕ))). Some name ∷ x) rest

one_longer : {A : Type 0} (before : List A) (x : A) → length (before ++ x ∷ []) ≡ length before + 1
one_longer before x = length-append before (x ∷ [])

names_from : (before more : List Statement) → map (name_at (before ++ more)) (declared_from (length before) more) ≡ map Some (dataset_names more)
names_from before [] = refl
names_from before (first ∷ more) =
    let rest : map (name_at (before ++ first ∷ more)) (declared_from (length before + 1) more) ≡ map Some (dataset_names more) =
    subst (λ (place : ℕ). map (name_at (before ++ first ∷ more)) (declared_from place more) ≡ map Some (dataset_names more)) (one_longer before first)
    (subst (λ (all : List Statement). map (name_at all) (declared_from (length (before ++ first ∷ [])) more) ≡ map Some (dataset_names more)) (append_assoc before (first ∷ []) more)
    (names_from (before ++ first ∷ []) more)) in
    names_if (before ++ first ∷ more) (length before) (dataset_name first) (declared_from (length before + 1) more) (dataset_names more) (name_here before first more) rest

-- the names at the places are those of the datasets
pub names_declared : (statements : List Statement) → map (name_at statements) (declared_places statements) ≡ map Some (dataset_names statements)
names_declared statements = names_from [] statements

as_many_if : (place : ℕ) (name : Option (List ℕ)) (places : List ℕ) (names : List (List ℕ)) → length names ≡ length places → length (option_to_list name ++ names) ≡ length (cond (is_some name) (place ∷ places) places)
as_many_if place None places names e = e
as_many_if place (Some name) places names e = ap suc e

as_many_from : (place : ℕ) (statements : List Statement) → length (dataset_names statements) ≡ length (declared_from place statements)
as_many_from place [] = refl
as_many_from place (first ∷ more) = as_many_if place (dataset_name first) (declared_from (place + 1) more) (dataset_names more) (as_many_from (place + 1) more)

-- there are as many names as places
pub as_many : (statements : List Statement) → length (dataset_names statements) ≡ length (declared_places statements)
as_many statements = as_many_from 0 statements
