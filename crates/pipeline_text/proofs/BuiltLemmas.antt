-- A pipeline that an update can run has append tables alone.
use Rattle.std.proofs.Common.{◌≡◌, ℕ, ◌+◌, ◌<◌, ◌≤◌, suc, Bool, true, false, cond, List, [], ◌∷◌, ◌++◌, length, refl, sym, ◌∙◌, ap, arith, Option, Some, None, IsTrue}
use Rattle.std.specs.Prelude.{All, get_or, is_some, not, map, position, slice_get, option_and_then, option_map, option_to_list}
use Rattle.std.specs.List.{AllByRecursion, position_or_len}
use Rattle.std.proofs.lemmas.List.{length-map}
use Rattle.std.proofs.lemmas.List.Elements.{recursion_from_All}
use Rattle.std.proofs.lemmas.Grind.{common_steps}
use Rattle.std.proofs.lemmas.List.Sums.{fails_before_first}
use Rattle.std.proofs.lemmas.Option.{slice_get-get_or}
use Rattle.sql_tree.specs.declared.statement.Statement.{Statement}
use Rattle.plan_core.specs.declared.plan.Dataset.{Dataset}
use Rattle.plan_core.specs.Sound.{is_append}
use Rattle.statement_checks.specs.Declares.{dataset_name}
use Rattle.name_checks.specs.Edges.{dataset_names}
use Rattle.plan_check.specs.Visits.{declared_from, declared_places}
use Rattle.pipeline_text.specs.Built.{first_unbuilt, declared_place, unbuilt_in}

as_many_if : (place : ℕ) (name : Option (List ℕ)) (places : List ℕ) (names : List (List ℕ)) → length names ≡ length places → length (option_to_list name ++ names) ≡ length (cond (is_some name) (place ∷ places) places)
as_many_if place None places names e = e
as_many_if place (Some name) places names e = ap suc e

-- each name is declared at a place
as_many : (place : ℕ) (statements : List Statement) → length (dataset_names statements) ≡ length (declared_from place statements)
as_many place [] = refl
as_many place (first ∷ more) = as_many_if place (dataset_name first) (declared_from (place + 1) more) (dataset_names more) (as_many (place + 1) more)

-- ---- the first dataset that isn't built

abbrev unbuilt : Dataset → Bool
unbuilt dataset = not (is_append dataset.body)

past : {A : Type 0} (p : A → Bool) (xs : List A) → position p xs ≡ None → length xs ≤ position_or_len p xs
past p xs none = grind (arith, common_steps)

inside : {A : Type 0} (p : A → Bool) (xs : List A) (i : ℕ) → position p xs ≡ Some i → i < length xs
inside p xs i found =
    let at : position_or_len p xs ≡ i = grind (arith, common_steps) in
    grind (arith, common_steps)

built_so : (b : Bool) → not b ≡ false → b ≡ true
built_so true e = refl
built_so false e = absurd (cc)

each_append : (plan : List Dataset) → first_unbuilt plan ≡ None → All (λ part. IsTrue (is_append part.body)) plan
each_append plan none k d within =
    let behind = past unbuilt plan none in
    built_so (is_append (get_or plan k d).body) (fails_before_first unbuilt plan k d (omega (arith, behind, within)))

nothing_mapped : {A B : Type 0} (f : A → B) (given : Option A) → option_map f given ≡ None → given ≡ None
nothing_mapped f None e = refl
nothing_mapped f (Some a) e = absurd (cc)

-- one would have a statement
none_unbuilt : (statements : List Statement) (plan : List Dataset) (first : Option ℕ) → first ≡ first_unbuilt plan → length plan ≡ length (declared_places statements) → option_and_then (declared_place statements) first ≡ None → first_unbuilt plan ≡ None
none_unbuilt statements plan None is same none = sym is
none_unbuilt statements plan (Some at) is same none =
    let within = inside unbuilt plan at (sym is) in
    let there = slice_get-get_or (declared_places statements) at 0 (omega (arith, same, within)) in
    absurd (cc)

-- where no statement is one that an update can't run, each dataset is an append table
pub append_tables : (statements : List Statement) (plan : List Dataset) → map (λ dataset. dataset.name) plan ≡ dataset_names statements → unbuilt_in statements plan ≡ None → AllByRecursion (λ part. IsTrue (is_append part.body)) plan
append_tables statements plan named none =
    let same : length plan ≡ length (declared_places statements) =
    sym (length-map plan (λ dataset. dataset.name)) ∙ ap (λ (names : List (List ℕ)). length names) named ∙ as_many 0 statements in
    let first = nothing_mapped (λ place. place + 1) (option_and_then (declared_place statements) (first_unbuilt plan)) none in
    recursion_from_All (λ (part : Dataset). IsTrue (is_append part.body)) plan (each_append plan (none_unbuilt statements plan (first_unbuilt plan) refl same first))
