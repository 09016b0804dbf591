-- No flow of its own fills a view.
use Rattle.std.proofs.Common.{◌≡◌, inl, inr, ℕ, ◌+◌, Bool, true, false, List, [], ◌∷◌, Option, Some, None, refl, sym, ap, subst, ◌∙◌}
use Rattle.std.specs.Prelude.{◌||◌, if◌then◌else◌, option_map, slice_get}
use Rattle.value_core.specs.NameFold.{same_name}
use Rattle.sql_tree.specs.declared.statement.Select.{Select}
use Rattle.sql_tree.specs.declared.statement.SqlItem.{SqlItem}
use Rattle.sql_tree.specs.declared.statement.Statement.{Statement}
use Rattle.sql_tree.specs.declared.statement.Statement.TheVariants as statement
use Rattle.statement_checks.specs.declared.fault.CheckFault.TheVariants.{NotStreaming}
use Rattle.statement_checks.specs.Breaks.{broken}
use Rattle.statement_checks.specs.Duplicates.{is_named}
use Rattle.statement_checks.specs.Repeats.{first_of}
use Rattle.name_checks.specs.Names.{break_from, dataset_known, first_name_break, has_view, name_fault, target_streams}
use Rattle.name_checks.specs.Sources.{source_name, target_name, view_name}
use Rattle.dataset_checks.specs.Filling.{fillers_from, fills}
use Rattle.plan_texts.proofs.Declared.{filler}
use Rattle.plan_texts.proofs.Lists.{Among, among_at, no_some}
use Rattle.plan_texts.proofs.Names.{name_back}
use Rattle.plan_texts.proofs.Results.{none_of_both}

none_mapped : {A B : Type 0} (f : A → B) (o : Option A) → option_map f o ≡ None → o ≡ None
none_mapped f None e = refl
none_mapped f (Some x) e = absurd (no_some (sym e))

none_if : {A : Type 0} (test : Bool) (x : A) → (if test then Some x else None) ≡ None → test ≡ false
none_if true x e = absurd (no_some (sym e))
none_if false x e = refl

-- no statement breaks a check by the names that it uses
no_fault : (all : List Statement) (number : ℕ) (left : List Statement) (one : Statement) → break_from all number left ≡ None → Among one left → name_fault all one ≡ None
no_fault all number [] one e m = absurd m
no_fault all number (first ∷ more) one e (inl same) =
    subst (λ (s : Statement). name_fault all s ≡ None) (sym same)
    (none_mapped (broken number) (name_fault all first) (none_of_both (option_map (broken number) (name_fault all first)) (break_from all (number + 1) more) e).0)
no_fault all number (first ∷ more) one e (inr m) = no_fault all (number + 1) more one (none_of_both (option_map (broken number) (name_fault all first)) (break_from all (number + 1) more) e).1 m

-- the target of a flow is no view
target_free : (all : List Statement) (one : Statement) (target : List ℕ) → target_name one ≡ Some target → name_fault all one ≡ None → has_view all target ≡ false
target_free all one target is e =
    let rest = (none_of_both (dataset_known all (target_name one)) (first_of (target_streams all (target_name one) ∷ dataset_known all (source_name one) ∷ [])) e).1 in
    let streams : target_streams all (target_name one) ≡ None = (none_of_both (target_streams all (target_name one)) (first_of (dataset_known all (source_name one) ∷ [])) rest).0 in
    none_if (has_view all target) (NotStreaming target) (ap (target_streams all) (sym is) ∙ streams)

any_left : (a b : Bool) → a ≡ true → (a || b) ≡ true
any_left true b e = refl
any_left false b e = absurd (cc)

any_right : (a b : Bool) → b ≡ true → (a || b) ≡ true
any_right true b e = refl
any_right false b e = e

view_there : (all : List Statement) (one : Statement) (view target : List ℕ) → Among one all → view_name one ≡ Some view → same_name view target ≡ true → has_view all target ≡ true
view_there [] one view target m is same = absurd m
view_there (first ∷ more) one view target (inl e) is same =
    any_left (is_named target (view_name first)) (has_view more target) (ap (λ (s : Statement). is_named target (view_name s)) (sym e) ∙ ap (is_named target) is ∙ same)
view_there (first ∷ more) one view target (inr m) is same = any_right (is_named target (view_name first)) (has_view more target) (view_there more one view target m is same)

fills_target : (table : List ℕ) (one : Statement) → fills table one ≡ true → (target : List ℕ) × (target_name one ≡ Some target) × (same_name target table ≡ true)
fills_target table (statement.Table name items select) e = absurd (cc)
fills_target table (statement.View name items select) e = absurd (cc)
fills_target table (statement.Insert flow target select) e = (target, refl, e)
fills_target table (statement.Cdc flow feed) e = (feed.target, refl, e)

no_both : (b : Bool) → b ≡ true → b ≡ false → ⊥
no_both true e f = cc
no_both false e f = cc

pub unfilled : (statements : List Statement) (place : ℕ) (view : List ℕ) (items : List SqlItem) (select : Select) (flow : ℕ) → first_name_break statements ≡ None → slice_get statements place ≡ Some (statement.View view items select) →
    Among flow (fillers_from view 0 statements) → ⊥
unfilled statements place view items select flow none is m =
    let f = filler view statements flow m in
    let target = fills_target view f.statement f.is_flow in
    let free = target_free statements f.statement target.0 target.1 (no_fault statements 1 statements f.statement none (among_at statements flow f.statement f.is_there)) in
    let there = view_there statements (statement.View view items select) view target.0 (among_at statements place (statement.View view items select) is) refl (name_back target.0 view target.2) in
    no_both (has_view statements target.0) there free
