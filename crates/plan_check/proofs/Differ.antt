-- The names of the datasets of a plan differ.
use Rattle.std.proofs.Common.{◌≡◌, ℕ, ◌+◌, Bool, true, false, cond, List, [], ◌∷◌, ◌++◌, Option, Some, None, Ok, length, refl, sym, ◌∙◌, ap, subst, arith}
use Rattle.std.specs.Prelude.{◌||◌, map, option_map, option_to_list, if◌then◌else◌}
use Rattle.std.specs.List.{find, flat_map, list_any}
use Rattle.std.specs.Option.{option_or}
use Rattle.std.proofs.lemmas.Grind.{flat_map-append}
use Rattle.std.proofs.lemmas.List.{append-nil, map-append}
use Rattle.sql_tree.specs.declared.statement.Statement.{Statement}
use Rattle.value_core.specs.NameFold.{same_name}
use Rattle.plan_core.specs.declared.plan.Dataset.{Dataset}
use Rattle.plan_core.specs.Sound.{dataset_named}
use Rattle.graph_check.specs.Levels.{AreLevels}
use Rattle.statement_checks.specs.declared.fault.Break.{Break}
use Rattle.statement_checks.specs.declared.fault.CheckFault.{CheckFault}
use Rattle.statement_checks.specs.declared.fault.CheckFault.TheVariants.{Duplicate}
use Rattle.statement_checks.specs.Breaks.{break_behind, broken, first_break, statement_fault}
use Rattle.statement_checks.specs.Declares.{dataset_name}
use Rattle.statement_checks.specs.Duplicates.{clauses_differ, datasets_differ, flows_differ, is_named, is_new, items_differ, name_checks}
use Rattle.statement_checks.specs.Limits.{Check, limit_checks}
use Rattle.statement_checks.specs.Repeats.{first_of}
use Rattle.name_checks.specs.Edges.{dataset_names, reading_edges}
use Rattle.origin_checks.specs.declared.resolved.Resolved.{Resolved}
use Rattle.plan_check.specs.declared.visits.Visit.{Visit}
use Rattle.plan_check.specs.Names.{AreNewBehind}
use Rattle.plan_check.specs.Visits.{by_level, declared_places, visits_of, visits_with}
use Rattle.plan_check.specs.Walks.{in_order, name_at, walk}
use Rattle.plan_check.proofs.Judged.{Mark, mark, mark_of, visit_mark, walked_marks}
use Rattle.plan_check.proofs.Visiting.{AreVisited, all_visited}
use Rattle.plan_check.proofs.Placed.{AreAscending, places_of, placed_marks}
use Rattle.plan_check.proofs.Declared.{as_many, ascending_from, names_declared}

-- ---- names of statements

abbrev pub has_name : List (List ℕ) → List ℕ → Bool
has_name names name = list_any (λ other. same_name other name) names

-- no name is that of one before it
abbrev pub AreNewNames : List (List ℕ) → List (List ℕ) → Type 0
AreNewNames before [] = Unit {0}
AreNewNames before (name ∷ more) = (has_name before name ≡ false) × AreNewNames (before ++ name ∷ []) more

none_of_both : {A : Type 0} (a b : Option A) → option_or a b ≡ None → (a ≡ None) × (b ≡ None)
none_of_both None b e = (refl, e)
none_of_both (Some x) b e = absurd (cc)

none_mapped : {A B : Type 0} (f : A → B) (a : Option A) → option_map f a ≡ None → a ≡ None
none_mapped f None e = refl
none_mapped f (Some x) e = absurd (cc)

none_if : {A : Type 0} (test : Bool) (x : A) → (if test then Some x else None) ≡ None → test ≡ false
none_if true x e = absurd (cc)
none_if false x e = refl

has_name_if : (o : Option (List ℕ)) (name : List ℕ) (names : List (List ℕ)) → has_name (option_to_list o ++ names) name ≡ (is_named name o || has_name names name)
has_name_if None name names = refl
has_name_if (Some other) name names = refl

named_before : (name : List ℕ) (before : List Statement) → has_name (dataset_names before) name ≡ list_any (λ other. is_named name (dataset_name other)) before
named_before name [] = refl
named_before name (first ∷ more) = has_name_if (dataset_name first) name (dataset_names more) ∙ ap (λ (b : Bool). is_named name (dataset_name first) || b) (named_before name more)

names_behind : (before : List Statement) (first : Statement) → dataset_names (before ++ first ∷ []) ≡ dataset_names before ++ option_to_list (dataset_name first)
names_behind before first =
    flat_map-append (λ (s : Statement). option_to_list (dataset_name s)) before (first ∷ []) ∙
    ap (λ (x : List (List ℕ)). dataset_names before ++ x) (append-nil (option_to_list (dataset_name first)))

new_step : (before : List Statement) (name : Option (List ℕ)) (names : List (List ℕ)) → is_new dataset_name before name ≡ None → AreNewNames (dataset_names before ++ option_to_list name) names →
    AreNewNames (dataset_names before) (option_to_list name ++ names)
new_step before None names e rest = subst (λ (x : List (List ℕ)). AreNewNames x names) (append-nil (dataset_names before)) rest
new_step before (Some name) names e rest =
    (named_before name before ∙ none_if (list_any (λ other. is_named name (dataset_name other)) before) (Duplicate name) e, rest)

new_dataset : (before : List Statement) (first : Statement) → statement_fault before first ≡ None → is_new dataset_name before (dataset_name first) ≡ None
new_dataset before first e =
    let names : first_of (name_checks before first) ≡ None = (none_of_both (first_of (limit_checks before first)) (first_of (name_checks before first)) e).1 in
    (none_of_both (datasets_differ before first) (first_of (flows_differ before first ∷ items_differ first ∷ clauses_differ first ∷ [])) names).0

new_names : (before statements : List Statement) → break_behind before statements ≡ None → AreNewNames (dataset_names before) (dataset_names statements)
new_names before [] e = tt
new_names before (first ∷ more) e =
    let parts = none_of_both (option_map (broken (length before + 1)) (statement_fault before first)) (break_behind (before ++ first ∷ []) more) e in
    let new : is_new dataset_name before (dataset_name first) ≡ None = new_dataset before first (none_mapped (broken (length before + 1)) (statement_fault before first) parts.0) in
    new_step before (dataset_name first) (dataset_names more) new
    (subst (λ (x : List (List ℕ)). AreNewNames x (dataset_names more)) (names_behind before first) (new_names (before ++ first ∷ []) more parts.1))

-- ---- names of datasets

abbrev pub name_of : Dataset → List ℕ
name_of dataset = dataset.name

abbrev pub level_of : Dataset → ℕ
level_of dataset = dataset.level

found_if : (test : Bool) (first : Dataset) (rest : Option Dataset) (others : Bool) → (test || others) ≡ false → (others ≡ false → rest ≡ None) → cond test (Some first) rest ≡ None
found_if true first rest others e h = absurd (cc)
found_if false first rest others e h = h e

not_found : (before : List Dataset) (name : List ℕ) → has_name (map name_of before) name ≡ false → dataset_named before name ≡ None
not_found [] name e = refl
not_found (first ∷ more) name e = found_if (same_name first.name name) first (dataset_named more name) (has_name (map name_of more) name) e (not_found more name)

new_datasets : (before datasets : List Dataset) → AreNewNames (map name_of before) (map name_of datasets) → AreNewBehind before datasets
new_datasets before [] h = tt
new_datasets before (first ∷ more) h =
    (not_found before first.name h.0, new_datasets (before ++ first ∷ []) more (subst (λ (x : List (List ℕ)). AreNewNames x (map name_of more)) (sym (map-append name_of before (first ∷ []))) h.1))

-- ---- plans

by_places : (places levels : List ℕ) → length levels ≡ length places → places_of (visits_with places levels) ≡ places
by_places [] levels e = refl
by_places (place ∷ places) [] e = absurd (omega (arith, e))
by_places (place ∷ places) (level ∷ levels) e = ap (λ (x : List ℕ). place ∷ x) (by_places places levels (omega (arith, e)))

-- the datasets of a plan have the names and levels of the places, in declared order
planned_marks : (statements : List Statement) (resolved : List Resolved) (levels : List ℕ) (datasets : List Dataset) → AreLevels (length (dataset_names statements)) (reading_edges statements) levels →
    walk statements resolved (visits_of statements levels) ≡ Ok datasets →
    map mark_of (in_order (visits_of statements levels) (declared_places statements) datasets) ≡ map (visit_mark statements) (visits_of statements levels)
planned_marks statements resolved levels datasets are walked =
    let places : places_of (visits_of statements levels) ≡ declared_places statements = by_places (declared_places statements) levels (are.complete ∙ as_many statements) in
    subst (λ (p : List ℕ). map mark_of (in_order (visits_of statements levels) p datasets) ≡ map (visit_mark statements) (visits_of statements levels)) places
    (placed_marks statements (visits_of statements levels) datasets (subst AreAscending (sym places) (ascending_from 0 statements)) (walked_marks statements resolved (visits_of statements levels) datasets walked)
    (subst (AreVisited (by_level (visits_of statements levels))) (sym places) (all_visited (declared_places statements) levels (are.complete ∙ as_many statements))))

-- a list of names and levels, taken apart
pub record AreMarked (datasets : List Dataset) (names : List (List ℕ)) (levels : List ℕ) : Type 0 where
  pub names_are : map name_of datasets ≡ names
  pub levels_are : map level_of datasets ≡ levels

one_marked : (first : Dataset) (more : List Dataset) (name : List ℕ) (names : List (List ℕ)) (level : ℕ) (levels : List ℕ) → mark_of first ≡ mark (Some name) level → AreMarked more names levels → AreMarked (first ∷ more) (name ∷ names) (level ∷ levels)
one_marked first more name names level levels e rest =
    let named : Some first.name ≡ Some name = ap (λ (m : Mark). m.0) e in
    let same : first.name ≡ name = cc in
    record {
      names_are = ap (λ (x : List ℕ). x ∷ map name_of more) same ∙ ap (λ (x : List (List ℕ)). name ∷ x) rest.names_are;
      levels_are = ap (λ (m : Mark). m.1 ∷ map level_of more) e ∙ ap (λ (x : List ℕ). level ∷ x) rest.levels_are;
    }

all_marked : (statements : List Statement) (datasets : List Dataset) (places levels : List ℕ) (names : List (List ℕ)) → length levels ≡ length places → map (name_at statements) places ≡ map Some names →
    map mark_of datasets ≡ map (visit_mark statements) (visits_with places levels) → AreMarked datasets names levels
all_marked statements [] [] [] [] long named marks = record { names_are = refl; levels_are = refl }
all_marked statements (first ∷ more) [] levels names long named marks = absurd (cc)
all_marked statements datasets [] (level ∷ levels) names long named marks = absurd (omega (arith, long))
all_marked statements datasets [] levels (name ∷ names) long named marks = absurd (cc)
all_marked statements datasets (place ∷ places) [] names long named marks = absurd (omega (arith, long))
all_marked statements datasets (place ∷ places) (level ∷ levels) [] long named marks = absurd (cc)
all_marked statements [] (place ∷ places) (level ∷ levels) (name ∷ names) long named marks = absurd (cc)
all_marked statements (first ∷ more) (place ∷ places) (level ∷ levels) (name ∷ names) long named marks =
    let here : name_at statements place ≡ Some name = cc in
    let others : map (name_at statements) places ≡ map Some names = cc in
    let one : mark_of first ≡ mark (name_at statements place) level = cc in
    let rest : map mark_of more ≡ map (visit_mark statements) (visits_with places levels) = cc in
    one_marked first more name names level levels (one ∙ ap (λ (n : Option (List ℕ)). mark n level) here) (all_marked statements more places levels names (omega (arith, long)) others rest)

-- the datasets of a plan have the names that statements declare, in declared order, and the levels
pub planned_as : (statements : List Statement) (resolved : List Resolved) (levels : List ℕ) (datasets : List Dataset) → AreLevels (length (dataset_names statements)) (reading_edges statements) levels →
    walk statements resolved (visits_of statements levels) ≡ Ok datasets → AreMarked (in_order (visits_of statements levels) (declared_places statements) datasets) (dataset_names statements) levels
planned_as statements resolved levels datasets are walked =
    all_marked statements (in_order (visits_of statements levels) (declared_places statements) datasets) (declared_places statements) levels (dataset_names statements) (are.complete ∙ as_many statements) (names_declared statements)
    (planned_marks statements resolved levels datasets are walked)

-- so they differ, where the checks of what is declared pass
pub planned_differ : (statements : List Statement) (resolved : List Resolved) (levels : List ℕ) (datasets : List Dataset) → first_break statements ≡ None → AreLevels (length (dataset_names statements)) (reading_edges statements) levels →
    walk statements resolved (visits_of statements levels) ≡ Ok datasets → AreNewBehind [] (in_order (visits_of statements levels) (declared_places statements) datasets)
planned_differ statements resolved levels datasets none are walked =
    new_datasets [] (in_order (visits_of statements levels) (declared_places statements) datasets)
    (subst (AreNewNames []) (sym (planned_as statements resolved levels datasets are walked).names_are) (new_names [] statements none))

pub differ_by : (statements : List Statement) (resolved : List Resolved) (levels : List ℕ) (visits : List Visit) (places : List ℕ) (datasets : List Dataset) → visits ≡ visits_of statements levels → places ≡ declared_places statements →
    first_break statements ≡ None → AreLevels (length (dataset_names statements)) (reading_edges statements) levels → walk statements resolved visits ≡ Ok datasets → AreNewBehind [] (in_order visits places datasets)
differ_by statements resolved levels visits places datasets is_visits is_places none are walked =
    let by_visits : walk statements resolved (visits_of statements levels) ≡ Ok datasets = subst (λ (v : List Visit). walk statements resolved v ≡ Ok datasets) is_visits walked in
    subst (λ (v : List Visit). AreNewBehind [] (in_order v places datasets)) (sym is_visits)
    (subst (λ (p : List ℕ). AreNewBehind [] (in_order (visits_of statements levels) p datasets)) (sym is_places) (planned_differ statements resolved levels datasets none are by_visits))
