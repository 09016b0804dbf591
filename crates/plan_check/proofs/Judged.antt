-- The names of the datasets of a walk.
use Rattle.std.proofs.Common.{◌≡◌, ℕ, List, [], ◌∷◌, ◌++◌, Option, Some, None, Result, Ok, Err, refl, sym, ◌∙◌, ap, subst, append_assoc}
use Rattle.std.specs.Prelude.{map, slice_get, option_and_then}
use Rattle.std.specs.List.{flat_map}
use Rattle.std.proofs.lemmas.List.{append-nil, map-append}
use Rattle.sql_tree.specs.declared.statement.SqlItem.{SqlItem}
use Rattle.sql_tree.specs.declared.statement.Statement.{Statement}
use Rattle.sql_tree.specs.declared.statement.Statement.TheVariants as statement
use Rattle.plan_core.specs.declared.plan.Dataset.{Dataset}
use Rattle.statement_checks.specs.declared.fault.Break.{Break}
use Rattle.statement_checks.specs.declared.fault.CheckFault.{CheckFault}
use Rattle.statement_checks.specs.Declares.{dataset_name}
use Rattle.origin_checks.specs.declared.resolved.Resolved.{Resolved}
use Rattle.select_checks.specs.Expecting.{expectations_over}
use Rattle.feed_checks.specs.Feeds.{passed}
use Rattle.dataset_checks.specs.declared.parts.DatasetParts.{DatasetParts}
use Rattle.dataset_checks.specs.Datasets.{own_fault, dataset_of, dataset_with, dataset_filled, statement_judged, judged_if_there}
use Rattle.dataset_checks.specs.Ends.{and_then, at_statement}
use Rattle.dataset_checks.specs.Tables.{table_parts}
use Rattle.dataset_checks.specs.Viewing.{view_by}
use Rattle.plan_check.specs.declared.visits.Visit.{Visit}
use Rattle.plan_check.specs.Visits.{by_level, levels_in, of_level}
use Rattle.plan_check.specs.Walks.{level_behind, levels_behind, name_at, text_at, visited, walk}

-- the name and the level of a dataset
abbrev pub Mark : Type 0
Mark = Option (List ℕ) × ℕ

abbrev pub mark : Option (List ℕ) → ℕ → Mark
mark name level = (name, level)

abbrev pub mark_of : Dataset → Mark
mark_of dataset = mark (Some dataset.name) dataset.level

-- the name at the place that is visited, and the level
abbrev pub visit_mark : List Statement → Visit → Mark
visit_mark statements visit = mark (name_at statements visit.place) visit.level

-- the dataset, if there is one, has this name and level
abbrev pub HasMark : {E : Type 0} → Mark → Result Dataset E → Type 0
HasMark one (Ok dataset) = one ≡ mark_of dataset
HasMark one (Err fault) = Unit {0}

marked_behind : {A E : Type 0} (one : Mark) (given : Result A E) (f : A → Result Dataset E) → ((a : A) → HasMark one (f a)) → HasMark one (and_then given f)
marked_behind one (Ok a) f h = h a
marked_behind one (Err fault) f h = tt

marked_at : (one : Mark) (place : ℕ) (given : Result Dataset CheckFault) → HasMark one given → HasMark one (at_statement place given)
marked_at one place (Ok dataset) h = h
marked_at one place (Err fault) h = tt

marked_with : (name : List ℕ) (items : List SqlItem) (level : ℕ) (text : List ℕ) (parts : DatasetParts) → HasMark (mark (Some name) level) (dataset_with name items level text parts)
marked_with name items level text parts =
    marked_behind (mark (Some name) level) (passed (own_fault items parts.columns)) (λ u. and_then (expectations_over items parts.seen) (λ expectations. Ok (dataset_of name text level parts expectations)))
    (λ u. marked_behind (mark (Some name) level) (expectations_over items parts.seen) (λ expectations. Ok (dataset_of name text level parts expectations)) (λ expectations. refl))

marked_filled : (place : ℕ) (name : List ℕ) (items : List SqlItem) (level : ℕ) (text : List ℕ) (filled : Result DatasetParts Break) → HasMark (mark (Some name) level) (dataset_filled place name items level text filled)
marked_filled place name items level text filled =
    marked_behind (mark (Some name) level) filled (λ parts. at_statement place (dataset_with name items level text parts))
    (λ parts. marked_at (mark (Some name) level) place (dataset_with name items level text parts) (marked_with name items level text parts))

marked_statement : (statements : List Statement) (resolved : List Resolved) (before : List Dataset) (place level : ℕ) (text : List ℕ) (one : Statement) →
    HasMark (mark (dataset_name one) level) (statement_judged statements resolved before place level text one)
marked_statement statements resolved before place level text (statement.Table name items select) = marked_filled place name items level text (table_parts statements resolved before place name items select)
marked_statement statements resolved before place level text (statement.View name items select) = marked_filled place name items level text (at_statement place (view_by name select before (slice_get resolved place)))
marked_statement statements resolved before place level text (statement.Insert flow target select) = tt
marked_statement statements resolved before place level text (statement.Cdc flow feed) = tt

marked_if_there : (statements : List Statement) (resolved : List Resolved) (before : List Dataset) (place level : ℕ) (text : List ℕ) (one : Option Statement) →
    HasMark (mark (option_and_then dataset_name one) level) (judged_if_there statements resolved before place level text one)
marked_if_there statements resolved before place level text None = tt
marked_if_there statements resolved before place level text (Some one) = marked_statement statements resolved before place level text one

marked_visit : (statements : List Statement) (resolved : List Resolved) (before : List Dataset) (visit : Visit) → HasMark (visit_mark statements visit) (visited statements resolved before visit)
marked_visit statements resolved before visit = marked_if_there statements resolved before visit.place visit.level (text_at statements visit.place) (slice_get statements visit.place)

-- the datasets, if there are, have these names and levels
abbrev pub HaveMarks : List Mark → Result (List Dataset) Break → Type 0
HaveMarks marks (Ok datasets) = map mark_of datasets ≡ marks
HaveMarks marks (Err found) = Unit {0}

level_step : (statements : List Statement) (resolved : List Resolved) (lesser before : List Dataset) (one : Mark) (marks : List Mark) (more : List Visit) (found : Result Dataset Break) →
    HasMark one found → ((dataset : Dataset) → HaveMarks (map mark_of (before ++ dataset ∷ []) ++ marks) (level_behind statements resolved lesser (before ++ dataset ∷ []) more)) →
    HaveMarks (map mark_of before ++ one ∷ marks) (and_then found (λ dataset. level_behind statements resolved lesser (before ++ dataset ∷ []) more))
level_step statements resolved lesser before one marks more (Ok dataset) h rest =
    let here : map mark_of (before ++ dataset ∷ []) ++ marks ≡ map mark_of before ++ one ∷ marks =
    ap (λ (x : List Mark). x ++ marks) (map-append mark_of before (dataset ∷ [])) ∙ append_assoc (map mark_of before) (mark_of dataset ∷ []) marks ∙ ap (λ (x : Mark). map mark_of before ++ x ∷ marks) (sym h) in
    subst (λ (x : List Mark). HaveMarks x (level_behind statements resolved lesser (before ++ dataset ∷ []) more)) here (rest dataset)
level_step statements resolved lesser before one marks more (Err found) h rest = tt

level_marks : (statements : List Statement) (resolved : List Resolved) (lesser before : List Dataset) (visits : List Visit) →
    HaveMarks (map mark_of before ++ map (visit_mark statements) visits) (level_behind statements resolved lesser before visits)
level_marks statements resolved lesser before [] = sym (append-nil (map mark_of before))
level_marks statements resolved lesser before (visit ∷ more) =
    level_step statements resolved lesser before (visit_mark statements visit) (map (visit_mark statements) more) more (visited statements resolved lesser visit)
    (marked_visit statements resolved lesser visit) (λ dataset. level_marks statements resolved lesser (before ++ dataset ∷ []) more)

walk_step : (statements : List Statement) (resolved : List Resolved) (visits : List Visit) (before here others : List Mark) (more : List ℕ) (found : Result (List Dataset) Break) →
    HaveMarks (before ++ here) found → ((datasets : List Dataset) → HaveMarks (map mark_of datasets ++ others) (levels_behind statements resolved visits datasets more)) →
    HaveMarks (before ++ (here ++ others)) (and_then found (λ datasets. levels_behind statements resolved visits datasets more))
walk_step statements resolved visits before here others more (Ok datasets) h rest =
    subst (λ (x : List Mark). HaveMarks x (levels_behind statements resolved visits datasets more)) (ap (λ (x : List Mark). x ++ others) h ∙ append_assoc before here others) (rest datasets)
walk_step statements resolved visits before here others more (Err found) h rest = tt

walk_marks : (statements : List Statement) (resolved : List Resolved) (visits : List Visit) (lesser : List Dataset) (levels : List ℕ) →
    HaveMarks (map mark_of lesser ++ map (visit_mark statements) (flat_map (of_level visits) levels)) (levels_behind statements resolved visits lesser levels)
walk_marks statements resolved visits lesser [] = sym (append-nil (map mark_of lesser))
walk_marks statements resolved visits lesser (level ∷ more) =
    subst (λ (x : List Mark). HaveMarks (map mark_of lesser ++ x) (levels_behind statements resolved visits lesser (level ∷ more)))
    (sym (map-append (visit_mark statements) (of_level visits level) (flat_map (of_level visits) more)))
    (walk_step statements resolved visits (map mark_of lesser) (map (visit_mark statements) (of_level visits level)) (map (visit_mark statements) (flat_map (of_level visits) more)) more
    (level_behind statements resolved lesser lesser (of_level visits level)) (level_marks statements resolved lesser lesser (of_level visits level))
    (λ datasets. walk_marks statements resolved visits datasets more))

-- the datasets of a walk have the names and levels of the visits by level
pub walked_marks : (statements : List Statement) (resolved : List Resolved) (visits : List Visit) (datasets : List Dataset) → walk statements resolved visits ≡ Ok datasets → map mark_of datasets ≡ map (visit_mark statements) (by_level visits)
walked_marks statements resolved visits datasets e = subst (HaveMarks (map (visit_mark statements) (by_level visits))) e (walk_marks statements resolved visits [] (levels_in visits))
