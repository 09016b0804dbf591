-- Each dataset of a walk is what its visit gives.
use Rattle.std.proofs.Common.{◌≡◌, inl, inr, ℕ, zero, suc, ◌+◌, Bool, true, false, cond, List, [], ◌∷◌, ◌++◌, Result, Ok, Err, refl, sym, ap, subst, ◌∙◌, arith, add-one}
use Rattle.std.specs.Prelude.{nat_eq}
use Rattle.std.specs.List.{range_with_len}
use Rattle.std.proofs.lemmas.Bool.{eqb-true}
use Rattle.sql_tree.specs.declared.statement.Statement.{Statement}
use Rattle.plan_core.specs.declared.plan.Dataset.{Dataset}
use Rattle.statement_checks.specs.declared.fault.Break.{Break}
use Rattle.origin_checks.specs.declared.resolved.Resolved.{Resolved}
use Rattle.dataset_checks.specs.Ends.{and_then}
use Rattle.plan_check.specs.declared.visits.Visit.{Visit}
use Rattle.plan_check.specs.Visits.{greatest_level, of_level}
use Rattle.plan_check.specs.Walks.{level_behind, levels_behind, visited, walk}
use Rattle.plan_texts.proofs.Lists.{Among, among_append}
use Rattle.plan_texts.proofs.Results.{behind_ok, in_ok}

range_suc : (from count last : ℕ) → from + count ≡ last → range_with_len from (suc count) ≡ range_with_len from count ++ last ∷ []
range_suc from zero last e = ap (λ (n : ℕ). n ∷ []) (omega (arith, e))
range_suc from (suc count) last e = ap (λ (ns : List ℕ). from ∷ ns) (range_suc (from + 1) count last (omega (arith, e)))

-- one more number
range_more : (count : ℕ) → range_with_len 0 (count + 1) ≡ range_with_len 0 count ++ count ∷ []
range_more count = ap (range_with_len 0) (add-one count) ∙ range_suc 0 count count (omega arith)

kept_by : (visit first : Visit) (more : List Visit) (level : ℕ) (test : Bool) → nat_eq first.level level ≡ test → (Among visit (of_level more level) → Among visit more × (visit.level ≡ level)) → Among visit (cond test (first ∷ of_level more level) (of_level more level)) →
    Among visit (first ∷ more) × (visit.level ≡ level)
kept_by visit first more level true is rest (inl e) = (inl e, ap (λ (v : Visit). v.level) e ∙ eqb-true first.level level is)
kept_by visit first more level true is rest (inr m) = (inr (rest m).0, (rest m).1)
kept_by visit first more level false is rest m = (inr (rest m).0, (rest m).1)

-- the visits of a level are visits, and of that level
visits_of_level : (visit : Visit) (visits : List Visit) (level : ℕ) → Among visit (of_level visits level) → Among visit visits × (visit.level ≡ level)
visits_of_level visit [] level m = absurd m
visits_of_level visit (first ∷ more) level m = kept_by visit first more level (nat_eq first.level level) refl (visits_of_level visit more level) m

module _ (statements : List Statement) (resolved : List Resolved) (visits : List Visit) where
  -- the datasets of the levels below this one
  abbrev pub lesser_than : ℕ → Result (List Dataset) Break
  lesser_than level = levels_behind statements resolved visits [] (range_with_len 0 level)

  -- it is what one of the visits gives over the datasets of lesser levels
  pub record IsVisited (dataset : Dataset) : Type 0 where
    pub visit : Visit
    pub is_visit : Among visit visits
    pub lesser : List Dataset
    pub lesser_is : lesser_than visit.level ≡ Ok lesser
    pub gives : visited statements resolved lesser visit ≡ Ok dataset

  abbrev pub AreVisited : List Dataset → Type 0
  AreVisited datasets = (dataset : Dataset) → Among dataset datasets → IsVisited dataset

  -- a visit gives one dataset
  pub one_visited : (a b : Dataset) (one : IsVisited a) (other : IsVisited b) → one.visit ≡ other.visit → a ≡ b
  one_visited a b one other same =
      let lesser : one.lesser ≡ other.lesser = in_ok (sym one.lesser_is ∙ ap (λ (v : Visit). lesser_than v.level) same ∙ other.lesser_is) in
      in_ok (sym one.gives ∙ ap (λ (v : Visit). visited statements resolved one.lesser v) same ∙ ap (λ (l : List Dataset). visited statements resolved l other.visit) lesser ∙ other.gives)

  one_more : (before : List Dataset) (dataset : Dataset) → AreVisited before → IsVisited dataset → AreVisited (before ++ dataset ∷ [])
  one_more before dataset all one d m = elim (among_append d before (dataset ∷ []) m) [
    | inl n ↦ all d n
    | inr n ↦ elim n [ inl e ↦ subst IsVisited (sym e) one | inr never ↦ absurd never ]
  ]

  level_visited : (level : ℕ) (lesser before : List Dataset) (left : List Visit) (datasets : List Dataset) → lesser_than level ≡ Ok lesser → ((visit : Visit) → Among visit left → Among visit visits × (visit.level ≡ level)) → AreVisited before →
      level_behind statements resolved lesser before left ≡ Ok datasets → AreVisited datasets
  level_visited level lesser before [] datasets is of all e = subst AreVisited (in_ok e) all
  level_visited level lesser before (visit ∷ more) datasets is of all e =
      let step = behind_ok (visited statements resolved lesser visit) (λ dataset. level_behind statements resolved lesser (before ++ dataset ∷ []) more) datasets e in
      let here = of visit (inl refl) in
      let one : IsVisited step.0 = record { visit = visit; is_visit = here.0; lesser = lesser; lesser_is = ap lesser_than here.1 ∙ is; gives = step.1 } in
      level_visited level lesser (before ++ step.0 ∷ []) more datasets is (λ v m. of v (inr m)) (one_more before step.0 all one) step.2

  abbrev then_level : ℕ → List Dataset → Result (List Dataset) Break
  then_level level datasets = level_behind statements resolved datasets datasets (of_level visits level)

  last_level : (given : Result (List Dataset) Break) → and_then given (λ datasets. Ok datasets) ≡ given
  last_level (Ok datasets) = refl
  last_level (Err found) = refl

  first_level : (levels : List ℕ) (level : ℕ) (given : Result (List Dataset) Break) → ((datasets : List Dataset) → levels_behind statements resolved visits datasets (levels ++ level ∷ []) ≡ and_then (levels_behind statements resolved visits datasets levels) (then_level level)) →
      and_then given (λ datasets. levels_behind statements resolved visits datasets (levels ++ level ∷ [])) ≡ and_then (and_then given (λ datasets. levels_behind statements resolved visits datasets levels)) (then_level level)
  first_level levels level (Ok datasets) rest = rest datasets
  first_level levels level (Err found) rest = refl

  levels_append : (lesser : List Dataset) (levels : List ℕ) (level : ℕ) → levels_behind statements resolved visits lesser (levels ++ level ∷ []) ≡ and_then (levels_behind statements resolved visits lesser levels) (then_level level)
  levels_append lesser [] level = last_level (then_level level lesser)
  levels_append lesser (first ∷ more) level = first_level more level (then_level first lesser) (λ datasets. levels_append datasets more level)

  levels_visited : (from count : ℕ) (lesser datasets : List Dataset) → lesser_than from ≡ Ok lesser → AreVisited lesser → levels_behind statements resolved visits lesser (range_with_len from count) ≡ Ok datasets → AreVisited datasets
  levels_visited from zero lesser datasets is all e = subst AreVisited (in_ok e) all
  levels_visited from (suc count) lesser datasets is all e =
      let step = behind_ok (level_behind statements resolved lesser lesser (of_level visits from)) (λ next. levels_behind statements resolved visits next (range_with_len (from + 1) count)) datasets e in
      let next : lesser_than (from + 1) ≡ Ok step.0 =
      ap (levels_behind statements resolved visits []) (range_more from) ∙ levels_append [] (range_with_len 0 from) from
      ∙ ap (λ (given : Result (List Dataset) Break). and_then given (then_level from)) is ∙ step.1 in
      levels_visited (from + 1) count step.0 datasets next (level_visited from lesser lesser (of_level visits from) step.0 is (λ v m. visits_of_level v visits from m) all step.1) step.2

  none_visited : AreVisited []
  none_visited dataset m = absurd m

  -- the datasets of lesser levels are visited
  pub lesser_visited : (level : ℕ) (lesser : List Dataset) → lesser_than level ≡ Ok lesser → AreVisited lesser
  lesser_visited level lesser is = levels_visited 0 level [] lesser refl none_visited is

  -- those of the walk are
  pub walk_visited : (datasets : List Dataset) → walk statements resolved visits ≡ Ok datasets → AreVisited datasets
  walk_visited datasets is = levels_visited 0 (greatest_level visits + 1) [] datasets refl none_visited is
