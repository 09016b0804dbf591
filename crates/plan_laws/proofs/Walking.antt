-- What holds of each dataset over those of lesser levels, in a walk.
use Rattle.std.proofs.Common.{◌≡◌, ◌⊎◌, inl, inr, ℕ, zero, suc, ◌+◌, ◌<◌, Bool, true, false, cond, List, [], ◌∷◌, ◌++◌, filter, Ok, IfOk, refl, sym, ap, subst, ◌∙◌, arith, eqb-true}
use Rattle.std.specs.Prelude.{nat_eq}
use Rattle.std.specs.List.{AllByRecursion, range_with_len}
use Rattle.sql_tree.specs.declared.statement.Statement.{Statement}
use Rattle.plan_core.specs.declared.plan.Dataset.{Dataset}
use Rattle.origin_checks.specs.declared.resolved.Resolved.{Resolved}
use Rattle.dataset_checks.specs.Datasets.{dataset_judged}
use Rattle.plan_check.specs.declared.visits.Visit.{Visit}
use Rattle.plan_check.specs.Visits.{greatest_level, of_level}
use Rattle.plan_check.specs.Walks.{level_behind, levels_behind, text_at, visited, walk}
use Rattle.plan_check.proofs.Visiting.{Among}
use Rattle.plan_laws.proofs.Apart.{among_all, among_either, among_front}
use Rattle.plan_laws.proofs.Binding.{behind, given_ok, implied}
use Rattle.plan_laws.proofs.ReadLemmas.{AreBelow}

-- ---- members

kept_by : {A : Type 0} (test : A → Bool) (x y : A) (kept : Bool) (others xs : List A) → test y ≡ kept → (Among x others → (test x ≡ true) × Among x xs) → Among x (cond kept (y ∷ others) others) → (test x ≡ true) × Among x (y ∷ xs)
kept_by test x y true others xs is f (inl e) = (ap test e ∙ is, inl e)
kept_by test x y true others xs is f (inr m) = let later = f m in (later.0, inr later.1)
kept_by test x y false others xs is f m = let later = f m in (later.0, inr later.1)

pub among_kept : {A : Type 0} (test : A → Bool) (x : A) (xs : List A) → Among x (filter test xs) → (test x ≡ true) × Among x xs
among_kept test x [] m = absurd m
among_kept test x (y ∷ more) m = kept_by test x y (test y) (filter test more) more refl (λ n. among_kept test x more n) m

-- all of these are among those
abbrev pub AreAmong : List Dataset → List Dataset → Type 0
AreAmong some all = (dataset : Dataset) → Among dataset some → Among dataset all

module _ (P : List Dataset → ℕ → Dataset → Type 0) where
  -- it holds of this dataset over some of these, at its level
  pub record IsOver (all : List Dataset) (dataset : Dataset) : Type 0 where
    pub sofar : List Dataset
    pub level : ℕ
    pub within : AreAmong sofar all
    pub holds : P sofar level dataset

  -- ---- one level

  -- behind datasets, each further one is so over those of lesser levels
  record IsLevel (lesser : List Dataset) (level : ℕ) (before after : List Dataset) : Type 0 where
    keeps : AreAmong before after
    each : (dataset : Dataset) → Among dataset after → Among dataset before ⊎ P lesser level dataset

  level_more : (lesser : List Dataset) (level : ℕ) (before : List Dataset) (made : Dataset) (after : List Dataset) → P lesser level made → IsLevel lesser level (before ++ made ∷ []) after → IsLevel lesser level before after
  level_more lesser level before made after holds rest = record {
    keeps = λ dataset m. rest.keeps dataset (among_front dataset before (made ∷ []) m);
    each = λ dataset m. elim (rest.each dataset m) [
      | inl n ↦ elim (among_either dataset before (made ∷ []) n) [ inl k ↦ inl k | inr k ↦ inr (only_one dataset k) ]
      | inr h ↦ inr h
    ];
  }
    where
      only_one : (dataset : Dataset) → Among dataset (made ∷ []) → P lesser level dataset
      only_one dataset (inl e) = subst (P lesser level) (sym e) holds
      only_one dataset (inr m) = absurd m

  -- what the walk is over
  module _ (statements : List Statement) (resolved : List Resolved) (judged : (level : ℕ) (sofar : List Dataset) → AreBelow level sofar → (place : ℕ) (text : List ℕ) → IfOk (dataset_judged statements resolved sofar place level text) (P sofar level))
      (level_is : (sofar : List Dataset) (level : ℕ) (dataset : Dataset) → P sofar level dataset → dataset.level ≡ level) where
    visit_holds : (lesser : List Dataset) (level : ℕ) (visit : Visit) → AreBelow level lesser → visit.level ≡ level → IfOk (visited statements resolved lesser visit) (P lesser level)
    visit_holds lesser level visit below is =
        subst (λ (n : ℕ). IfOk (dataset_judged statements resolved lesser visit.place n (text_at statements visit.place)) (P lesser level)) (sym is) (judged level lesser below visit.place (text_at statements visit.place))

    level_holds : (lesser : List Dataset) (level : ℕ) (before : List Dataset) (visits : List Visit) → AreBelow level lesser → AllByRecursion (λ (visit : Visit). visit.level ≡ level) visits →
        IfOk (level_behind statements resolved lesser before visits) (IsLevel lesser level before)
    level_holds lesser level before [] below all = record { keeps = λ dataset m. m; each = λ dataset m. inl m }
    level_holds lesser level before (visit ∷ more) below all =
        behind (IsLevel lesser level before) (visited statements resolved lesser visit) (λ (dataset : Dataset). level_behind statements resolved lesser (before ++ dataset ∷ []) more) (λ made is.
        implied (level_behind statements resolved lesser (before ++ made ∷ []) more)
        (λ after rest. level_more lesser level before made after (given_ok (P lesser level) (visited statements resolved lesser visit) made is (visit_holds lesser level visit below all.0)) rest)
        (level_holds lesser level (before ++ made ∷ []) more below all.1))

    of_that_level : (visits : List Visit) (level : ℕ) → AllByRecursion (λ (visit : Visit). visit.level ≡ level) (of_level visits level)
    of_that_level visits level =
        among_all (λ (visit : Visit). visit.level ≡ level) (of_level visits level) (λ visit m. eqb-true visit.level level (among_kept (λ (v : Visit). nat_eq v.level level) visit visits m).0)

    -- ---- all levels

    -- behind datasets of lesser levels, each further one is so over some of all
    record IsRest (lesser after : List Dataset) : Type 0 where
      keeps : AreAmong lesser after
      each : (dataset : Dataset) → Among dataset after → Among dataset lesser ⊎ IsOver after dataset

    rest_more : (lesser : List Dataset) (level : ℕ) (datasets after : List Dataset) → IsLevel lesser level lesser datasets → IsRest datasets after → IsRest lesser after
    rest_more lesser level datasets after first rest = record {
      keeps = λ dataset m. rest.keeps dataset (first.keeps dataset m);
      each = λ dataset m. elim (rest.each dataset m) [
        | inl n ↦ elim (first.each dataset n) [
          | inl k ↦ inl k
          | inr h ↦ inr (record { sofar = lesser; level = level; within = λ other k. rest.keeps other (first.keeps other k); holds = h })
        ]
        | inr over ↦ inr over
      ];
    }

    next_below : (lesser : List Dataset) (level : ℕ) (datasets : List Dataset) → AreBelow level lesser → IsLevel lesser level lesser datasets → AreBelow (level + 1) datasets
    next_below lesser level datasets below first dataset m = elim (first.each dataset m) [
      | inl n ↦ let less : dataset.level < level = below dataset n in omega (arith, less)
      | inr h ↦ let is : dataset.level ≡ level = level_is lesser level dataset h in omega (arith, is)
    ]

    levels_hold : (visits : List Visit) (lesser : List Dataset) (level count : ℕ) → AreBelow level lesser → IfOk (levels_behind statements resolved visits lesser (range_with_len level count)) (IsRest lesser)
    levels_hold visits lesser level zero below = record { keeps = λ dataset m. m; each = λ dataset m. inl m }
    levels_hold visits lesser level (suc count) below =
        behind (IsRest lesser) (level_behind statements resolved lesser lesser (of_level visits level)) (λ (datasets : List Dataset). levels_behind statements resolved visits datasets (range_with_len (level + 1) count)) (λ datasets is.
        let first = given_ok (IsLevel lesser level lesser) (level_behind statements resolved lesser lesser (of_level visits level)) datasets is (level_holds lesser level lesser (of_level visits level) below (of_that_level visits level)) in
        implied (levels_behind statements resolved visits datasets (range_with_len (level + 1) count)) (λ after rest. rest_more lesser level datasets after first rest)
        (levels_hold visits datasets (level + 1) count (next_below lesser level datasets below first)))

    -- it is so of each dataset of a walk over some of them, of lesser levels
    pub walk_holds : (visits : List Visit) (datasets : List Dataset) → walk statements resolved visits ≡ Ok datasets → (dataset : Dataset) → Among dataset datasets → IsOver datasets dataset
    walk_holds visits datasets is dataset m =
        let all = given_ok (IsRest []) (walk statements resolved visits) datasets is (levels_hold visits [] 0 (greatest_level visits + 1) (λ other n. absurd n)) in
        elim (all.each dataset m) [ inl n ↦ absurd n | inr over ↦ over ]
