-- What holds of each dataset over those of lesser levels, in a plan that the checks give.
use Rattle.std.proofs.Common.{◌≡◌, ℕ, List, None, Ok, IfOk, sym, subst}
use Rattle.sql_tree.specs.declared.statement.Statement.{Statement}
use Rattle.plan_core.specs.declared.plan.Dataset.{Dataset}
use Rattle.statement_checks.specs.Breaks.{first_break}
use Rattle.origin_checks.specs.declared.resolved.Resolved.{Resolved}
use Rattle.origin_checks.specs.Resolving.{AreResolved}
use Rattle.dataset_checks.specs.Datasets.{dataset_judged}
use Rattle.plan_check.specs.Checks.{Checks, IsWalked}
use Rattle.plan_check.specs.Visits.{declared_places, visits_of}
use Rattle.plan_check.specs.Walks.{walk}
use Rattle.plan_check.proofs.Plans.{checked_walk, of_walk}
use Rattle.plan_check.proofs.Visiting.{Among}
use Rattle.plan_laws.proofs.PlanMembers.{planned_walked, walked_planned}
use Rattle.plan_laws.proofs.ReadLemmas.{AreBelow}
use Rattle.plan_laws.proofs.Walking.{AreAmong, IsOver, walk_holds}

module _ (P : List Dataset → ℕ → Dataset → Type 0) where
  over_plan : (plan datasets : List Dataset) (dataset : Dataset) → AreAmong datasets plan → IsOver P datasets dataset → IsOver P plan dataset
  over_plan plan datasets dataset within over = record { sofar = over.sofar; level = over.level; within = λ other m. within other (over.within other m); holds = over.holds }

  -- what holds of each dataset that is judged
  abbrev HoldsJudged : List Statement → Type 0
  HoldsJudged statements = first_break statements ≡ None → (resolved : List Resolved) → AreResolved statements resolved → (level : ℕ) (sofar : List Dataset) → AreBelow level sofar → (place : ℕ) (text : List ℕ) →
      IfOk (dataset_judged statements resolved sofar place level text) (P sofar level)

  abbrev HasLevel : Type 0
  HasLevel = (sofar : List Dataset) (level : ℕ) (dataset : Dataset) → P sofar level dataset → dataset.level ≡ level

  walked_holds : (statements : List Statement) (plan : List Dataset) → first_break statements ≡ None → IsWalked statements (Ok plan) → HoldsJudged statements → HasLevel → (dataset : Dataset) → Among dataset plan → IsOver P plan dataset
  walked_holds statements plan none w judged level_is dataset m =
      let visits = visits_of statements w.levels in
      let of = of_walk plan visits (declared_places statements) (walk statements w.resolved visits) w.answer_is in
      let there : AreAmong of.datasets plan = subst (AreAmong of.datasets) (sym of.plan_is) (walked_planned statements w.resolved w.levels of.datasets of.walk_is) in
      let walked : Among dataset of.datasets = planned_walked visits (declared_places statements) of.datasets dataset (subst (Among dataset) of.plan_is m) in
      over_plan plan of.datasets dataset there (walk_holds P statements w.resolved (judged none w.resolved w.are_resolved) level_is visits of.datasets of.walk_is dataset walked)

  -- it is so of each dataset of a plan over some of its datasets
  pub plan_holds : (statements : List Statement) (plan : List Dataset) → Checks statements (Ok plan) → HoldsJudged statements → HasLevel → (dataset : Dataset) → Among dataset plan → IsOver P plan dataset
  plan_holds statements plan checked judged level_is dataset m =
      let w = checked_walk statements plan checked in
      walked_holds statements plan w.0 w.1 judged level_is dataset m
