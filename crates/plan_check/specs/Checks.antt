-- What the checks of a pipeline's statements answer, phase by phase.
use Rattle.std.specs.Prelude.{◌≡◌, ◌⊎◌, ℕ, List, length, Option, Some, None, Result, Ok, Err}
use Rattle.sql_tree.specs.declared.statement.Statement.{Statement}
use Rattle.plan_core.specs.declared.plan.Dataset.{Dataset}
use Rattle.graph_check.specs.Graphs.{IsCyclic}
use Rattle.graph_check.specs.Levels.{AreLevels}
use Rattle.statement_checks.specs.declared.fault.Break.{Break}
use Rattle.statement_checks.specs.Breaks.{first_break}
use Rattle.name_checks.specs.Edges.{IsNamedPath, dataset_names, reading_edges}
use Rattle.name_checks.specs.Names.{first_name_break}
use Rattle.origin_checks.specs.declared.resolved.Resolved.{Resolved}
use Rattle.origin_checks.specs.Resolving.{AreResolved}
use Rattle.plan_check.specs.declared.refusal.CheckRefusal.{CheckRefusal}
use Rattle.plan_check.specs.declared.refusal.CheckRefusal.TheVariants as refusal
use Rattle.plan_check.specs.declared.visits.Visit.{Visit}
use Rattle.plan_check.specs.Visits.{declared_places, visits_of}
use Rattle.plan_check.specs.Walks.{in_order, walk}

-- the datasets of a plan in declared order, or why there is none
abbrev pub Answer : Type 0
Answer = Result (List Dataset) CheckRefusal

-- the first check that is broken
abbrev pub refused : Break → Answer
refused found = Err (refusal.Refused found)

-- ---- the fourth phase: the datasets by level

-- the datasets of a walk in declared order, or the first check that is broken in it
abbrev pub planned : List Visit → List ℕ → Result (List Dataset) Break → Answer
planned visits places (Ok datasets) = Ok (in_order visits places datasets)
planned visits places (Err found) = refused found

abbrev pub walk_answer : List Statement → List Resolved → List Visit → Answer
walk_answer statements resolved visits = planned visits (declared_places statements) (walk statements resolved visits)

-- the datasets have levels, and each is checked behind those of lesser levels
pub record IsWalked (statements : List Statement) (answer : Answer) : Type 0 where
  pub levels : List ℕ
  pub are_levels : AreLevels (length (dataset_names statements)) (reading_edges statements) levels
  pub resolved : List Resolved
  pub are_resolved : AreResolved statements resolved
  pub answer_is : answer ≡ walk_answer statements resolved (visits_of statements levels)

-- ---- the third phase: the levels

-- datasets read one another in a cycle
pub record IsCycleTold (statements : List Statement) (answer : Answer) : Type 0 where
  pub cyclic : IsCyclic (reading_edges statements)
  pub path : List (List ℕ)
  pub is_named : IsNamedPath statements path
  pub answer_is : answer ≡ Err (refusal.Cycle path)

-- ---- the phases in their order

-- behind the names that statements use
abbrev pub BehindNames : List Statement → Option Break → Answer → Type 0
BehindNames statements (Some found) answer = answer ≡ refused found
BehindNames statements None answer = IsCycleTold statements answer ⊎ IsWalked statements answer

-- behind what each statement declares
abbrev pub BehindDeclared : List Statement → Option Break → Answer → Type 0
BehindDeclared statements (Some found) answer = answer ≡ refused found
BehindDeclared statements None answer = BehindNames statements (first_name_break statements) answer

-- What statements are checked for: what each declares, the names that they use, cycles, and then the datasets by level. The first
-- check that is broken is the answer, and else the plan.
abbrev pub Checks : List Statement → Answer → Type 0
Checks statements answer = BehindDeclared statements (first_break statements) answer

-- ---- clauses

-- what is so of an answer, but for want of memory
abbrev pub Told : (Answer → Type 0) → Answer → Type 0
Told P (Ok plan) = P (Ok plan)
Told P (Err (refusal.Refused found)) = P (Err (refusal.Refused found))
Told P (Err (refusal.Cycle path)) = P (Err (refusal.Cycle path))
Told P (Err refusal.Memory) = Unit {0}
