-- The plan that the checks give is that of a walk.
use Rattle.std.proofs.Common.{◌≡◌, ℕ, List, [], Option, Some, None, Result, Ok, Err, refl, sym, ◌∙◌, ap, subst, inl, inr, length}
use Rattle.std.specs.Prelude.{◌⊎◌, map}
use Rattle.sql_tree.specs.declared.statement.Statement.{Statement}
use Rattle.plan_core.specs.declared.plan.Dataset.{Dataset}
use Rattle.graph_check.specs.Levels.{AreLevels}
use Rattle.statement_checks.specs.declared.fault.Break.{Break}
use Rattle.statement_checks.specs.Breaks.{first_break}
use Rattle.name_checks.specs.Edges.{dataset_names, reading_edges}
use Rattle.name_checks.specs.Names.{first_name_break}
use Rattle.origin_checks.specs.declared.resolved.Resolved.{Resolved}
use Rattle.plan_check.specs.declared.refusal.CheckRefusal.{CheckRefusal}
use Rattle.plan_check.specs.declared.refusal.CheckRefusal.TheVariants as refusal
use Rattle.plan_check.specs.declared.visits.Visit.{Visit}
use Rattle.plan_check.specs.Checks.{Answer, BehindDeclared, BehindNames, Checks, IsCycleTold, IsWalked, planned, refused, walk_answer}
use Rattle.plan_check.specs.Names.{AreNewBehind}
use Rattle.plan_check.specs.Visits.{declared_places, visits_of}
use Rattle.plan_check.specs.Walks.{in_order, walk}
use Rattle.plan_check.proofs.Differ.{AreMarked, name_of, planned_as, planned_differ}

no_refusal : (plan : List Dataset) (end : CheckRefusal) → ◌≡◌ {A = Answer} (Ok plan) (Err end) → ⊥
no_refusal plan end e = cc

behind_names : (statements : List Statement) (found : Option Break) (plan : List Dataset) → BehindNames statements found (Ok plan) → IsWalked statements (Ok plan)
behind_names statements (Some found) plan e = absurd (no_refusal plan (refusal.Refused found) e)
behind_names statements None plan (inl told) = absurd (no_refusal plan (refusal.Cycle told.path) told.answer_is)
behind_names statements None plan (inr walked) = walked

behind_declared : (statements : List Statement) (found : Option Break) (plan : List Dataset) → BehindDeclared statements found (Ok plan) → (found ≡ None) × IsWalked statements (Ok plan)
behind_declared statements (Some found) plan e = absurd (no_refusal plan (refusal.Refused found) e)
behind_declared statements None plan h = (refl, behind_names statements (first_name_break statements) plan h)

-- the plan is that of a walk, behind checks of what is declared that pass
pub checked_walk : (statements : List Statement) (plan : List Dataset) → Checks statements (Ok plan) → (first_break statements ≡ None) × IsWalked statements (Ok plan)
checked_walk statements plan h = behind_declared statements (first_break statements) plan h

-- the plan has the datasets of the walk
pub record IsOfWalk (plan : List Dataset) (visits : List Visit) (places : List ℕ) (walked : Result (List Dataset) Break) : Type 0 where
  pub datasets : List Dataset
  pub walk_is : walked ≡ Ok datasets
  pub plan_is : plan ≡ in_order visits places datasets

of_ok : (plan made : List Dataset) → ◌≡◌ {A = Answer} (Ok plan) (Ok made) → plan ≡ made
of_ok plan made e = cc

pub of_walk : (plan : List Dataset) (visits : List Visit) (places : List ℕ) (walked : Result (List Dataset) Break) → ◌≡◌ {A = Answer} (Ok plan) (planned visits places walked) → IsOfWalk plan visits places walked
of_walk plan visits places (Ok datasets) e = record { datasets = datasets; walk_is = refl; plan_is = of_ok plan (in_order visits places datasets) e }
of_walk plan visits places (Err found) e = absurd (no_refusal plan (refusal.Refused found) e)

-- the datasets of a plan have these names and levels
pub record IsPlanOf (statements : List Statement) (plan : List Dataset) : Type 0 where
  pub levels : List ℕ
  pub are_levels : AreLevels (length (dataset_names statements)) (reading_edges statements) levels
  pub marked : AreMarked plan (dataset_names statements) levels

walk_plan : (statements : List Statement) (plan : List Dataset) → IsWalked statements (Ok plan) → IsPlanOf statements plan
walk_plan statements plan w =
    let of = of_walk plan (visits_of statements w.levels) (declared_places statements) (walk statements w.resolved (visits_of statements w.levels)) w.answer_is in
    record {
      levels = w.levels;
      are_levels = w.are_levels;
      marked = subst (λ (p : List Dataset). AreMarked p (dataset_names statements) w.levels) (sym of.plan_is) (planned_as statements w.resolved w.levels of.datasets w.are_levels of.walk_is);
    }

pub checked_plan : (statements : List Statement) (plan : List Dataset) → Checks statements (Ok plan) → IsPlanOf statements plan
checked_plan statements plan h = walk_plan statements plan (checked_walk statements plan h).1

pub checked_names : (statements : List Statement) (plan : List Dataset) → Checks statements (Ok plan) → map name_of plan ≡ dataset_names statements
checked_names statements plan h = (checked_plan statements plan h).marked.names_are

new_by : (statements : List Statement) (plan : List Dataset) → first_break statements ≡ None → IsWalked statements (Ok plan) → AreNewBehind [] plan
new_by statements plan none w =
    let of = of_walk plan (visits_of statements w.levels) (declared_places statements) (walk statements w.resolved (visits_of statements w.levels)) w.answer_is in
    subst (AreNewBehind []) (sym of.plan_is) (planned_differ statements w.resolved w.levels of.datasets none w.are_levels of.walk_is)

pub checked_new : (statements : List Statement) (plan : List Dataset) → Checks statements (Ok plan) → AreNewBehind [] plan
checked_new statements plan h = let w = checked_walk statements plan h in new_by statements plan w.0 w.1
