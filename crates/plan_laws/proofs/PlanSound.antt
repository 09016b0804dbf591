-- A plan that the checks give is sound.
use Rattle.std.proofs.Common.{◌≡◌, ℕ, suc, Bool, true, false, not, List, [], ◌∷◌, get_or, AllPairs, Option, Some, None, Ok, refl, ap, ◌∙◌, arith}
use Rattle.std.specs.Prelude.{◌&&◌, if◌then◌else◌, IsTrue, nat_lt, option_and_then}
use Rattle.std.proofs.lemmas.List.Elements.{All-from_recursion, All-weaker, recursion_from_All}
use Rattle.value_core.specs.declared.schema.Column.{Column}
use Rattle.value_core.specs.NameFold.{same_name}
use Rattle.sql_tree.specs.declared.statement.Statement.{Statement}
use Rattle.plan_core.specs.declared.flow.AppendFlow.{AppendFlow}
use Rattle.plan_core.specs.declared.flow.Origin.{Origin}
use Rattle.plan_core.specs.declared.flow.Origin.TheVariants as origin
use Rattle.plan_core.specs.declared.plan.Body.{Body}
use Rattle.plan_core.specs.declared.plan.Body.TheVariants as body
use Rattle.plan_core.specs.declared.plan.Dataset.{Dataset}
use Rattle.plan_core.specs.Sound.{IsSoundBody, IsSoundFlow, IsSoundPlan, dataset_named, flow_columns, is_append, query_columns}
use Rattle.plan_check.specs.Checks.{Checks}
use Rattle.plan_laws.proofs.Apart.{among_all}
use Rattle.plan_laws.proofs.Found.{AreUnlike, IsUnlike, named_found}
use Rattle.plan_laws.proofs.JudgedSound.{IsSoundOver, Laws, judged_sound}
use Rattle.plan_laws.proofs.PlanHolds.{plan_holds}
use Rattle.plan_laws.proofs.ReadLemmas.{found_there}
use Rattle.plan_laws.proofs.Walking.{AreAmong, IsOver}

-- ---- names differ

abbrev NamesDiffer : List Dataset → Type 0
NamesDiffer plan = AllPairs (λ (a b : Dataset). IsTrue (not (same_name a.name b.name))) plan

abbrev name_of : Dataset → List ℕ
name_of dataset = dataset.name

not_true : (b : Bool) → not b ≡ true → b ≡ false
not_true true e = absurd (cc)
not_true false e = refl

unlike : (plan : List Dataset) → NamesDiffer plan → AreUnlike name_of plan
unlike [] differ = tt
unlike (first ∷ more) differ = (
  recursion_from_All (IsUnlike name_of first) more (λ k d within. not_true (same_name first.name (get_or more k d).name) (differ 0 (suc k) d (omega arith) (omega (arith, within)))),
  unlike more (λ i j d less within. differ (suc i) (suc j) d (omega (arith, less)) (omega (arith, within))),
)

-- ---- what is sound over some is sound over all

-- what a name finds among some it finds among all
abbrev Finds : List Dataset → List Dataset → Type 0
Finds some all = (name : List ℕ) (found : Dataset) → dataset_named some name ≡ Some found → dataset_named all name ≡ Some found

module _ (some all : List Dataset) (finds : Finds some all) where
  found_by : (f : Dataset → Option (List Column)) (name : List ℕ) (columns : List Column) (found : Option Dataset) → dataset_named some name ≡ found → option_and_then f found ≡ Some columns → option_and_then f (dataset_named all name) ≡ Some columns
  found_by f name columns None is gives = absurd (cc)
  found_by f name columns (Some found) is gives = ap (option_and_then f) (finds name found is) ∙ gives

  flow_found : (level : ℕ) (from : Origin) (columns : List Column) → flow_columns some level from ≡ Some columns → flow_columns all level from ≡ Some columns
  flow_found level (origin.Files dir shape) columns is = is
  flow_found level (origin.Table name) columns is =
      found_by (λ (source : Dataset). if nat_lt source.level level && is_append source.body then Some source.columns else None) name columns (dataset_named some name) refl is

  query_found : (level : ℕ) (name : List ℕ) (columns : List Column) → query_columns some level name ≡ Some columns → query_columns all level name ≡ Some columns
  query_found level name columns is = found_by (λ (source : Dataset). if nat_lt source.level level then Some source.columns else None) name columns (dataset_named some name) refl is

  flow_sound : (dataset : Dataset) (flow : AppendFlow) → IsSoundFlow some dataset flow → IsSoundFlow all dataset flow
  flow_sound dataset flow sound = record { source = sound.source; reads = flow_found dataset.level flow.origin sound.source sound.reads; gives = sound.gives }

  body_sound : (dataset : Dataset) (one : Body) → IsSoundBody some dataset one → IsSoundBody all dataset one
  body_sound dataset (body.Append flows) sound = record {
    each_flow = All-weaker (IsSoundFlow some dataset) (IsSoundFlow all dataset) (flow_sound dataset) flows sound.each_flow;
    expectations = sound.expectations;
  }
  body_sound dataset (body.Cdc cdc) sound = record {
    source = sound.source;
    sequences = sound.sequences;
    columns = sound.columns;
    reads = flow_found dataset.level cdc.origin sound.source sound.reads;
    feed = sound.feed;
    gives = sound.gives;
    expectations = sound.expectations;
  }
  body_sound dataset (body.View query) sound = record {
    source = sound.source;
    reads = query_found dataset.level query.origin sound.source sound.reads;
    gives = sound.gives;
    expectations = sound.expectations;
  }

-- ---- a plan

finds_all : (plan sofar : List Dataset) → AreUnlike name_of plan → AreAmong sofar plan → Finds sofar plan
finds_all plan sofar differ within name found is = let there = found_there sofar name found is in named_found name_of plan found name differ (within found there.there) there.named

dataset_sound : (plan : List Dataset) → AreUnlike name_of plan → (dataset : Dataset) → IsOver IsSoundOver plan dataset → IsSoundBody plan dataset dataset.body
dataset_sound plan differ dataset over = body_sound over.sofar plan (finds_all plan over.sofar differ over.within) dataset dataset.body over.holds.body

abbrev pub NameLaw : Type 0
NameLaw = (statements : List Statement) (plan : List Dataset) → Checks statements (Ok plan) → NamesDiffer plan

pub plan_sound : Laws → NameLaw → (statements : List Statement) (plan : List Dataset) → Checks statements (Ok plan) → IsSoundPlan plan
plan_sound laws names statements plan checked =
    let differ = names statements plan checked in
    record {
      names_differ = differ;
      each_dataset = All-from_recursion (λ (dataset : Dataset). IsSoundBody plan dataset dataset.body) plan
          (among_all (λ (dataset : Dataset). IsSoundBody plan dataset dataset.body) plan (λ dataset m. dataset_sound plan (unlike plan differ) dataset
          (plan_holds IsSoundOver statements plan checked (λ none resolved are level sofar below place text. judged_sound laws level sofar below statements resolved place text none) (λ sofar level one sound. sound.level_is) dataset m)));
    }
