-- A dataset that breaks no check is sound over the datasets of lesser levels.
use Rattle.std.proofs.Common.{◌≡◌, ℕ, List, None, Ok, IfOk, refl}
use Rattle.std.specs.Prelude.{IsTrue, slice_get}
use Rattle.value_core.specs.declared.schema.Column.{Column}
use Rattle.sql_tree.specs.declared.statement.SqlItem.{SqlItem}
use Rattle.sql_tree.specs.declared.statement.Statement.{Statement}
use Rattle.sql_tree.specs.declared.statement.Statement.TheVariants as statement
use Rattle.plan_core.specs.declared.expectation.Expectation.{Expectation}
use Rattle.plan_core.specs.declared.plan.Dataset.{Dataset}
use Rattle.plan_core.specs.Sound.{IsSoundBody, are_sound_expectations, kinds_of}
use Rattle.statement_checks.specs.Breaks.{first_break}
use Rattle.origin_checks.specs.declared.resolved.Resolved.{Resolved}
use Rattle.select_checks.specs.Expecting.{expectations_over}
use Rattle.dataset_checks.specs.Datasets.{dataset_judged}
use Rattle.plan_laws.proofs.BodySound.{FeedLaw, IsSoundParts, TargetLaw, ViewLaw, view_by_sound}
use Rattle.plan_laws.proofs.ColumnNames.{items_at}
use Rattle.plan_laws.proofs.Judging.{judged_holds}
use Rattle.plan_laws.proofs.ReadLemmas.{AreBelow}
use Rattle.plan_laws.proofs.TableSound.{StreamLaw, table_sound}

abbrev pub ExpectationLaw : Type 0
ExpectationLaw = (items : List SqlItem) (columns : List Column) (given : List Expectation) → expectations_over items columns ≡ Ok given → IsTrue (are_sound_expectations (kinds_of columns) given)

-- what the laws of the checks below say of each part
pub record Laws : Type 0 where
  pub streams : StreamLaw
  pub views : ViewLaw
  pub expectations : ExpectationLaw
  pub feeds : FeedLaw
  pub targets : TargetLaw

-- a dataset is of a level, and sound over others
pub record IsSoundOver (sofar : List Dataset) (level : ℕ) (dataset : Dataset) : Type 0 where
  pub level_is : dataset.level ≡ level
  pub body : IsSoundBody sofar dataset dataset.body

module _ (laws : Laws) (level : ℕ) (sofar : List Dataset) (below : AreBelow level sofar) where
  pub judged_sound : (statements : List Statement) (resolved : List Resolved) (place : ℕ) (text : List ℕ) → first_break statements ≡ None → IfOk (dataset_judged statements resolved sofar place level text) (IsSoundOver sofar level)
  judged_sound statements resolved place text none =
      judged_holds statements resolved sofar level (IsSoundParts sofar level) (IsSoundOver sofar level)
      (λ name own items parts given sound tested. record { level_is = refl; body = sound name own given (laws.expectations items parts.seen given tested) }) place
      (λ name items select at. table_sound level sofar below laws.streams laws.feeds laws.targets statements resolved place name items select (items_at statements place (statement.Table name items select) none at))
      (λ name select. view_by_sound level sofar below laws.views name select (slice_get resolved place)) text
