-- The name, the level and the text of a dataset that statements make.
use Rattle.std.proofs.Common.{◌≡◌, ℕ, List, Option, Some, None, Result, Ok, refl}
use Rattle.std.specs.Prelude.{IfOk, option_and_then, slice_get}
use Rattle.sql_tree.specs.declared.statement.SqlItem.{SqlItem}
use Rattle.sql_tree.specs.declared.statement.Statement.{Statement}
use Rattle.sql_tree.specs.declared.statement.Statement.TheVariants as statement
use Rattle.plan_core.specs.declared.plan.Dataset.{Dataset}
use Rattle.statement_checks.specs.declared.fault.Break.{Break}
use Rattle.statement_checks.specs.Declares.{dataset_name}
use Rattle.origin_checks.specs.declared.resolved.Resolved.{Resolved}
use Rattle.select_checks.specs.Expecting.{expectations_over}
use Rattle.feed_checks.specs.Feeds.{passed}
use Rattle.dataset_checks.specs.declared.parts.DatasetParts.{DatasetParts}
use Rattle.dataset_checks.specs.Datasets.{own_fault, dataset_judged, dataset_of, dataset_with, dataset_filled, statement_judged, judged_if_there}
use Rattle.dataset_checks.specs.Ends.{and_then, at_statement}
use Rattle.dataset_checks.specs.Tables.{table_parts}
use Rattle.dataset_checks.specs.Viewing.{view_by}
use Rattle.plan_check.specs.Walks.{name_at}
use Rattle.plan_texts.proofs.Results.{if_ok, ok_at, ok_behind}

pub record IsMarked (name : Option (List ℕ)) (level : ℕ) (text : List ℕ) (dataset : Dataset) : Type 0 where
  pub name_is : name ≡ Some dataset.name
  pub level_is : dataset.level ≡ level
  pub text_is : dataset.text ≡ text

marked_with : (name : List ℕ) (items : List SqlItem) (level : ℕ) (text : List ℕ) (parts : DatasetParts) → IfOk (dataset_with name items level text parts) (IsMarked (Some name) level text)
marked_with name items level text parts =
    ok_behind (IsMarked (Some name) level text) (passed (own_fault items parts.columns)) (λ u. and_then (expectations_over items parts.seen) (λ expectations. Ok (dataset_of name text level parts expectations)))
    (λ u. ok_behind (IsMarked (Some name) level text) (expectations_over items parts.seen) (λ expectations. Ok (dataset_of name text level parts expectations)) (λ expectations. record { name_is = refl; level_is = refl; text_is = refl }))

marked_filled : (place : ℕ) (name : List ℕ) (items : List SqlItem) (level : ℕ) (text : List ℕ) (filled : Result DatasetParts Break) → IfOk (dataset_filled place name items level text filled) (IsMarked (Some name) level text)
marked_filled place name items level text filled =
    ok_behind (IsMarked (Some name) level text) filled (λ parts. at_statement place (dataset_with name items level text parts))
    (λ parts. ok_at (IsMarked (Some name) level text) place (dataset_with name items level text parts) (marked_with name items level text parts))

marked_statement : (statements : List Statement) (resolved : List Resolved) (sofar : List Dataset) (place level : ℕ) (text : List ℕ) (one : Statement) →
    IfOk (statement_judged statements resolved sofar place level text one) (IsMarked (dataset_name one) level text)
marked_statement statements resolved sofar place level text (statement.Table name items select) = marked_filled place name items level text (table_parts statements resolved sofar place name items select)
marked_statement statements resolved sofar place level text (statement.View name items select) = marked_filled place name items level text (at_statement place (view_by name select sofar (slice_get resolved place)))
marked_statement statements resolved sofar place level text (statement.Insert flow target select) = tt
marked_statement statements resolved sofar place level text (statement.Cdc flow feed) = tt

marked_if_there : (statements : List Statement) (resolved : List Resolved) (sofar : List Dataset) (place level : ℕ) (text : List ℕ) (one : Option Statement) →
    IfOk (judged_if_there statements resolved sofar place level text one) (IsMarked (option_and_then dataset_name one) level text)
marked_if_there statements resolved sofar place level text None = tt
marked_if_there statements resolved sofar place level text (Some one) = marked_statement statements resolved sofar place level text one

pub marked : (statements : List Statement) (resolved : List Resolved) (sofar : List Dataset) (place level : ℕ) (text : List ℕ) (dataset : Dataset) → dataset_judged statements resolved sofar place level text ≡ Ok dataset →
    IsMarked (name_at statements place) level text dataset
marked statements resolved sofar place level text dataset e =
    if_ok (IsMarked (name_at statements place) level text) (dataset_judged statements resolved sofar place level text) dataset (marked_if_there statements resolved sofar place level text (slice_get statements place)) e
