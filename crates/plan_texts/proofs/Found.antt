-- What the statements of a judged dataset read was found, and its body reads it.
use Rattle.std.proofs.Common.{◌≡◌, inl, inr, ℕ, List, Option, Some, None, Result, Ok, refl, sym, ap, subst, ◌∙◌}
use Rattle.std.specs.Prelude.{option_and_then, slice_get}
use Rattle.sql_tree.specs.declared.statement.Select.{Select}
use Rattle.sql_tree.specs.declared.statement.SqlItem.{SqlItem}
use Rattle.sql_tree.specs.declared.statement.Statement.{Statement}
use Rattle.sql_tree.specs.declared.statement.Statement.TheVariants as statement
use Rattle.plan_core.specs.declared.plan.Dataset.{Dataset}
use Rattle.statement_checks.specs.declared.fault.Break.{Break}
use Rattle.statement_checks.specs.Declares.{dataset_name}
use Rattle.name_checks.specs.Names.{first_name_break}
use Rattle.name_checks.specs.Sources.{select_source, source_name}
use Rattle.origin_checks.specs.declared.resolved.Resolved.{Resolved}
use Rattle.origin_checks.specs.Resolving.{AreResolved}
use Rattle.select_checks.specs.Expecting.{expectations_over}
use Rattle.feed_checks.specs.Feeds.{passed}
use Rattle.dataset_checks.specs.declared.parts.DatasetParts.{DatasetParts}
use Rattle.dataset_checks.specs.Datasets.{dataset_expecting, dataset_filled, dataset_judged, dataset_of, dataset_with, judged_if_there, own_fault}
use Rattle.dataset_checks.specs.Ends.{at_statement}
use Rattle.dataset_checks.specs.Filling.{dataset_places, fillers_from, flow_places, own_places}
use Rattle.dataset_checks.specs.Tables.{table_parts}
use Rattle.dataset_checks.specs.Viewing.{view_by}
use Rattle.plan_check.specs.Walks.{name_at}
use Rattle.plan_texts.proofs.Lists.{Among, among_right, in_some, no_some}
use Rattle.plan_texts.proofs.Resolving.{from_dataset, resolved_at, source_resolved}
use Rattle.plan_texts.proofs.Results.{at_ok, behind_ok, in_ok, no_ok}
use Rattle.plan_texts.proofs.Sourced.{IsReader, IsSomeFound, ReadsName, table_read, view_read}
use Rattle.plan_texts.proofs.Unfilled.{unfilled}

-- its body is that of what fills it
body_with : (name : List ℕ) (items : List SqlItem) (level : ℕ) (text : List ℕ) (made : DatasetParts) (dataset : Dataset) → dataset_with name items level text made ≡ Ok dataset → made.body ≡ dataset.body
body_with name items level text made dataset e =
    let step = behind_ok (passed (own_fault items made.columns)) (λ u. dataset_expecting name items level text made) dataset e in
    let last = behind_ok (expectations_over items made.seen) (λ expectations. Ok (dataset_of name text level made expectations)) dataset step.2 in
    ap (λ (d : Dataset). d.body) (in_ok last.2)

body_filled : (place : ℕ) (name : List ℕ) (items : List SqlItem) (level : ℕ) (text : List ℕ) (filled : Result DatasetParts Break) (dataset : Dataset) → dataset_filled place name items level text filled ≡ Ok dataset →
    (made : DatasetParts) × (filled ≡ Ok made) × (made.body ≡ dataset.body)
body_filled place name items level text filled dataset e =
    let step = behind_ok filled (λ made. at_statement place (dataset_with name items level text made)) dataset e in
    (step.0, step.1, body_with name items level text step.0 dataset (at_ok place (dataset_with name items level text step.0) dataset step.2))

module _ (statements : List Statement) (resolved : List Resolved) (sofar : List Dataset) (are : AreResolved statements resolved) (none : first_name_break statements ≡ None) where
  reader_of : (place : ℕ) (reader : Statement) (read : List ℕ) → slice_get statements place ≡ Some reader → source_name reader ≡ Some read → IsReader statements resolved sofar place read
  reader_of place reader read there reads =
      let r = resolved_at statements resolved place reader are there in
      let s = source_resolved reader read r.found reads r.is_resolved in
      record { statement = reader; is_there = there; stream = s.0; is_from = r.is_there ∙ ap Some s.1 }

  own_flow : (place : ℕ) (name : List ℕ) (select : Option Select) (read : List ℕ) → option_and_then select_source select ≡ Some read → Among place (flow_places statements place name select)
  own_flow place name None read e = absurd (no_some e)
  own_flow place name (Some select) read e = inl refl

  by_statement : (home level : ℕ) (text : List ℕ) (dataset : Dataset) (one : Statement) → slice_get statements home ≡ Some one → judged_if_there statements resolved sofar home level text (Some one) ≡ Ok dataset → name_at statements home ≡ Some dataset.name →
      (place : ℕ) (reader : Statement) (read : List ℕ) → Among place (dataset_places statements home dataset.name) → slice_get statements place ≡ Some reader → source_name reader ≡ Some read → IsSomeFound sofar read × ReadsName read dataset.body
  by_statement home level text dataset (statement.Table name items select) is judged named place reader read m there reads =
      let made = body_filled home name items level text (table_parts statements resolved sofar home name items select) dataset judged in
      let same : dataset.name ≡ name = in_some (sym named ∙ ap (option_and_then dataset_name) is) in
      let flow : Among place (flow_places statements home name select) = elim m [
        | inl e ↦ (
            let own : Some (statement.Table name items select) ≡ Some reader = sym is ∙ ap (slice_get statements) (sym e) ∙ there in
            subst (λ (p : ℕ). Among p (flow_places statements home name select)) (sym e) (own_flow home name select read (ap source_name (in_some own) ∙ reads))
            )
        | inr n ↦ among_right place (own_places home select) (fillers_from name 0 statements) (subst (λ (z : List ℕ). Among place (fillers_from z 0 statements)) same n)
      ] in
      let two = table_read statements resolved sofar home name items select made.0 made.1 place read flow (reader_of place reader read there reads) in
      (two.0, subst (ReadsName read) made.2 two.1)
  by_statement home level text dataset (statement.View name items select) is judged named place reader read (inl e) there reads =
      let made = body_filled home name items level text (at_statement home (view_by name select sofar (slice_get resolved home))) dataset judged in
      let r = reader_of place reader read there reads in
      let from : slice_get resolved home ≡ Some (from_dataset r.stream read) = ap (slice_get resolved) (sym e) ∙ r.is_from in
      let given = at_ok home (view_by name select sofar (slice_get resolved home)) made.0 made.1 in
      let two = view_read name select sofar r.stream read made.0 (ap (view_by name select sofar) (sym from) ∙ given) in
      (two.0, subst (ReadsName read) made.2 two.1)
  by_statement home level text dataset (statement.View name items select) is judged named place reader read (inr m) there reads =
      let same : dataset.name ≡ name = in_some (sym named ∙ ap (option_and_then dataset_name) is) in
      absurd (unfilled statements home name items select place none is (subst (λ (z : List ℕ). Among place (fillers_from z 0 statements)) same m))
  by_statement home level text dataset (statement.Insert flow target select) is judged named place reader read m there reads = absurd (no_ok judged)
  by_statement home level text dataset (statement.Cdc flow feed) is judged named place reader read m there reads = absurd (no_ok judged)

  by_option : (home level : ℕ) (text : List ℕ) (dataset : Dataset) (o : Option Statement) → slice_get statements home ≡ o → judged_if_there statements resolved sofar home level text o ≡ Ok dataset → name_at statements home ≡ Some dataset.name →
      (place : ℕ) (reader : Statement) (read : List ℕ) → Among place (dataset_places statements home dataset.name) → slice_get statements place ≡ Some reader → source_name reader ≡ Some read → IsSomeFound sofar read × ReadsName read dataset.body
  by_option home level text dataset None is judged named place reader read m there reads = absurd (no_ok judged)
  by_option home level text dataset (Some one) is judged named place reader read m there reads = by_statement home level text dataset one is judged named place reader read m there reads

  -- what a statement of the dataset reads was found, and the body of the dataset reads it
  pub read_found : (home level : ℕ) (text : List ℕ) (dataset : Dataset) → dataset_judged statements resolved sofar home level text ≡ Ok dataset → name_at statements home ≡ Some dataset.name →
      (place : ℕ) (reader : Statement) (read : List ℕ) → Among place (dataset_places statements home dataset.name) → slice_get statements place ≡ Some reader → source_name reader ≡ Some read → IsSomeFound sofar read × ReadsName read dataset.body
  read_found home level text dataset judged named = by_option home level text dataset (slice_get statements home) refl judged named
