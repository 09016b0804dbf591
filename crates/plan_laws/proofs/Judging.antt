-- What holds of each flow holds of the dataset that they fill, where its checks are passed.
use Rattle.std.proofs.Common.{◌≡◌, ℕ, ◌+◌, Bool, true, false, List, [], ◌∷◌, ◌++◌, length, Option, Some, None, Result, Ok, Err, IfOk, refl, sym, ap, subst, ◌∙◌, append_assoc, append-nil}
use Rattle.std.specs.Prelude.{◌==◌, if◌then◌else◌, slice_get, option_and_then}
use Rattle.value_core.specs.declared.schema.Column.{Column}
use Rattle.sql_tree.specs.declared.statement.CdcTree.{CdcTree}
use Rattle.sql_tree.specs.declared.statement.Select.{Select}
use Rattle.sql_tree.specs.declared.statement.SqlItem.{SqlItem}
use Rattle.sql_tree.specs.declared.statement.Statement.{Statement}
use Rattle.sql_tree.specs.declared.statement.Statement.TheVariants as statement
use Rattle.plan_core.specs.declared.expectation.Expectation.{Expectation}
use Rattle.plan_core.specs.declared.flow.AppendFlow.{AppendFlow}
use Rattle.plan_core.specs.declared.plan.Body.{Body}
use Rattle.plan_core.specs.declared.plan.Body.TheVariants as body
use Rattle.plan_core.specs.declared.plan.Dataset.{Dataset}
use Rattle.plan_core.specs.declared.query.Query.{Query}
use Rattle.statement_checks.specs.declared.fault.Break.{Break}
use Rattle.statement_checks.specs.declared.fault.CheckFault.{CheckFault}
use Rattle.statement_checks.specs.declared.fault.CheckFault.TheVariants.{NoFlow}
use Rattle.statement_checks.specs.Breaks.{broken}
use Rattle.statement_checks.specs.Declares.{flow_name}
use Rattle.statement_checks.specs.Repeats.{first_of}
use Rattle.origin_checks.specs.declared.resolved.Resolved.{Resolved}
use Rattle.origin_checks.specs.declared.resolved.Source.{Source}
use Rattle.origin_checks.specs.Origins.{columns_read, origin_as, origin_batch_checks}
use Rattle.select_checks.specs.declared.stream.StreamSelect.{StreamSelect}
use Rattle.select_checks.specs.declared.view.ViewSelect.{ViewSelect}
use Rattle.select_checks.specs.Expecting.{expectations_over}
use Rattle.select_checks.specs.Parts.{query_of_select}
use Rattle.select_checks.specs.Streams.{stream_select}
use Rattle.select_checks.specs.Views.{view_select}
use Rattle.feed_checks.specs.declared.parts.FeedParts.{FeedParts}
use Rattle.feed_checks.specs.Feeds.{feed_flow, feed_parts}
use Rattle.dataset_checks.specs.declared.parts.DatasetParts.{DatasetParts}
use Rattle.dataset_checks.specs.declared.parts.FlowParts.{FlowParts}
use Rattle.dataset_checks.specs.declared.parts.FlowParts.TheVariants as parts
use Rattle.dataset_checks.specs.declared.parts.TableFlow.{TableFlow}
use Rattle.dataset_checks.specs.Appending.{flow_by, flow_over, placed_flow, select_into, selected_flow, table_flow}
use Rattle.dataset_checks.specs.Datasets.{dataset_expecting, dataset_filled, dataset_judged, dataset_of, dataset_with, judged_if_there, own_fault}
use Rattle.dataset_checks.specs.Ends.{at_statement}
use Rattle.dataset_checks.specs.Feeding.{fed, feed_by, feed_dataset, feed_over}
use Rattle.dataset_checks.specs.Filling.{are_mixed, flow_places}
use Rattle.dataset_checks.specs.Reading.{feed_reading_fault, found_in, opened, reading_fault}
use Rattle.dataset_checks.specs.Tables.{append_dataset, appends, behind_flow, flows_joined, keeps, parts_at, parts_if_there, table_before, table_parts}
use Rattle.dataset_checks.specs.Viewing.{dataset_read, view_by, view_dataset, view_named, viewed}
use Rattle.plan_laws.proofs.Binding.{at_place, behind, behind_check, given_ok}

-- the name of the flow that the statement at a place declares
abbrev pub flow_at : List Statement → ℕ → Option (List ℕ)
flow_at statements place = option_and_then flow_name (slice_get statements place)

-- ---- by the form of what is given

module _ (sofar : List Dataset) where
  -- a flow has its name, and the origin of what is read
  pub flow_holds : (F : TableFlow → Type 0) (mixed : Bool) (name : List ℕ) (select : Select) (table : Option (List Column)) (resolved : Option Resolved) →
      ((reads : Source) (placed : StreamSelect) → opened name resolved ≡ Ok reads → F (table_flow name (origin_as reads) placed)) → IfOk (flow_by mixed name select table sofar resolved) F
  flow_holds F mixed name select table resolved h =
      behind F (opened name resolved) (λ (reads : Source). flow_over mixed name select table reads (found_in sofar reads)) (λ reads opens.
      behind_check F (reading_fault mixed reads (found_in sofar reads)) (λ u. selected_flow name select table reads (columns_read reads (found_in sofar reads))) (λ pass.
      behind F (stream_select select (columns_read reads (found_in sofar reads))) (λ (given : StreamSelect). placed_flow name reads table given) (λ given is.
      behind F (select_into table given) (λ (placed : StreamSelect). Ok (table_flow name (origin_as reads) placed)) (λ placed into. h reads placed opens))))

  module _ (Q : Body → Type 0) where
    abbrev InBody : DatasetParts → Type 0
    InBody made = Q made.body

    pub feed_holds : (mixed : Bool) (name : List ℕ) (feed : CdcTree) (resolved : Option Resolved) → ((reads : Source) (given : FeedParts) → opened name resolved ≡ Ok reads → Q (body.Cdc (feed_flow name (origin_as reads) given))) →
        IfOk (feed_by mixed name feed sofar resolved) InBody
    feed_holds mixed name feed resolved h =
        behind InBody (opened name resolved) (λ (reads : Source). feed_over mixed name feed reads (found_in sofar reads)) (λ reads opens.
        behind_check InBody (feed_reading_fault mixed feed reads (found_in sofar reads)) (λ u. fed name feed reads (columns_read reads (found_in sofar reads))) (λ pass.
        behind InBody (feed_parts feed (columns_read reads (found_in sofar reads))) (λ (given : FeedParts). Ok (feed_dataset name (origin_as reads) given)) (λ given is. h reads given opens)))

    named_holds : (select : Select) (reads : Source) (found : Option Dataset) (origin : Option (List ℕ)) → ((query : Query) → Q (body.View query)) → IfOk (view_named select reads found origin) InBody
    named_holds select reads found None h = tt
    named_holds select reads found (Some origin) h =
        behind_check InBody (first_of (origin_batch_checks reads found)) (λ u. viewed select origin (columns_read reads found)) (λ pass.
        behind InBody (view_select select (columns_read reads found)) (λ (given : ViewSelect). Ok (view_dataset origin given)) (λ given is. h (query_of_select origin given)))

    pub view_holds : (name : List ℕ) (select : Select) (resolved : Option Resolved) → ((query : Query) → Q (body.View query)) → IfOk (view_by name select sofar resolved) InBody
    view_holds name select resolved h =
        behind InBody (opened name resolved) (λ (reads : Source). view_named select reads (found_in sofar reads) (dataset_read reads)) (λ reads opens. named_holds select reads (found_in sofar reads) (dataset_read reads) h)

-- ---- a table

-- R holds of the flows at places, and of the columns that the table has of them, and P of what a change feed makes of a table
pub record HoldsByFlow (statements : List Statement) (resolved : List Resolved) (sofar : List Dataset) (R : List ℕ → Option (List Column) → List AppendFlow → Type 0) (P : DatasetParts → Type 0) : Type 0 where
  pub flow : (mixed : Bool) (places : List ℕ) (table : Option (List Column)) (flows : List AppendFlow) (place : ℕ) (name : List ℕ) (select : Select) → R places table flows → flow_at statements place ≡ Some name →
      IfOk (flow_by mixed name select table sofar (slice_get resolved place)) (λ made. R (places ++ place ∷ []) (Some made.columns) (flows ++ made.flow ∷ []))
  pub feed : (mixed : Bool) (place : ℕ) (name : List ℕ) (feed : CdcTree) → IfOk (feed_by mixed name feed sofar (slice_get resolved place)) P

module _ (statements : List Statement) (resolved : List Resolved) (sofar : List Dataset) (R : List ℕ → Option (List Column) → List AppendFlow → Type 0) (P : DatasetParts → Type 0) (holds : HoldsByFlow statements resolved sofar R P) where
  -- one more flow, or a change feed
  abbrev Gives : List ℕ → List AppendFlow → ℕ → FlowParts → Type 0
  Gives places flows place (parts.Appends made) = R (places ++ place ∷ []) (Some made.columns) (flows ++ made.flow ∷ [])
  Gives places flows place (parts.Keeps kept) = P kept

  appends_hold : (places : List ℕ) (flows : List AppendFlow) (place : ℕ) (made : Result TableFlow CheckFault) → IfOk made (λ m. R (places ++ place ∷ []) (Some m.columns) (flows ++ m.flow ∷ [])) → IfOk (appends made) (Gives places flows place)
  appends_hold places flows place (Ok made) h = h
  appends_hold places flows place (Err fault) h = tt

  keeps_hold : (places : List ℕ) (flows : List AppendFlow) (place : ℕ) (made : Result DatasetParts CheckFault) → IfOk made P → IfOk (keeps made) (Gives places flows place)
  keeps_hold places flows place (Ok made) h = h
  keeps_hold places flows place (Err fault) h = tt

  module _ (mixed : Bool) where
    one_holds : (places : List ℕ) (table : Option (List Column)) (flows : List AppendFlow) (place : ℕ) (found : Option Statement) → R places table flows → slice_get statements place ≡ found →
        IfOk (parts_if_there mixed table sofar (slice_get resolved place) found) (Gives places flows place)
    one_holds places table flows place None h at = tt
    one_holds places table flows place (Some (statement.Table name items None)) h at = tt
    one_holds places table flows place (Some (statement.Table name items (Some select))) h at =
        appends_hold places flows place (flow_by mixed name select table sofar (slice_get resolved place)) (holds.flow mixed places table flows place name select h (ap (option_and_then flow_name) at))
    one_holds places table flows place (Some (statement.View name items select)) h at = tt
    one_holds places table flows place (Some (statement.Insert name target select)) h at =
        appends_hold places flows place (flow_by mixed name select table sofar (slice_get resolved place)) (holds.flow mixed places table flows place name select h (ap (option_and_then flow_name) at))
    one_holds places table flows place (Some (statement.Cdc name feed)) h at = keeps_hold places flows place (feed_by mixed name feed sofar (slice_get resolved place)) (holds.feed mixed place name feed)

    -- behind flows of which R holds
    abbrev JoinHolds : List ℕ → List ℕ → Type 0
    JoinHolds places more = (table : Option (List Column)) (flows : List AppendFlow) → R places table flows → IfOk (flows_joined statements resolved sofar mixed more table flows) P

    given_holds : (places more : List ℕ) (place : ℕ) (flows : List AppendFlow) (given : FlowParts) → Gives places flows place given → JoinHolds (places ++ place ∷ []) more → IfOk (behind_flow flows (flows_joined statements resolved sofar mixed more) given) P
    given_holds places more place flows (parts.Appends made) h others = others (Some made.columns) (flows ++ made.flow ∷ []) h
    given_holds places more place flows (parts.Keeps kept) h others = h

    joined_holds : (all places more : List ℕ) → places ++ more ≡ all → ((table : Option (List Column)) (flows : List AppendFlow) → R all table flows → P (append_dataset table flows)) → JoinHolds places more
    joined_holds all places [] is end table flows h = end table flows (subst (λ (list : List ℕ). R list table flows) (sym (append-nil places) ∙ is) h)
    joined_holds all places (place ∷ more) is end table flows h =
        behind P (parts_at statements resolved sofar mixed table place) (behind_flow flows (flows_joined statements resolved sofar mixed more)) (λ given e.
        given_holds places more place flows given
        (given_ok (Gives places flows place) (parts_at statements resolved sofar mixed table place) given e
        (at_place (Gives places flows place) place (parts_if_there mixed table sofar (slice_get resolved place) (slice_get statements place)) (one_holds places table flows place (slice_get statements place) h refl)))
        (joined_holds all (places ++ place ∷ []) more (append_assoc places (place ∷ []) more ∙ is) end))

  if_flows : (empty : Bool) (fault : Break) (made : Result DatasetParts Break) → IfOk made P → IfOk (if empty then Err fault else made) P
  if_flows true fault made h = tt
  if_flows false fault made h = h

  -- what fills a table at a place
  pub table_holds : (place : ℕ) (name : List ℕ) (items : List SqlItem) (select : Option Select) → R [] (table_before items select) [] →
      ((table : Option (List Column)) (flows : List AppendFlow) → R (flow_places statements place name select) table flows → P (append_dataset table flows)) → IfOk (table_parts statements resolved sofar place name items select) P
  table_holds place name items select begin end =
      let places = flow_places statements place name select in
      let mixed = are_mixed statements places in
      if_flows (length places == 0) (broken (place + 1) (NoFlow name)) (flows_joined statements resolved sofar mixed places (table_before items select) []) (joined_holds mixed places [] places refl end (table_before items select) [] begin)

-- ---- a dataset

module _ (statements : List Statement) (resolved : List Resolved) (sofar : List Dataset) (level : ℕ) (P : DatasetParts → Type 0) (Q : Dataset → Type 0)
    (made : (name text : List ℕ) (items : List SqlItem) (parts : DatasetParts) (given : List Expectation) → P parts → expectations_over items parts.seen ≡ Ok given → Q (dataset_of name text level parts given)) (place : ℕ) where
  filled_holds : (name : List ℕ) (items : List SqlItem) (text : List ℕ) (filled : Result DatasetParts Break) → IfOk filled P → IfOk (dataset_filled place name items level text filled) Q
  filled_holds name items text filled h =
      behind Q filled (λ (parts : DatasetParts). at_statement place (dataset_with name items level text parts)) (λ parts is.
      at_place Q place (dataset_with name items level text parts)
      (behind_check Q (own_fault items parts.columns) (λ u. dataset_expecting name items level text parts) (λ pass.
      behind Q (expectations_over items parts.seen) (λ (given : List Expectation). Ok (dataset_of name text level parts given)) (λ given tested. made name text items parts given (given_ok P filled parts is h) tested))))

  abbrev TableHolds : Type 0
  TableHolds = (name : List ℕ) (items : List SqlItem) (select : Option Select) → slice_get statements place ≡ Some (statement.Table name items select) → IfOk (table_parts statements resolved sofar place name items select) P

  abbrev ViewHolds : Type 0
  ViewHolds = (name : List ℕ) (select : Select) → IfOk (view_by name select sofar (slice_get resolved place)) P

  there_holds : TableHolds → ViewHolds → (text : List ℕ) (found : Option Statement) → slice_get statements place ≡ found → IfOk (judged_if_there statements resolved sofar place level text found) Q
  there_holds table view text None at = tt
  there_holds table view text (Some (statement.Table name items select)) at = filled_holds name items text (table_parts statements resolved sofar place name items select) (table name items select at)
  there_holds table view text (Some (statement.View name items select)) at =
      filled_holds name items text (at_statement place (view_by name select sofar (slice_get resolved place))) (at_place P place (view_by name select sofar (slice_get resolved place)) (view name select))
  there_holds table view text (Some (statement.Insert flow target select)) at = tt
  there_holds table view text (Some (statement.Cdc flow feed)) at = tt

  -- a dataset that breaks no check
  pub judged_holds : TableHolds → ViewHolds → (text : List ℕ) → IfOk (dataset_judged statements resolved sofar place level text) Q
  judged_holds table view text = there_holds table view text (slice_get statements place) refl
