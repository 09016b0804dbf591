-- A dataset that is judged was found each dataset that its statements read, and its body reads it.
use Rattle.std.proofs.Common.{◌≡◌, inl, inr, ℕ, suc, ◌+◌, ◌==◌, Bool, true, false, cond, List, [], ◌∷◌, ◌++◌, length, Option, Some, None, Result, Ok, Err, refl, sym, ap, subst, ◌∙◌, arith}
use Rattle.std.specs.Prelude.{◌&&◌, ◌||◌, nat_lt, slice_get}
use Rattle.std.proofs.lemmas.Bool.Decides.{nat_tests}
use Rattle.value_core.specs.declared.schema.Column.{Column}
use Rattle.sql_tree.specs.declared.statement.CdcTree.{CdcTree}
use Rattle.sql_tree.specs.declared.statement.Select.{Select}
use Rattle.sql_tree.specs.declared.statement.SqlItem.{SqlItem}
use Rattle.sql_tree.specs.declared.statement.Statement.{Statement}
use Rattle.sql_tree.specs.declared.statement.Statement.TheVariants as statement
use Rattle.plan_core.specs.declared.flow.AppendFlow.{AppendFlow}
use Rattle.plan_core.specs.declared.flow.Origin.TheVariants as plan
use Rattle.plan_core.specs.declared.plan.Body.{Body}
use Rattle.plan_core.specs.declared.plan.Body.TheVariants as body
use Rattle.plan_core.specs.declared.plan.Dataset.{Dataset}
use Rattle.plan_core.specs.Sound.{dataset_named}
use Rattle.statement_checks.specs.declared.fault.CheckFault.{CheckFault}
use Rattle.statement_checks.specs.declared.fault.CheckFault.TheVariants.{NoFlow}
use Rattle.statement_checks.specs.Breaks.{broken}
use Rattle.statement_checks.specs.Repeats.{first_of}
use Rattle.origin_checks.specs.declared.resolved.Resolved.{Resolved}
use Rattle.origin_checks.specs.declared.resolved.Source.{Source}
use Rattle.origin_checks.specs.declared.resolved.Source.TheVariants as source
use Rattle.origin_checks.specs.Origins.{columns_read, is_batch, is_found, is_stream, origin_as, origin_batch_checks, origin_stream_checks, streams_gains}
use Rattle.select_checks.specs.Streams.{stream_select}
use Rattle.select_checks.specs.Views.{view_select}
use Rattle.feed_checks.specs.Feeds.{feed_parts, passed, track_fault}
use Rattle.dataset_checks.specs.declared.parts.DatasetParts.{DatasetParts}
use Rattle.dataset_checks.specs.declared.parts.FlowParts.{FlowParts}
use Rattle.dataset_checks.specs.declared.parts.FlowParts.TheVariants as parts
use Rattle.dataset_checks.specs.declared.parts.TableFlow.{TableFlow}
use Rattle.dataset_checks.specs.Appending.{flow_by, flow_over, placed_flow, select_into, selected_flow, table_flow}
use Rattle.dataset_checks.specs.Ends.{and_then}
use Rattle.dataset_checks.specs.Feeding.{fed, feed_by, feed_dataset, feed_over}
use Rattle.dataset_checks.specs.Filling.{are_mixed, flow_places, has_feed, is_feed_there}
use Rattle.dataset_checks.specs.Reading.{feed_reading_fault, found_in, opened, reading_fault, unmixed}
use Rattle.dataset_checks.specs.Tables.{append_dataset, behind_flow, flows_at, flows_joined, parts_at, parts_if_there, parts_of_flow, table_parts}
use Rattle.dataset_checks.specs.Viewing.{view_by, view_dataset, view_over, viewed}
use Rattle.plan_texts.proofs.Lists.{Among, among_left, among_right, no_some}
use Rattle.plan_texts.proofs.Resolving.{from_dataset}
use Rattle.plan_texts.proofs.Results.{at_ok, behind_ok, in_ok, no_ok, none_of_both, passed_ok}

-- ---- what a body reads

-- a body reads the dataset of this name, as its statements write it
abbrev pub ReadsName : List ℕ → Body → Type 0
ReadsName name (body.Append flows) = (flow : AppendFlow) × Among flow flows × (flow.origin ≡ plan.Table name)
ReadsName name (body.Cdc cdc) = cdc.origin ≡ plan.Table name
ReadsName name (body.View query) = query.origin ≡ name

-- it was found
abbrev pub IsSomeFound : List Dataset → List ℕ → Type 0
IsSomeFound sofar name = (dataset : Dataset) × (dataset_named sofar name ≡ Some dataset)

-- ---- the checks of what is read

there_by : (stream : Bool) (name : List ℕ) (found : Option Dataset) → is_found (source.Dataset stream name) found ≡ None → (dataset : Dataset) × (found ≡ Some dataset)
there_by stream name None e = absurd (no_some (sym e))
there_by stream name (Some dataset) e = (dataset, refl)

unmixed_true : unmixed true ≡ None → ⊥
unmixed_true e = absurd (no_some (sym e))

fault_parts : (mixed : Bool) (reads : Source) (found : Option Dataset) → reading_fault mixed reads found ≡ None → (is_found reads found ≡ None) × (unmixed mixed ≡ None)
fault_parts mixed reads found e =
    let two = none_of_both (first_of (origin_stream_checks reads found)) (unmixed mixed) e in
    let rest = none_of_both (is_stream reads) (first_of (is_found reads found ∷ streams_gains reads found ∷ [])) two.0 in
    ((none_of_both (is_found reads found) (first_of (streams_gains reads found ∷ [])) rest.1).0, two.1)

-- ---- one flow

placed_origin : (name : List ℕ) (reads : Source) (table : Option (List Column)) (given : _) (flow : TableFlow) → placed_flow name reads table given ≡ Ok flow → flow.flow.origin ≡ origin_as reads
placed_origin name reads table given flow e =
    let step = behind_ok (select_into table given) (λ placed. Ok (table_flow name (origin_as reads) placed)) flow e in
    ap (λ (f : TableFlow). f.flow.origin) (sym (in_ok step.2))

flow_origin : (name : List ℕ) (select : Select) (table : Option (List Column)) (reads : Source) (columns : List Column) (flow : TableFlow) → selected_flow name select table reads columns ≡ Ok flow → flow.flow.origin ≡ origin_as reads
flow_origin name select table reads columns flow e =
    let step = behind_ok (stream_select select columns) (placed_flow name reads table) flow e in
    placed_origin name reads table step.0 flow step.2

over_parts : (mixed : Bool) (name : List ℕ) (select : Select) (table : Option (List Column)) (reads : Source) (found : Option Dataset) (flow : TableFlow) → flow_over mixed name select table reads found ≡ Ok flow →
    (reading_fault mixed reads found ≡ None) × (flow.flow.origin ≡ origin_as reads)
over_parts mixed name select table reads found flow e =
    let step = behind_ok (passed (reading_fault mixed reads found)) (λ u. selected_flow name select table reads (columns_read reads found)) flow e in
    (passed_ok (reading_fault mixed reads found) step.0 step.1, flow_origin name select table reads (columns_read reads found) flow step.2)

flow_read : (mixed : Bool) (name : List ℕ) (select : Select) (table : Option (List Column)) (sofar : List Dataset) (stream : Bool) (read : List ℕ) (flow : TableFlow) → flow_by mixed name select table sofar (Some (from_dataset stream read)) ≡ Ok flow →
    IsSomeFound sofar read × (flow.flow.origin ≡ plan.Table read)
flow_read mixed name select table sofar stream read flow e =
    let two = over_parts mixed name select table (source.Dataset stream read) (dataset_named sofar read) flow e in
    (there_by stream read (dataset_named sofar read) (fault_parts mixed (source.Dataset stream read) (dataset_named sofar read) two.0).0, two.1)

flow_mixed : (name : List ℕ) (select : Select) (table : Option (List Column)) (sofar : List Dataset) (resolved : Option Resolved) (flow : TableFlow) → flow_by true name select table sofar resolved ≡ Ok flow → ⊥
flow_mixed name select table sofar resolved flow e =
    let step = behind_ok (opened name resolved) (λ reads. flow_over true name select table reads (found_in sofar reads)) flow e in
    let two = over_parts true name select table step.0 (found_in sofar step.0) flow step.2 in
    unmixed_true (fault_parts true step.0 (found_in sofar step.0) two.0).1

-- ---- a change feed

fed_origin : (name : List ℕ) (feed : CdcTree) (reads : Source) (columns : List Column) (table : DatasetParts) (read : List ℕ) → origin_as reads ≡ plan.Table read → fed name feed reads columns ≡ Ok table → ReadsName read table.body
fed_origin name feed reads columns table read is e =
    let step = behind_ok (feed_parts feed columns) (λ made. Ok (feed_dataset name (origin_as reads) made)) table e in
    subst (λ (t : DatasetParts). ReadsName read t.body) (in_ok step.2) is

feed_fault : (mixed : Bool) (name : List ℕ) (feed : CdcTree) (reads : Source) (found : Option Dataset) (table : DatasetParts) → feed_over mixed name feed reads found ≡ Ok table → reading_fault mixed reads found ≡ None
feed_fault mixed name feed reads found table e =
    let step = behind_ok (passed (feed_reading_fault mixed feed reads found)) (λ u. fed name feed reads (columns_read reads found)) table e in
    (none_of_both (track_fault feed) (reading_fault mixed reads found) (passed_ok (feed_reading_fault mixed feed reads found) step.0 step.1)).1

feed_read : (mixed : Bool) (name : List ℕ) (feed : CdcTree) (sofar : List Dataset) (stream : Bool) (read : List ℕ) (table : DatasetParts) → feed_by mixed name feed sofar (Some (from_dataset stream read)) ≡ Ok table →
    IsSomeFound sofar read × ReadsName read table.body
feed_read mixed name feed sofar stream read table e =
    let reads = source.Dataset stream read in
    let fault = feed_fault mixed name feed reads (dataset_named sofar read) table e in
    let step = behind_ok (passed (feed_reading_fault mixed feed reads (dataset_named sofar read))) (λ u. fed name feed reads (columns_read reads (dataset_named sofar read))) table e in
    (there_by stream read (dataset_named sofar read) (fault_parts mixed reads (dataset_named sofar read) fault).0, fed_origin name feed reads (columns_read reads (dataset_named sofar read)) table read refl step.2)

feed_mixed : (name : List ℕ) (feed : CdcTree) (sofar : List Dataset) (resolved : Option Resolved) (table : DatasetParts) → feed_by true name feed sofar resolved ≡ Ok table → ⊥
feed_mixed name feed sofar resolved table e =
    let step = behind_ok (opened name resolved) (λ reads. feed_over true name feed reads (found_in sofar reads)) table e in
    unmixed_true (fault_parts true step.0 (found_in sofar step.0) (feed_fault true name feed step.0 (found_in sofar step.0) table step.2)).1

-- ---- what a flow gives to its table

-- it reads the dataset of this name
abbrev GivesName : List ℕ → FlowParts → Type 0
GivesName name (parts.Appends flow) = flow.flow.origin ≡ plan.Table name
GivesName name (parts.Keeps table) = ReadsName name table.body

appended : (made : Result TableFlow CheckFault) (given : FlowParts) → and_then made (λ flow. Ok (parts.Appends flow)) ≡ Ok given → (flow : TableFlow) × (made ≡ Ok flow) × (given ≡ parts.Appends flow)
appended made given e = let step = behind_ok made (λ flow. Ok (parts.Appends flow)) given e in (step.0, step.1, sym (in_ok step.2))

kept : (made : Result DatasetParts CheckFault) (given : FlowParts) → and_then made (λ table. Ok (parts.Keeps table)) ≡ Ok given → (table : DatasetParts) × (made ≡ Ok table) × (given ≡ parts.Keeps table)
kept made given e = let step = behind_ok made (λ table. Ok (parts.Keeps table)) given e in (step.0, step.1, sym (in_ok step.2))

append_read : (mixed : Bool) (name : List ℕ) (select : Select) (table : Option (List Column)) (sofar : List Dataset) (stream : Bool) (read : List ℕ) (given : FlowParts) →
    and_then (flow_by mixed name select table sofar (Some (from_dataset stream read))) (λ flow. Ok (parts.Appends flow)) ≡ Ok given → IsSomeFound sofar read × GivesName read given
append_read mixed name select table sofar stream read given e =
    let a = appended (flow_by mixed name select table sofar (Some (from_dataset stream read))) given e in
    let r = flow_read mixed name select table sofar stream read a.0 a.1 in
    (r.0, subst (GivesName read) (sym a.2) r.1)

part_read : (mixed : Bool) (table : Option (List Column)) (sofar : List Dataset) (stream : Bool) (read : List ℕ) (one : Statement) (given : FlowParts) → parts_of_flow mixed table sofar (Some (from_dataset stream read)) one ≡ Ok given →
    IsSomeFound sofar read × GivesName read given
part_read mixed table sofar stream read (statement.Table name items None) given e = absurd (no_ok e)
part_read mixed table sofar stream read (statement.Table name items (Some select)) given e = append_read mixed name select table sofar stream read given e
part_read mixed table sofar stream read (statement.View name items select) given e = absurd (no_ok e)
part_read mixed table sofar stream read (statement.Insert flow target select) given e = append_read mixed flow select table sofar stream read given e
part_read mixed table sofar stream read (statement.Cdc flow feed) given e =
    let k = kept (feed_by mixed flow feed sofar (Some (from_dataset stream read))) given e in
    let r = feed_read mixed flow feed sofar stream read k.0 k.1 in
    (r.0, subst (GivesName read) (sym k.2) r.1)

part_mixed : (table : Option (List Column)) (sofar : List Dataset) (resolved : Option Resolved) (o : Option Statement) (given : FlowParts) → parts_if_there true table sofar resolved o ≡ Ok given → ⊥
part_mixed table sofar resolved None given e = no_ok e
part_mixed table sofar resolved (Some (statement.Table name items None)) given e = no_ok e
part_mixed table sofar resolved (Some (statement.Table name items (Some select))) given e = let a = appended (flow_by true name select table sofar resolved) given e in flow_mixed name select table sofar resolved a.0 a.1
part_mixed table sofar resolved (Some (statement.View name items select)) given e = no_ok e
part_mixed table sofar resolved (Some (statement.Insert flow target select)) given e = let a = appended (flow_by true flow select table sofar resolved) given e in flow_mixed flow select table sofar resolved a.0 a.1
part_mixed table sofar resolved (Some (statement.Cdc flow feed)) given e = let k = kept (feed_by true flow feed sofar resolved) given e in feed_mixed flow feed sofar resolved k.0 k.1

-- what is no change feed appends
part_plain : (mixed : Bool) (table : Option (List Column)) (sofar : List Dataset) (resolved : Option Resolved) (o : Option Statement) (given : FlowParts) → is_feed_there o ≡ false → parts_if_there mixed table sofar resolved o ≡ Ok given →
    (flow : TableFlow) × (given ≡ parts.Appends flow)
part_plain mixed table sofar resolved None given plain e = absurd (no_ok e)
part_plain mixed table sofar resolved (Some (statement.Table name items None)) given plain e = absurd (no_ok e)
part_plain mixed table sofar resolved (Some (statement.Table name items (Some select))) given plain e = let a = appended (flow_by mixed name select table sofar resolved) given e in (a.0, a.2)
part_plain mixed table sofar resolved (Some (statement.View name items select)) given plain e = absurd (no_ok e)
part_plain mixed table sofar resolved (Some (statement.Insert flow target select)) given plain e = let a = appended (flow_by mixed flow select table sofar resolved) given e in (a.0, a.2)
part_plain mixed table sofar resolved (Some (statement.Cdc flow feed)) given plain e = absurd (cc)

-- ---- all flows

or_parts : (a b : Bool) → (a || b) ≡ false → (a ≡ false) × (b ≡ false)
or_parts true b e = absurd (cc)
or_parts false b e = (refl, e)

not_zero : (n : ℕ) → (suc n == 0) ≡ false
not_zero n = grind (arith, nat_tests)

two_or_more : (n : ℕ) → nat_lt 1 (suc (suc n)) ≡ true
two_or_more n = grind (arith, nat_tests)

if_not : {A : Type 0} (test : Bool) (a b : A) → test ≡ false → cond test a b ≡ b
if_not true a b e = absurd (cc)
if_not false a b e = refl

-- where there is a flow
pub flows_there : (statements : List Statement) (resolved : List Resolved) (sofar : List Dataset) (home : ℕ) (name : List ℕ) (table : Option (List Column)) (place : ℕ) (places : List ℕ) →
    flows_at statements resolved sofar home name table (place ∷ places) ≡ flows_joined statements resolved sofar (are_mixed statements (place ∷ places)) (place ∷ places) table []
flows_there statements resolved sofar home name table place places =
    if_not (length (place ∷ places) == 0) (Err (broken (home + 1) (NoFlow name))) (flows_joined statements resolved sofar (are_mixed statements (place ∷ places)) (place ∷ places) table []) (not_zero (length places))

module _ (statements : List Statement) (resolved : List Resolved) (sofar : List Dataset) where
  -- the statement at a place reads a dataset
  pub record IsReader (place : ℕ) (read : List ℕ) : Type 0 where
    pub statement : Statement
    pub is_there : slice_get statements place ≡ Some statement
    pub stream : Bool
    pub is_from : slice_get resolved place ≡ Some (from_dataset stream read)

  at_reader : (mixed : Bool) (table : Option (List Column)) (place : ℕ) (read : List ℕ) (given : FlowParts) → IsReader place read → parts_if_there mixed table sofar (slice_get resolved place) (slice_get statements place) ≡ Ok given → IsSomeFound sofar read × GivesName read given
  at_reader mixed table place read given r e =
      part_read mixed table sofar r.stream read r.statement given
      (ap (parts_if_there mixed table sofar (Some (from_dataset r.stream read))) (sym r.is_there) ∙ ap (λ (o : Option Resolved). parts_if_there mixed table sofar o (slice_get statements place)) (sym r.is_from) ∙ e)

  -- the flows of these places, none of them a change feed, behind others
  record AreAppended (places : List ℕ) (flows : List AppendFlow) (given : Body) : Type 0 where
    all : List AppendFlow
    is_all : given ≡ body.Append all
    kept_all : (flow : AppendFlow) → Among flow flows → Among flow all
    reads_all : (place : ℕ) (read : List ℕ) → Among place places → IsReader place read → IsSomeFound sofar read × ReadsName read (body.Append all)

  flows_appended : (mixed : Bool) (places : List ℕ) (table : Option (List Column)) (flows : List AppendFlow) (made : DatasetParts) → has_feed statements places ≡ false → flows_joined statements resolved sofar mixed places table flows ≡ Ok made → AreAppended places flows made.body
  flows_appended mixed [] table flows made plain e = record {
    all = flows;
    is_all = ap (λ (p : DatasetParts). p.body) (sym (in_ok e));
    kept_all = λ flow m. m;
    reads_all = λ place read m r. absurd m;
  }
  flows_appended mixed (place ∷ more) table flows made plain e =
      let both = or_parts (is_feed_there (slice_get statements place)) (has_feed statements more) plain in
      let step = behind_ok (parts_at statements resolved sofar mixed table place) (behind_flow flows (flows_joined statements resolved sofar mixed more)) made e in
      let part : parts_if_there mixed table sofar (slice_get resolved place) (slice_get statements place) ≡ Ok step.0 = at_ok place (parts_if_there mixed table sofar (slice_get resolved place) (slice_get statements place)) step.0 step.1 in
      let one = part_plain mixed table sofar (slice_get resolved place) (slice_get statements place) step.0 both.0 part in
      let rest : flows_joined statements resolved sofar mixed more (Some one.0.columns) (flows ++ one.0.flow ∷ []) ≡ Ok made = ap (behind_flow flows (flows_joined statements resolved sofar mixed more)) (sym one.1) ∙ step.2 in
      let others = flows_appended mixed more (Some one.0.columns) (flows ++ one.0.flow ∷ []) made both.1 rest in
      let here : Among one.0.flow others.all = others.kept_all one.0.flow (among_right one.0.flow flows (one.0.flow ∷ []) (inl refl)) in
      record {
        all = others.all;
        is_all = others.is_all;
        kept_all = λ flow m. others.kept_all flow (among_left flow flows (one.0.flow ∷ []) m);
        reads_all = λ at read m r. elim m [
          | inl same ↦ (
              let two = at_reader mixed table place read step.0 (subst (λ (p : ℕ). IsReader p read) same r) part in
              let from : one.0.flow.origin ≡ plan.Table read = subst (GivesName read) one.1 two.1 in
              (two.0, (one.0.flow, here, from))
              )
          | inr n ↦ others.reads_all at read n r
        ];
      }

  -- each dataset that the flows at places read was found, and the body reads it
  abbrev pub AllRead : List ℕ → Body → Type 0
  AllRead places given = (place : ℕ) (read : List ℕ) → Among place places → IsReader place read → IsSomeFound sofar read × ReadsName read given

  appended_read : (places : List ℕ) (flows : List AppendFlow) (given : Body) → AreAppended places flows given → AllRead places given
  appended_read places flows given are place read m r =
      let two = are.reads_all place read m r in
      (two.0, subst (ReadsName read) (sym are.is_all) two.1)

  kept_read : (place : ℕ) (given : FlowParts) (made : DatasetParts) (read : List ℕ) → behind_flow [] (λ table flows. Ok (append_dataset table flows)) given ≡ Ok made → GivesName read given → ReadsName read made.body
  kept_read place (parts.Keeps table) made read e gives = subst (λ (t : DatasetParts). ReadsName read t.body) (in_ok e) gives
  kept_read place (parts.Appends flow) made read e gives = subst (λ (t : DatasetParts). ReadsName read t.body) (in_ok e) (flow.flow, inl refl, gives)

  one_read : (mixed : Bool) (place : ℕ) (table : Option (List Column)) (made : DatasetParts) → flows_joined statements resolved sofar mixed (place ∷ []) table [] ≡ Ok made → AllRead (place ∷ []) made.body
  one_read mixed place table made e at read (inr never) r = absurd never
  one_read mixed place table made e at read (inl same) r =
      let step = behind_ok (parts_at statements resolved sofar mixed table place) (behind_flow [] (flows_joined statements resolved sofar mixed [])) made e in
      let part = at_ok place (parts_if_there mixed table sofar (slice_get resolved place) (slice_get statements place)) step.0 step.1 in
      let two = at_reader mixed table place read step.0 (subst (λ (p : ℕ). IsReader p read) same r) part in
      (two.0, kept_read place step.0 made read step.2 two.1)

  joined_read : (mixed : Bool) (places : List ℕ) (table : Option (List Column)) (made : DatasetParts) → are_mixed statements places ≡ mixed → flows_joined statements resolved sofar mixed places table [] ≡ Ok made → AllRead places made.body
  joined_read mixed [] table made is e at read m r = absurd m
  joined_read true (place ∷ more) table made is e at read m r =
      let step = behind_ok (parts_at statements resolved sofar true table place) (behind_flow [] (flows_joined statements resolved sofar true more)) made e in
      absurd (part_mixed table sofar (slice_get resolved place) (slice_get statements place) step.0 (at_ok place (parts_if_there true table sofar (slice_get resolved place) (slice_get statements place)) step.0 step.1))
  joined_read false (place ∷ []) table made is e at read m r = one_read false place table made e at read m r
  joined_read false (place ∷ next ∷ more) table made is e at read m r =
      appended_read (place ∷ next ∷ more) [] made.body (flows_appended false (place ∷ next ∷ more) table [] made (sym (ap (λ (b : Bool). b && has_feed statements (place ∷ next ∷ more)) (two_or_more (length more))) ∙ is) e) at read m r

  by_length : (place : ℕ) (name : List ℕ) (table : Option (List Column)) (places : List ℕ) (made : DatasetParts) → flows_at statements resolved sofar place name table places ≡ Ok made → AllRead places made.body
  by_length place name table [] made e = λ at read m r. absurd m
  by_length place name table (first ∷ more) made e = joined_read (are_mixed statements (first ∷ more)) (first ∷ more) table made refl (sym (flows_there statements resolved sofar place name table first more) ∙ e)

  pub table_read : (place : ℕ) (name : List ℕ) (items : List SqlItem) (select : Option Select) (made : DatasetParts) → table_parts statements resolved sofar place name items select ≡ Ok made → AllRead (flow_places statements place name select) made.body
  table_read place name items select made e = by_length place name _ (flow_places statements place name select) made e

-- ---- a view

over_read : (select : Select) (stream : Bool) (read : List ℕ) (found : Option Dataset) (made : DatasetParts) → view_over select (source.Dataset stream read) found read ≡ Ok made → ((dataset : Dataset) × (found ≡ Some dataset)) × ReadsName read made.body
over_read select stream read found made e =
    let reads = source.Dataset stream read in
    let step = behind_ok (passed (first_of (origin_batch_checks reads found))) (λ u. viewed select read (columns_read reads found)) made e in
    let none = none_of_both (is_batch reads) (first_of (is_found reads found ∷ [])) (passed_ok (first_of (origin_batch_checks reads found)) step.0 step.1) in
    let last = behind_ok (view_select select (columns_read reads found)) (λ given. Ok (view_dataset read given)) made step.2 in
    (there_by stream read found (none_of_both (is_found reads found) None none.1).0, subst (λ (p : DatasetParts). ReadsName read p.body) (in_ok last.2) refl)

pub view_read : (name : List ℕ) (select : Select) (sofar : List Dataset) (stream : Bool) (read : List ℕ) (made : DatasetParts) → view_by name select sofar (Some (from_dataset stream read)) ≡ Ok made → IsSomeFound sofar read × ReadsName read made.body
view_read name select sofar stream read made e = over_read select stream read (dataset_named sofar read) made e
