-- What the flows of a streaming table make of it is sound, where their checks are passed.
use Rattle.std.proofs.Common.{◌≡◌, ℕ, Bool, List, [], ◌∷◌, ◌++◌, Option, Some, None, Ok, IfOk, refl, sym, ap, subst, ◌∙◌}
use Rattle.std.specs.Prelude.{slice_get}
use Rattle.std.specs.List.{AllByRecursion}
use Rattle.std.proofs.lemmas.List.Elements.{All-from_recursion, All-nil}
use Rattle.value_core.specs.declared.schema.Column.{Column}
use Rattle.sql_tree.specs.declared.statement.Select.{Select}
use Rattle.sql_tree.specs.declared.statement.SqlItem.{SqlItem}
use Rattle.sql_tree.specs.declared.statement.Statement.{Statement}
use Rattle.plan_core.specs.declared.flow.AppendFlow.{AppendFlow}
use Rattle.plan_core.specs.declared.flow.Origin.{Origin}
use Rattle.plan_core.specs.declared.plan.Dataset.{Dataset}
use Rattle.plan_core.specs.Sound.{IsSoundAppend, IsSoundFlow, flow_columns, kinds_of}
use Rattle.statement_checks.specs.Duplicates.{item_repeat}
use Rattle.statement_checks.specs.Repeats.{first_of}
use Rattle.origin_checks.specs.declared.resolved.Resolved.{Resolved}
use Rattle.origin_checks.specs.declared.resolved.Source.{Source}
use Rattle.origin_checks.specs.Origins.{columns_read, origin_as, origin_stream_checks}
use Rattle.column_checks.specs.Tables.{columns_declared}
use Rattle.column_checks.specs.ByName.{gives_table}
use Rattle.select_checks.specs.declared.stream.StreamSelect.{StreamSelect}
use Rattle.select_checks.specs.Parts.{flow_of_select}
use Rattle.select_checks.specs.Streams.{stream_select}
use Rattle.dataset_checks.specs.declared.parts.TableFlow.{TableFlow}
use Rattle.dataset_checks.specs.Appending.{flow_by, flow_over, placed_flow, select_into, select_placed, selected_flow, table_flow}
use Rattle.dataset_checks.specs.Datasets.{dataset_of}
use Rattle.dataset_checks.specs.Filling.{flow_places}
use Rattle.dataset_checks.specs.Reading.{found_in, opened, reading_fault, unmixed}
use Rattle.dataset_checks.specs.Tables.{append_dataset, if_declared, table_before, table_parts}
use Rattle.plan_laws.proofs.Apart.{AreApart, same_column}
use Rattle.plan_laws.proofs.Binding.{behind, behind_check, given_ok, implied, neither}
use Rattle.plan_laws.proofs.BodySound.{FeedLaw, IsSoundParts, TargetLaw, feed_by_sound}
use Rattle.plan_laws.proofs.ByName.{placed_kinds}
use Rattle.plan_laws.proofs.ColumnNames.{columns_differ, stream_apart}
use Rattle.plan_laws.proofs.Judging.{HoldsByFlow, table_holds}
use Rattle.plan_laws.proofs.ReadLemmas.{AreBelow, flow_reads}

abbrev pub StreamLaw : Type 0
StreamLaw = (select : Select) (read : List Column) (given : StreamSelect) (name : List ℕ) (origin : Origin) → stream_select select read ≡ Ok given → IsSoundAppend (kinds_of read) (kinds_of given.columns) (flow_of_select name origin given)

-- a flow is sound over others, into a table of these columns of a dataset of this level
record IsFlowOver (sofar : List Dataset) (level : ℕ) (columns : List Column) (flow : AppendFlow) : Type 0 where
  source : List Column
  reads : flow_columns sofar level flow.origin ≡ Some source
  gives : IsSoundAppend (kinds_of source) (kinds_of columns) flow

-- the columns of a table, where they are known, differ in name
abbrev HasApart : Option (List Column) → Type 0
HasApart None = Unit {0}
HasApart (Some columns) = AreApart same_column columns

-- these columns, where those of a table are known, are those
abbrev AreOf : Option (List Column) → List Column → Type 0
AreOf None columns = Unit {0}
AreOf (Some table) columns = columns ≡ table

-- ---- one select

-- what a select gives into a table is sound over the columns that it reads
record IsInto (read : List Column) (table : Option (List Column)) (given : StreamSelect) : Type 0 where
  sound : (name : List ℕ) (origin : Origin) → IsSoundAppend (kinds_of read) (kinds_of given.columns) (flow_of_select name origin given)
  apart : AreApart same_column given.columns
  is_of : AreOf table given.columns

select_into_sound : StreamLaw → (select : Select) (read : List Column) (table : Option (List Column)) (given : StreamSelect) → stream_select select read ≡ Ok given → HasApart table → IfOk (select_into table given) (IsInto read table)
select_into_sound law select read None given is apart = record {
  sound = λ name origin. law select read given name origin is;
  apart = stream_apart select read given is;
  is_of = tt;
}
select_into_sound law select read (Some table) given is apart =
    behind_check (IsInto read (Some table)) (gives_table table given.columns) (λ u. Ok (select_placed table given)) (λ pass. record {
      sound = λ name origin. let sound = law select read given name origin is in record {
        filter = sound.filter;
        outputs = placed_kinds (kinds_of read) table given.columns given.outputs apart pass sound.outputs;
      };
      apart = apart;
      is_of = refl;
    })

module _ (level : ℕ) (sofar : List Dataset) (below : AreBelow level sofar) where
  -- ---- one flow

  -- a flow of a table is sound, and gives the columns that the table has where they are known
  record IsFlowInto (table : Option (List Column)) (made : TableFlow) : Type 0 where
    over : IsFlowOver sofar level made.columns made.flow
    apart : AreApart same_column made.columns
    is_of : AreOf table made.columns

  flow_by_sound : StreamLaw → (mixed : Bool) (name : List ℕ) (select : Select) (table : Option (List Column)) (resolved : Option Resolved) → HasApart table → IfOk (flow_by mixed name select table sofar resolved) (IsFlowInto table)
  flow_by_sound law mixed name select table resolved apart =
      behind (IsFlowInto table) (opened name resolved) (λ (reads : Source). flow_over mixed name select table reads (found_in sofar reads)) (λ reads opens.
      let found = found_in sofar reads in
      let read = columns_read reads found in
      behind_check (IsFlowInto table) (reading_fault mixed reads found) (λ u. selected_flow name select table reads read) (λ pass.
      behind (IsFlowInto table) (stream_select select read) (λ (given : StreamSelect). placed_flow name reads table given) (λ given is.
      behind (IsFlowInto table) (select_into table given) (λ (placed : StreamSelect). Ok (table_flow name (origin_as reads) placed)) (λ placed into.
      let sound = given_ok (IsInto read table) (select_into table given) placed into (select_into_sound law select read table given is apart) in
      record {
        over = record {
          source = read;
          reads = flow_reads level sofar reads below (neither (first_of (origin_stream_checks reads found)) (unmixed mixed) pass).0;
          gives = sound.sound name (origin_as reads);
        };
        apart = sound.apart;
        is_of = sound.is_of;
      }))))

  -- ---- all flows

  -- the flows so far are sound into a table whose columns are known; where they aren't, there is none
  abbrev AreInto : List ℕ → Option (List Column) → List AppendFlow → Type 0
  AreInto places None flows = flows ≡ []
  AreInto places (Some columns) flows = AreApart same_column columns × AllByRecursion (IsFlowOver sofar level columns) flows

  one_more : (columns : List Column) (flows : List AppendFlow) (flow : AppendFlow) → AllByRecursion (IsFlowOver sofar level columns) flows → IsFlowOver sofar level columns flow → AllByRecursion (IsFlowOver sofar level columns) (flows ++ flow ∷ [])
  one_more columns [] flow all one = (one, tt)
  one_more columns (first ∷ more) flow all one = (all.0, one_more columns more flow all.1 one)

  with_flow : (places : List ℕ) (table : Option (List Column)) (flows : List AppendFlow) (place : ℕ) (made : TableFlow) → AreInto places table flows → IsFlowInto table made → AreInto (places ++ place ∷ []) (Some made.columns) (flows ++ made.flow ∷ [])
  with_flow places None flows place made none one = (one.apart, subst (λ (list : List AppendFlow). AllByRecursion (IsFlowOver sofar level made.columns) (list ++ made.flow ∷ [])) (sym none) (one.over, tt))
  with_flow places (Some table) flows place made all one =
      (one.apart, one_more made.columns flows made.flow (subst (λ (columns : List Column). AllByRecursion (IsFlowOver sofar level columns) flows) (sym one.is_of) all.1) one.over)

  has_apart : (places : List ℕ) (table : Option (List Column)) (flows : List AppendFlow) → AreInto places table flows → HasApart table
  has_apart places None flows all = tt
  has_apart places (Some table) flows all = all.0

  as_flows : (columns : List Column) (flows : List AppendFlow) (dataset : Dataset) → dataset.level ≡ level → dataset.columns ≡ columns → AllByRecursion (IsFlowOver sofar level columns) flows → AllByRecursion (IsSoundFlow sofar dataset) flows
  as_flows columns [] dataset is_level is_columns all = tt
  as_flows columns (flow ∷ more) dataset is_level is_columns all = (
    record {
      source = all.0.source;
      reads = ap (λ (n : ℕ). flow_columns sofar n flow.origin) is_level ∙ all.0.reads;
      gives = subst (λ (c : List Column). IsSoundAppend (kinds_of all.0.source) (kinds_of c) flow) (sym is_columns) all.0.gives;
    },
    as_flows columns more dataset is_level is_columns all.1,
  )

  append_sound : (places : List ℕ) (table : Option (List Column)) (flows : List AppendFlow) → AreInto places table flows → IsSoundParts sofar level (append_dataset table flows)
  append_sound places None flows none =
      subst (λ (list : List AppendFlow). IsSoundParts sofar level (append_dataset None list)) (sym none)
      (λ name text expectations tested. record { each_flow = All-nil (IsSoundFlow sofar (dataset_of name text level (append_dataset None []) expectations)); expectations = tested })
  append_sound places (Some columns) flows all = λ name text expectations tested.
      let dataset = dataset_of name text level (append_dataset (Some columns) flows) expectations in
      record { each_flow = All-from_recursion (IsSoundFlow sofar dataset) flows (as_flows columns flows dataset refl refl all.1); expectations = tested }

  by_flow : StreamLaw → FeedLaw → TargetLaw → (statements : List Statement) (resolved : List Resolved) → HoldsByFlow statements resolved sofar AreInto (IsSoundParts sofar level)
  by_flow streams feeds targets statements resolved = record {
    flow = λ mixed places table flows place name select all at.
        implied (flow_by mixed name select table sofar (slice_get resolved place)) (λ made one. with_flow places table flows place made all one)
        (flow_by_sound streams mixed name select table (slice_get resolved place) (has_apart places table flows all));
    feed = λ mixed place name feed. feed_by_sound level sofar below feeds targets mixed name feed (slice_get resolved place);
  }

  -- ---- a table

  declared_into : (columns : List Column) → AreApart same_column columns → AreInto [] (if_declared columns) []
  declared_into [] apart = refl
  declared_into (first ∷ more) apart = (apart, tt)

  begins_into : (items : List SqlItem) (select : Option Select) → item_repeat items ≡ None → AreInto [] (table_before items select) []
  begins_into items None none = declared_into (columns_declared items) (columns_differ items none)
  begins_into items (Some select) none = refl

  pub table_sound : StreamLaw → FeedLaw → TargetLaw → (statements : List Statement) (resolved : List Resolved) (place : ℕ) (name : List ℕ) (items : List SqlItem) (select : Option Select) → item_repeat items ≡ None →
      IfOk (table_parts statements resolved sofar place name items select) (IsSoundParts sofar level)
  table_sound streams feeds targets statements resolved place name items select none =
      table_holds statements resolved sofar AreInto (IsSoundParts sofar level) (by_flow streams feeds targets statements resolved) place name items select (begins_into items select none)
      (λ table flows all. append_sound (flow_places statements place name select) table flows all)
