-- When the parts of a plan fit the columns that they read and give.
use Rattle.std.specs.Prelude.{◌≡◌, ◌≢◌, ◌<◌, List, [], ◌∷◌, ◌++◌, ℕ, Bool, true, false, not, ◌&&◌, ◌||◌, if◌then◌else◌, IsTrue, All, AllPairs, nat_lt, find, length, map, slice_get, Option, Some, None, option_map, option_and_then}
use Rattle.std.specs.List.{list_all, list_any}
use Rattle.value_core.specs.declared.schema.Column.{Column}
use Rattle.value_core.specs.declared.value.Kind.{Kind}
use Rattle.value_core.specs.declared.value.Kind.TheVariants as kind
use Rattle.value_core.specs.NameFold.{same_name}
use Rattle.row_expr.specs.declared.expr.Expr.{Expr}
use Rattle.row_expr.specs.Columns.{reads_within}
use Rattle.row_expr.specs.Kinds.{is_condition, is_formed, kind_in, number, same_kind, sort_of}
use Rattle.plan_core.specs.declared.expectation.Expectation.{Expectation}
use Rattle.plan_core.specs.declared.flow.AppendFlow.{AppendFlow}
use Rattle.plan_core.specs.declared.flow.Cdc.{Cdc}
use Rattle.plan_core.specs.declared.flow.Origin.{Origin}
use Rattle.plan_core.specs.declared.flow.Origin.TheVariants as origin
use Rattle.plan_core.specs.declared.plan.Body.{Body}
use Rattle.plan_core.specs.declared.plan.Body.TheVariants as body
use Rattle.plan_core.specs.declared.plan.Dataset.{Dataset}
use Rattle.plan_core.specs.declared.query.Item.{Item}
use Rattle.plan_core.specs.declared.query.Item.TheVariants as item
use Rattle.plan_core.specs.declared.query.Query.{Query}

-- ---- names

-- the first dataset of that name but for the case of ASCII letters
abbrev pub dataset_named : List Dataset → List ℕ → Option Dataset
dataset_named plan name = find (λ dataset. same_name dataset.name name) plan

-- ---- expressions and places over columns of these kinds

abbrev pub kinds_of : List Column → List Kind
kinds_of columns = map (λ column. column.kind) columns

-- whether an expression is typed over them; its kind may be any
abbrev pub is_typed_over : List Kind → Expr → Bool
is_typed_over columns e = reads_within columns e && is_formed (sort_of e)

-- the kind of an expression that is typed over them and has one
abbrev pub kind_over : List Kind → Expr → Option Kind
kind_over columns e = if reads_within columns e then kind_in (sort_of e) else None

-- BOOLEAN, or NULL alone
abbrev pub is_condition_over : List Kind → Option Expr → Bool
is_condition_over columns None = true
is_condition_over columns (Some condition) = reads_within columns condition && is_condition (sort_of condition)

-- a list where each is there, and none where one is not
abbrev pub all_there : {A : Type 0} → List (Option A) → Option (List A)
all_there [] = Some []
all_there (None ∷ more) = None
all_there (Some a ∷ more) = option_map (λ others. a ∷ others) (all_there more)

-- the kinds of expressions that each have one
abbrev pub kinds_over : List Kind → List Expr → Option (List Kind)
kinds_over columns outputs = all_there (map (kind_over columns) outputs)

-- the kinds at places that are all in range
abbrev pub kinds_at : List Kind → List ℕ → Option (List Kind)
kinds_at columns places = all_there (map (λ at. slice_get columns at) places)

abbrev pub is_boolean : Option Kind → Bool
is_boolean (Some k) = same_kind k kind.Bool
is_boolean None = false

-- each test is BOOLEAN
abbrev pub are_sound_expectations : List Kind → List Expectation → Bool
are_sound_expectations columns expectations = list_all (λ expectation. is_boolean (kind_over columns expectation.test)) expectations

-- ---- flows and queries over columns of the first kinds, which give rows of the second

pub record IsSoundAppend (source target : List Kind) (flow : AppendFlow) : Type 0 where
  pub filter : IsTrue (is_condition_over source flow.filter)
  pub outputs : kinds_over source flow.outputs ≡ Some target

-- a change feed, with the kinds of its sequence and of its outputs
pub record IsSoundFeed (source sequences columns : List Kind) (cdc : Cdc) : Type 0 where
  pub delete_when : IsTrue (is_condition_over source cdc.delete_when)
  pub truncate_when : IsTrue (is_condition_over source cdc.truncate_when)
  pub sequence : kinds_at source cdc.sequence ≡ Some sequences
  pub outputs : kinds_at source cdc.outputs ≡ Some columns
  pub keys_in_range : All (λ at. at < length columns) cdc.keys
  pub tracked_in_range : All (λ at. at < length columns) cdc.tracked
  pub has_key : cdc.keys ≢ []
  pub one_sequence : IsTrue cdc.scd2 → length cdc.sequence ≡ 1
  pub no_truncate : IsTrue cdc.scd2 → cdc.truncate_when ≡ None

-- the kinds of the target of a change feed: its outputs, and for SCD type 2 where each row starts and ends
abbrev pub target_kinds : Bool → List Kind → List Kind → List Kind
target_kinds scd2 sequences columns = if scd2 then columns ++ sequences ++ sequences else columns

-- the kind of an item beside groups of these kinds; a count may be of any kind, a sum is of numbers
abbrev pub item_kind : List Kind → List Kind → Item → Option Kind
item_kind source groups (item.Key at) = slice_get groups at
item_kind source groups (item.Plain e) = kind_over source e
item_kind source groups item.CountAll = Some kind.Big
item_kind source groups (item.Count e) = if is_typed_over source e then Some kind.Big else None
item_kind source groups (item.Sum e) = if reads_within source e then option_map (λ k. kind.Big) (kind_in (number (sort_of e))) else None
item_kind source groups (item.Min e) = kind_over source e
item_kind source groups (item.Max e) = kind_over source e

abbrev pub is_plain : Item → Bool
is_plain (item.Plain e) = true
is_plain other = false

abbrev pub is_aggregate : Item → Bool
is_aggregate (item.Plain e) = false
is_aggregate (item.Key at) = false
is_aggregate other = true

abbrev pub is_empty : {A : Type 0} → List A → Bool
is_empty [] = true
is_empty (a ∷ more) = false

-- whether a query has groups or an aggregate
abbrev pub is_grouped : Query → Bool
is_grouped query = not (is_empty query.groups) || list_any is_aggregate query.items

pub record IsSoundQuery (source target : List Kind) (query : Query) : Type 0 where
  pub filter : IsTrue (is_condition_over source query.filter)
  pub group_kinds : List Kind
  pub groups : kinds_over source query.groups ≡ Some group_kinds
  pub items : all_there (map (item_kind source group_kinds) query.items) ≡ Some target
  pub no_plain : IsTrue (is_grouped query) → IsTrue (not (list_any is_plain query.items))

-- ---- plans

abbrev pub is_append : Body → Bool
is_append (body.Append flows) = true
is_append other = false

-- the columns that a flow of a dataset of this level reads: those of its lines, or of an append table of a lesser level
abbrev pub flow_columns : List Dataset → ℕ → Origin → Option (List Column)
flow_columns plan level (origin.Files dir shape) = Some shape.columns
flow_columns plan level (origin.Table name) = option_and_then (λ source. if nat_lt source.level level && is_append source.body then Some source.columns else None) (dataset_named plan name)

-- the columns that the query of a view of this level reads: those of a dataset of a lesser level
abbrev pub query_columns : List Dataset → ℕ → List ℕ → Option (List Column)
query_columns plan level name = option_and_then (λ source. if nat_lt source.level level then Some source.columns else None) (dataset_named plan name)

-- a flow that appends to a dataset of the plan
pub record IsSoundFlow (plan : List Dataset) (dataset : Dataset) (flow : AppendFlow) : Type 0 where
  pub source : List Column
  pub reads : flow_columns plan dataset.level flow.origin ≡ Some source
  pub gives : IsSoundAppend (kinds_of source) (kinds_of dataset.columns) flow

pub record IsSoundTable (plan : List Dataset) (dataset : Dataset) (flows : List AppendFlow) : Type 0 where
  pub each_flow : All (IsSoundFlow plan dataset) flows
  pub expectations : IsTrue (are_sound_expectations (kinds_of dataset.columns) dataset.expectations)

-- the expectations of the target of a change feed see the outputs alone
pub record IsSoundTarget (plan : List Dataset) (dataset : Dataset) (cdc : Cdc) : Type 0 where
  pub source : List Column
  pub sequences : List Kind
  pub columns : List Kind
  pub reads : flow_columns plan dataset.level cdc.origin ≡ Some source
  pub feed : IsSoundFeed (kinds_of source) sequences columns cdc
  pub gives : target_kinds cdc.scd2 sequences columns ≡ kinds_of dataset.columns
  pub expectations : IsTrue (are_sound_expectations columns dataset.expectations)

pub record IsSoundView (plan : List Dataset) (dataset : Dataset) (query : Query) : Type 0 where
  pub source : List Column
  pub reads : query_columns plan dataset.level query.origin ≡ Some source
  pub gives : IsSoundQuery (kinds_of source) (kinds_of dataset.columns) query
  pub expectations : IsTrue (are_sound_expectations (kinds_of dataset.columns) dataset.expectations)

abbrev pub IsSoundBody : List Dataset → Dataset → Body → Type 0
IsSoundBody plan dataset (body.Append flows) = IsSoundTable plan dataset flows
IsSoundBody plan dataset (body.Cdc cdc) = IsSoundTarget plan dataset cdc
IsSoundBody plan dataset (body.View query) = IsSoundView plan dataset query

-- the names of the datasets differ, and each dataset fits what it reads and gives
pub record IsSoundPlan (plan : List Dataset) : Type 0 where
  pub names_differ : AllPairs (λ a b. IsTrue (not (same_name a.name b.name))) plan
  pub each_dataset : All (λ dataset. IsSoundBody plan dataset dataset.body) plan
