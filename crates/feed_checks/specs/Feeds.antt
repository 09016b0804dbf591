-- What a change feed gives over the columns that it reads, or the first check that it breaks (Databricks SQL reference, AUTO
-- CDC INTO; the pages on SCD types 1 and 2).
use Rattle.std.specs.Prelude.{◌≡◌, ⊤, ℕ, Bool, ◌&&◌, ◌||◌, if◌then◌else◌, List, [], ◌∷◌, ◌++◌, map, codes, Option, Some, None, not, is_some, option_map, Result, Ok, Err}
use Rattle.sql_tree.specs.declared.expr.SqlExpr.{SqlExpr}
use Rattle.sql_tree.specs.declared.statement.CdcTree.{CdcTree}
use Rattle.sql_tree.specs.declared.statement.SqlSequence.{SqlSequence}
use Rattle.value_core.specs.declared.schema.Column.{Column}
use Rattle.value_core.specs.declared.value.Kind.{Kind}
use Rattle.row_expr.specs.declared.expr.Expr.{Expr}
use Rattle.row_expr.specs.Kinds.{is_condition, sort_of}
use Rattle.expr_typing.specs.Typing.{Mistyped, Mismatch, UnknownName as NoColumn, first_of, first_unknown, has_column, if_unknown, typing}
use Rattle.plan_core.specs.declared.flow.Cdc.{Cdc}
use Rattle.plan_core.specs.declared.flow.Origin.{Origin}
use Rattle.plan_core.specs.Sound.{is_empty, kinds_of}
use Rattle.statement_checks.specs.declared.fault.CheckFault.{CheckFault}
use Rattle.statement_checks.specs.declared.fault.CheckFault.TheVariants.{BadOption, Duplicate, KeyNotOutput, StructSequence, TruncateScd2, TypeMismatch, UnknownName}
use Rattle.statement_checks.specs.Declares.{some_names}
use Rattle.statement_checks.specs.Limits.{Check}
use Rattle.feed_checks.specs.declared.parts.Conditions.{Conditions}
use Rattle.feed_checks.specs.declared.parts.FeedColumns.{FeedColumns}
use Rattle.feed_checks.specs.declared.parts.FeedEnd.{FeedEnd}
use Rattle.feed_checks.specs.declared.parts.FeedEnd.TheVariants as end
use Rattle.feed_checks.specs.declared.parts.FeedParts.{FeedParts}
use Rattle.feed_checks.specs.Places.{columns_at, places_named, some_places}
use Rattle.feed_checks.specs.Clauses.{sequence_names, is_struct, keeps_history, given_columns, sequence_columns, is_period_name, target_columns}

-- ---- what a check gives, or how it is broken

abbrev pub ByChecks : Type 0 → Type 0
ByChecks A = Result A CheckFault

abbrev pub then_checked : {A B : Type 0} → ByChecks A → (A → ByChecks B) → ByChecks B
then_checked (Ok a) f = f a
then_checked (Err fault) f = Err fault

infixl 10 ◌>>=◌
abbrev pub ◌>>=◌ : {A B : Type 0} → ByChecks A → (A → ByChecks B) → ByChecks B
given >>= f = then_checked given f

abbrev pub passed : Check → ByChecks (Unit {0})
passed None = Ok tt
passed (Some fault) = Err fault

-- ---- names

-- the first of these names that no column has
abbrev pub stray_name : List Column → List (List ℕ) → Option (List ℕ)
stray_name columns names = first_of (map (if_unknown columns) names)

-- the first name in a condition that no column has
abbrev pub stray_in : List Column → Option SqlExpr → Option (List ℕ)
stray_in columns None = None
stray_in columns (Some tree) = first_unknown columns tree

-- the first such name behind the conditions
abbrev pub stray_behind : CdcTree → List Column → List Column → Option (List ℕ)
stray_behind feed source given = first_of (
    stray_name source (sequence_names feed.sequence) ∷
    stray_name source (some_names feed.columns) ∷
    stray_name given (some_names feed.track) ∷ [])

-- the first name in the text that is no column: of the source, and behind TRACK HISTORY ON of the outputs
abbrev pub stray_of_feed : CdcTree → List Column → List Column → Option (List ℕ)
stray_of_feed feed source given = first_of (
    stray_name source feed.keys ∷
    stray_in source feed.delete_when ∷
    stray_in source feed.truncate_when ∷
    stray_behind feed source given ∷ [])

-- each name is a column
abbrev pub feed_names_known : CdcTree → List Column → List Column → Check
feed_names_known feed source given = option_map UnknownName (stray_of_feed feed source given)

-- ---- conditions

abbrev pub condition_as : Expr → ByChecks (Option Expr)
condition_as made = if is_condition (sort_of made) then Ok (Some made) else Err TypeMismatch

abbrev pub condition_by : Result Expr Mistyped → ByChecks (Option Expr)
condition_by (Ok made) = condition_as made
condition_by (Err (NoColumn name)) = Err (UnknownName name)
condition_by (Err Mismatch) = Err TypeMismatch

-- a condition, typed over the columns: a BOOLEAN, or NULL
abbrev pub condition_over : List Column → Option SqlExpr → ByChecks (Option Expr)
condition_over columns None = Ok None
condition_over columns (Some tree) = condition_by (typing columns tree)

abbrev pub conditions_with : Option Expr → Option Expr → Conditions
conditions_with delete truncate = record { delete_when = delete; truncate_when = truncate }

abbrev pub conditions_of : CdcTree → List Column → ByChecks Conditions
conditions_of feed source = do
  delete ← condition_over source feed.delete_when
  truncate ← condition_over source feed.truncate_when
  Ok (conditions_with delete truncate)

-- ---- the other checks, in their order

abbrev pub has_no_part : SqlSequence → Bool
has_no_part sequence = is_empty (sequence_names sequence)

-- KEYS and the sequence have at least one part, as in every text
abbrev pub has_parts : CdcTree → Check
has_parts feed = if is_empty feed.keys || has_no_part feed.sequence then Some TypeMismatch else None

-- each key is an output
abbrev pub keys_given : CdcTree → List Column → Check
keys_given feed given = option_map KeyNotOutput (stray_name given feed.keys)

-- no truncate clause stands with SCD type 2
abbrev pub no_truncate : CdcTree → Check
no_truncate feed = if keeps_history feed && is_some feed.truncate_when then Some TruncateScd2 else None

-- no STRUCT stands with SCD type 2
abbrev pub no_struct : CdcTree → Check
no_struct feed = if keeps_history feed && is_struct feed.sequence then Some StructSequence else None

-- an earlier output has the name, or for SCD type 2 a column that the target has besides
abbrev pub is_name_taken : Bool → List Column → List ℕ → Bool
is_name_taken history before name = (history && is_period_name name) || has_column before name

-- among outputs behind others, the name of the first whose name is taken
abbrev pub taken_behind : Bool → List Column → List Column → Option (List ℕ)
taken_behind history before [] = None
taken_behind history before (first ∷ more) = if is_name_taken history before first.name then Some first.name else taken_behind history (before ++ first ∷ []) more

abbrev pub first_taken : Bool → List Column → Option (List ℕ)
first_taken history = taken_behind history []

-- the columns of the target differ in name
abbrev pub outputs_differ : CdcTree → List Column → Check
outputs_differ feed given = option_map Duplicate (first_taken (keeps_history feed) given)

abbrev pub feed_checks : CdcTree → List Column → List Check
feed_checks feed given =
    has_parts feed ∷
    keys_given feed given ∷
    no_truncate feed ∷
    no_struct feed ∷
    outputs_differ feed given ∷ []

-- ---- what it gives

-- the clauses that name columns: KEYS and TRACK HISTORY ON as places among the outputs, the others among those of the source
abbrev pub columns_with : CdcTree → List Column → List Column → FeedColumns
columns_with feed source given = record {
  keys = places_named given feed.keys;
  sequence = places_named source (sequence_names feed.sequence);
  outputs = some_places source feed.columns;
  tracked = some_places given feed.track;
  given = given;
  columns = target_columns (keeps_history feed) (sequence_columns feed source) given;
}

abbrev pub parts_with : CdcTree → FeedColumns → Conditions → FeedParts
parts_with feed columns made = record {
  keys = columns.keys;
  sequence = columns.sequence;
  delete_when = made.delete_when;
  truncate_when = made.truncate_when;
  outputs = columns.outputs;
  ignore_null = feed.ignore_null;
  scd2 = keeps_history feed;
  tracked = columns.tracked;
  given = columns.given;
  columns = columns.columns;
}

-- behind the conditions
abbrev pub parts_behind : CdcTree → List Column → List Column → Conditions → ByChecks FeedParts
parts_behind feed source given made = do
  _ ← passed (first_of (feed_checks feed given))
  Ok (parts_with feed (columns_with feed source given) made)

-- over outputs
abbrev pub parts_over : CdcTree → List Column → List Column → ByChecks FeedParts
parts_over feed source given = do
  _ ← passed (feed_names_known feed source given)
  made ← conditions_of feed source
  parts_behind feed source given made

-- What a change feed gives over the columns of its source, or the first check that it breaks: the names, the conditions, and
-- then the checks of the outputs.
abbrev pub feed_parts : CdcTree → List Column → ByChecks FeedParts
feed_parts feed source = parts_over feed source (given_columns feed source)

-- TRACK HISTORY ON stands with SCD type 2 alone; this is told before what the source is found to be
abbrev pub track_fault : CdcTree → Check
track_fault feed = if is_some feed.track && not (keeps_history feed) then Some (BadOption (codes "TRACK")) else None

-- the flow of that name over that origin
abbrev pub feed_flow : List ℕ → Origin → FeedParts → Cdc
feed_flow name origin parts = record {
  name = name;
  origin = origin;
  keys = parts.keys;
  sequence = parts.sequence;
  delete_when = parts.delete_when;
  truncate_when = parts.truncate_when;
  outputs = parts.outputs;
  ignore_null = parts.ignore_null;
  scd2 = parts.scd2;
  tracked = parts.tracked;
}

-- the kinds of its sequence
abbrev pub sequence_kinds : List Column → FeedParts → List Kind
sequence_kinds source parts = kinds_of (columns_at source parts.sequence)

-- ---- clauses

-- a call gives what is meant, or fails for want of memory
abbrev pub FeedTells : {A : Type 0} → ByChecks A → Result A FeedEnd → Type 0
FeedTells meant (Ok made) = meant ≡ Ok made
FeedTells meant (Err (end.Fault fault)) = meant ≡ Err fault
FeedTells meant (Err end.Memory) = ⊤
