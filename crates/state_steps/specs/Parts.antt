-- The parts of a stored dataset: its dataset in a checked plan.
use Rattle.std.specs.Prelude.{◌≡◌, ⊤, ℕ, List, [], ◌∷◌, true, map, if◌then◌else◌, option_and_then, unwrap_or}
use Rattle.value_core.specs.declared.value.Kind.{Kind}
use Rattle.line_rows.specs.Lines.{keeps_text}
use Rattle.plan_core.specs.declared.expectation.Action.{Action}
use Rattle.plan_core.specs.declared.expectation.Action.TheVariants as action
use Rattle.plan_core.specs.declared.expectation.Expectation.{Expectation}
use Rattle.plan_core.specs.declared.flow.AppendFlow.{AppendFlow}
use Rattle.plan_core.specs.declared.flow.Origin.{Origin}
use Rattle.plan_core.specs.declared.flow.Origin.TheVariants as origin
use Rattle.plan_core.specs.declared.plan.Body.{Body}
use Rattle.plan_core.specs.declared.plan.Body.TheVariants as body
use Rattle.plan_core.specs.declared.plan.Dataset.{Dataset as Part}
use Rattle.plan_core.specs.Sound.{flow_columns, kinds_at, kinds_of}
use Rattle.commit_payloads.specs.declared.definition.Definition.{Definition}
use Rattle.commit_payloads.specs.declared.definition.StoredAction.{StoredAction}
use Rattle.commit_payloads.specs.declared.definition.StoredAction.TheVariants as kept
use Rattle.commit_payloads.specs.declared.definition.StoredBody.{StoredBody}
use Rattle.commit_payloads.specs.declared.definition.StoredBody.TheVariants as stored
use Rattle.commit_payloads.specs.declared.definition.StoredExpectation.{StoredExpectation}
use Rattle.commit_payloads.specs.declared.definition.StoredFlow.{StoredFlow}
use Rattle.commit_payloads.specs.declared.definition.StoredOrigin.{StoredOrigin}
use Rattle.commit_payloads.specs.declared.definition.StoredOrigin.TheVariants.{Folder, Table}

abbrev pub stored_action : Action → StoredAction
stored_action action.Warn = kept.Warn
stored_action action.DropRow = kept.DropRow
stored_action action.FailUpdate = kept.FailUpdate

abbrev pub stored_expectation : Expectation → StoredExpectation
stored_expectation expectation = record { name = expectation.name; action = stored_action expectation.action }

abbrev pub stored_origin : Origin → StoredOrigin
stored_origin (origin.Files dir shape) = Folder dir
stored_origin (origin.Table name) = Table name

abbrev pub stored_flow : AppendFlow → StoredFlow
stored_flow flow = record { name = flow.name; origin = stored_origin flow.origin }

-- a view has one flow, of its own name
abbrev pub stored_flows : Part → Body → List StoredFlow
stored_flows part (body.Append flows) = map stored_flow flows
stored_flows part (body.Cdc cdc) = record { name = cdc.name; origin = stored_origin cdc.origin } ∷ []
stored_flows part (body.View query) = record { name = part.name; origin = Table query.origin } ∷ []

abbrev pub stored_body : Body → StoredBody
stored_body (body.Append flows) = stored.Append
stored_body (body.Cdc cdc) = if cdc.scd2 then stored.Scd2 else stored.Scd1
stored_body (body.View query) = stored.View

-- the places of the keys of its events among its columns
abbrev pub stored_keys : Body → List ℕ
stored_keys (body.Cdc cdc) = cdc.keys
stored_keys other = []

-- the kinds of what orders the events of a key, which stand among the columns that the change feed reads
abbrev pub sequence_kinds : List Part → Part → Body → List Kind
sequence_kinds plan part (body.Cdc cdc) = unwrap_or (option_and_then (λ columns. kinds_at (kinds_of columns) cdc.sequence) (flow_columns plan part.level cdc.origin)) []
sequence_kinds plan part other = []

-- the stored definition of a dataset of a plan
abbrev pub definition_of : List Part → Part → Definition
definition_of plan part = record {
  name = part.name;
  text = part.text;
  body = stored_body part.body;
  columns = part.columns;
  expectations = map stored_expectation part.expectations;
  flows = stored_flows part part.body;
  keys = stored_keys part.body;
  sequence = sequence_kinds plan part part.body;
}

-- a stored definition is that of these parts; the kinds of its sequence are its plan's to say
pub record IsOf (part : Part) (definition : Definition) : Type 0 where
  pub name : definition.name ≡ part.name
  pub text : definition.text ≡ part.text
  pub body : definition.body ≡ stored_body part.body
  pub columns : definition.columns ≡ part.columns
  pub expectations : definition.expectations ≡ map stored_expectation part.expectations
  pub flows : definition.flows ≡ stored_flows part part.body
  pub keys : definition.keys ≡ stored_keys part.body

-- ---- kinds

-- what the flows of a streaming table read; a view reads no stream
abbrev pub streams_of : Body → List Origin
streams_of (body.Append flows) = map (λ flow. flow.origin) flows
streams_of (body.Cdc cdc) = cdc.origin ∷ []
streams_of (body.View query) = []

-- a rescued column of files is a STRING
abbrev pub KeepsText : Origin → Type 0
KeepsText (origin.Files dir shape) = keeps_text shape ≡ true
KeepsText (origin.Table name) = ⊤

-- so it is of each of these
abbrev pub AllKeepText : List Origin → Type 0
AllKeepText [] = ⊤
AllKeepText (from ∷ origins) = KeepsText from × AllKeepText origins

-- a stored sequence has the kinds that its plan gives it, and rescued text is kept in a STRING
pub record IsTyped (plan : List Part) (part : Part) (definition : Definition) : Type 0 where
  pub sequence : definition.sequence ≡ sequence_kinds plan part part.body
  pub texts : AllKeepText (streams_of part.body)

-- each definition is so, one part a definition
abbrev pub AreTyped : List Part → List Part → List Definition → Type 0
AreTyped plan [] [] = ⊤
AreTyped plan [] (definition ∷ list) = ⊥
AreTyped plan (part ∷ parts) [] = ⊥
AreTyped plan (part ∷ parts) (definition ∷ list) = IsTyped plan part definition × AreTyped plan parts list
