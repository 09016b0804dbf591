-- Reading definitions and batches from the front of bytes.
use Rattle.std.specs.Prelude.{ℕ, List, Option, Some, None, if◌then◌else◌, ◌==◌, length}
use Rattle.segment_rows.specs.Reading.{◌>>=◌, number_at, text_at, rows_at, items_at, list_at, both_at, made_at, coded_at, tagged_at, kind_of, column_at, cursor_at, change_at, tally_at, event_at}
use Rattle.commit_payloads.specs.declared.definition.StoredBody.{StoredBody}
use Rattle.commit_payloads.specs.declared.definition.StoredBody.TheVariants.{Append, Scd1, Scd2, View}
use Rattle.commit_payloads.specs.declared.definition.StoredAction.{StoredAction}
use Rattle.commit_payloads.specs.declared.definition.StoredAction.TheVariants.{Warn, DropRow, FailUpdate}
use Rattle.commit_payloads.specs.declared.definition.StoredOrigin.{StoredOrigin}
use Rattle.commit_payloads.specs.declared.definition.StoredOrigin.TheVariants.{Folder, Table}
use Rattle.commit_payloads.specs.declared.definition.StoredExpectation.{StoredExpectation}
use Rattle.commit_payloads.specs.declared.definition.StoredFlow.{StoredFlow}
use Rattle.commit_payloads.specs.declared.definition.Definition.{Definition}
use Rattle.commit_payloads.specs.declared.state.DatasetState.{DatasetState}
use Rattle.commit_payloads.specs.declared.state.State.{State}
use Rattle.commit_payloads.specs.declared.take.Refresh.{Refresh}
use Rattle.commit_payloads.specs.declared.take.Take.{Take}

abbrev pub body_of : ℕ → Option StoredBody
body_of byte = if byte == 0 then Some Append else (if byte == 1 then Some Scd1 else (if byte == 2 then Some Scd2 else (if byte == 3 then Some View else None)))

abbrev pub action_of : ℕ → Option StoredAction
action_of byte = if byte == 0 then Some Warn else (if byte == 1 then Some DropRow else (if byte == 2 then Some FailUpdate else None))

abbrev pub expectation_at : List ℕ → Option (StoredExpectation × List ℕ)
expectation_at = made_at (λ parts. record { name = parts.0; action = parts.1 }) (both_at text_at (coded_at action_of))

abbrev pub origin_by : ℕ → List ℕ → Option (StoredOrigin × List ℕ)
origin_by tag rest = if tag == 0 then made_at Folder text_at rest else (if tag == 1 then made_at Table text_at rest else None)

abbrev pub origin_at : List ℕ → Option (StoredOrigin × List ℕ)
origin_at = tagged_at origin_by

abbrev pub flow_at : List ℕ → Option (StoredFlow × List ℕ)
flow_at = made_at (λ parts. record { name = parts.0; origin = parts.1 }) (both_at text_at origin_at)

abbrev pub definition_at : List ℕ → Option (Definition × List ℕ)
definition_at =
    made_at
    (λ parts. record {
      name = parts.0.0.0.0.0.0.0;
      text = parts.0.0.0.0.0.0.1;
      body = parts.0.0.0.0.0.1;
      columns = parts.0.0.0.0.1;
      expectations = parts.0.0.0.1;
      flows = parts.0.0.1;
      keys = parts.0.1;
      sequence = parts.1;
    })
    (both_at (both_at (both_at (both_at (both_at (both_at (both_at text_at text_at) (coded_at body_of)) (list_at column_at)) (list_at expectation_at)) (list_at flow_at)) (list_at number_at)) (list_at (coded_at kind_of)))

abbrev pub take_at : List ℕ → Option (Take × List ℕ)
take_at =
    made_at
    (λ parts. record {
      table = parts.0.0.0.0.0;
      flow = parts.0.0.0.0.1;
      cursor = parts.0.0.0.1;
      change = parts.0.0.1;
      counts = parts.0.1;
      events = parts.1;
    })
    (both_at (both_at (both_at (both_at (both_at text_at text_at) cursor_at) change_at) (list_at tally_at)) (list_at event_at))

abbrev pub refresh_at : List ℕ → Option (Refresh × List ℕ)
refresh_at = made_at (λ parts. record { view = parts.0.0.0; cursor = parts.0.0.1; change = parts.0.1; counts = parts.1 }) (both_at (both_at (both_at text_at cursor_at) change_at) (list_at tally_at))

abbrev pub dataset_state_at : List ℕ → Option (DatasetState × List ℕ)
dataset_state_at =
    made_at
    (λ parts. record {
      base = parts.0.0.0.0.0;
      rows = parts.0.0.0.0.1;
      changes = parts.0.0.0.1;
      cursors = parts.0.0.1;
      counts = parts.0.1;
      events = parts.1;
    })
    (both_at (both_at (both_at (both_at (both_at number_at rows_at) (list_at change_at)) (list_at cursor_at)) (list_at tally_at)) (list_at event_at))

-- definitions, and then a state for each of them
abbrev pub state_at : List ℕ → Option (State × List ℕ)
state_at bytes = do
  list ← list_at definition_at bytes
  states ← items_at dataset_state_at (length list.0) list.1
  Some (record { list = list.0; states = states.0 }, states.1)
