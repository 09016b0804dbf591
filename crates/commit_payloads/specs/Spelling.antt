-- How definitions and batches are spelled in bytes.
use Rattle.std.specs.Prelude.{ℕ, List, [], ◌∷◌, ◌++◌}
use Rattle.std.specs.List.{flat_map}
use Rattle.segment_rows.specs.Spelling.{spelled_number, spelled_text, spelled_list, spelled_kind, spelled_column, spelled_cursor, spelled_change, spelled_tally, spelled_event, spelled_rows}
use Rattle.commit_payloads.specs.declared.definition.StoredBody.{StoredBody}
use Rattle.commit_payloads.specs.declared.definition.StoredBody.TheVariants.{Append, Scd1, Scd2, View}
use Rattle.commit_payloads.specs.declared.definition.StoredAction.{StoredAction}
use Rattle.commit_payloads.specs.declared.definition.StoredAction.TheVariants.{Warn, DropRow, FailUpdate}
use Rattle.commit_payloads.specs.declared.definition.StoredOrigin.{StoredOrigin}
use Rattle.commit_payloads.specs.declared.definition.StoredOrigin.TheVariants.{Folder, Table}
use Rattle.commit_payloads.specs.declared.definition.StoredExpectation.{StoredExpectation}
use Rattle.commit_payloads.specs.declared.definition.StoredFlow.{StoredFlow}
use Rattle.commit_payloads.specs.declared.definition.Definition.{Definition}
use Rattle.commit_payloads.specs.declared.state.DatasetState.{DatasetState}
use Rattle.commit_payloads.specs.declared.state.State.{State}
use Rattle.commit_payloads.specs.declared.take.Refresh.{Refresh}
use Rattle.commit_payloads.specs.declared.take.Take.{Take}

abbrev pub body_byte : StoredBody → ℕ
body_byte Append = 0
body_byte Scd1 = 1
body_byte Scd2 = 2
body_byte View = 3

abbrev pub spelled_body : StoredBody → List ℕ
spelled_body body = body_byte body ∷ []

abbrev pub action_byte : StoredAction → ℕ
action_byte Warn = 0
action_byte DropRow = 1
action_byte FailUpdate = 2

abbrev pub spelled_action : StoredAction → List ℕ
spelled_action action = action_byte action ∷ []

abbrev pub spelled_expectation : StoredExpectation → List ℕ
spelled_expectation expectation = spelled_text expectation.name ++ spelled_action expectation.action

abbrev pub spelled_origin : StoredOrigin → List ℕ
spelled_origin (Folder folder) = 0 ∷ spelled_text folder
spelled_origin (Table name) = 1 ∷ spelled_text name

abbrev pub spelled_flow : StoredFlow → List ℕ
spelled_flow flow = spelled_text flow.name ++ spelled_origin flow.origin

abbrev pub spelled_definition : Definition → List ℕ
spelled_definition definition =
    spelled_text definition.name ++ spelled_text definition.text ++ spelled_body definition.body ++ spelled_list spelled_column definition.columns
    ++ spelled_list spelled_expectation definition.expectations ++ spelled_list spelled_flow definition.flows ++ spelled_list spelled_number definition.keys
    ++ spelled_list spelled_kind definition.sequence

abbrev pub spelled_take : Take → List ℕ
spelled_take take =
    spelled_text take.table ++ spelled_text take.flow ++ spelled_cursor take.cursor ++ spelled_change take.change
    ++ spelled_list spelled_tally take.counts ++ spelled_list spelled_event take.events

abbrev pub spelled_refresh : Refresh → List ℕ
spelled_refresh refresh = spelled_text refresh.view ++ spelled_cursor refresh.cursor ++ spelled_change refresh.change ++ spelled_list spelled_tally refresh.counts

abbrev pub spelled_dataset_state : DatasetState → List ℕ
spelled_dataset_state state =
    spelled_number state.base ++ spelled_rows state.rows ++ spelled_list spelled_change state.changes ++ spelled_list spelled_cursor state.cursors
    ++ spelled_list spelled_tally state.counts ++ spelled_list spelled_event state.events

-- definitions, and then the state of each of them, whose number is not said again
abbrev pub spelled_state : State → List ℕ
spelled_state state = spelled_list spelled_definition state.list ++ flat_map spelled_dataset_state state.states
