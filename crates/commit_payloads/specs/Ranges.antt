-- Which definitions and batches the types may hold: numbers have so many bits, and texts are UTF-8.
use Rattle.std.specs.Prelude.{◌≡◌, ⊤, length}
use Rattle.std.specs.List.{AllByRecursion}
use Rattle.segment_rows.specs.Ranges.{IsNumber, IsText, IsList, IsColumn, IsCursor, IsChange, IsTally, IsEvent, AreRows}
use Rattle.commit_payloads.specs.declared.definition.StoredOrigin.{StoredOrigin}
use Rattle.commit_payloads.specs.declared.definition.StoredOrigin.TheVariants.{Folder, Table}
use Rattle.commit_payloads.specs.declared.definition.StoredExpectation.{StoredExpectation}
use Rattle.commit_payloads.specs.declared.definition.StoredFlow.{StoredFlow}
use Rattle.commit_payloads.specs.declared.definition.Definition.{Definition}
use Rattle.commit_payloads.specs.declared.state.DatasetState.{DatasetState}
use Rattle.commit_payloads.specs.declared.state.State.{State}
use Rattle.commit_payloads.specs.declared.take.Refresh.{Refresh}
use Rattle.commit_payloads.specs.declared.take.Take.{Take}

abbrev pub IsExpectation : StoredExpectation → Type 0
IsExpectation expectation = IsText expectation.name × ⊤

abbrev pub IsOrigin : StoredOrigin → Type 0
IsOrigin (Folder folder) = IsText folder
IsOrigin (Table name) = IsText name

abbrev pub IsFlow : StoredFlow → Type 0
IsFlow flow = IsText flow.name × IsOrigin flow.origin

abbrev pub IsDefinition : Definition → Type 0
IsDefinition definition =
    ((((((IsText definition.name × IsText definition.text) × ⊤) × IsList IsColumn definition.columns) × IsList IsExpectation definition.expectations) × IsList IsFlow definition.flows)
    × IsList IsNumber definition.keys)
    × IsList (λ kind. ⊤) definition.sequence

abbrev pub IsTake : Take → Type 0
IsTake take =
    ((((IsText take.table × IsText take.flow) × IsCursor take.cursor) × IsChange take.change) × IsList IsTally take.counts) × IsList IsEvent take.events

abbrev pub IsRefresh : Refresh → Type 0
IsRefresh refresh = ((IsText refresh.view × IsCursor refresh.cursor) × IsChange refresh.change) × IsList IsTally refresh.counts

abbrev pub IsDatasetState : DatasetState → Type 0
IsDatasetState state =
    ((((IsNumber state.base × AreRows state.rows) × IsList IsChange state.changes) × IsList IsCursor state.cursors) × IsList IsTally state.counts) × IsList IsEvent state.events

-- one state a definition
abbrev pub IsState : State → Type 0
IsState state = IsList IsDefinition state.list × (length state.states ≡ length state.list) × AllByRecursion IsDatasetState state.states
