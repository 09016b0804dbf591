-- Which definitions and batches the types may hold: numbers have so many bits, and texts are UTF-8.
use Rattle.std.specs.Prelude.{⊤}
use Rattle.segment_rows.specs.Ranges.{IsNumber, IsText, IsList, IsColumn, IsCursor, IsChange, IsTally, IsEvent}
use Rattle.commit_records.specs.declared.definition.StoredOrigin.{StoredOrigin}
use Rattle.commit_records.specs.declared.definition.StoredOrigin.TheVariants.{Folder, Table}
use Rattle.commit_records.specs.declared.definition.StoredExpectation.{StoredExpectation}
use Rattle.commit_records.specs.declared.definition.StoredFlow.{StoredFlow}
use Rattle.commit_records.specs.declared.definition.Definition.{Definition}
use Rattle.commit_records.specs.declared.take.Take.{Take}

abbrev pub IsExpectation : StoredExpectation → Type 0
IsExpectation expectation = IsText expectation.name × ⊤

abbrev pub IsOrigin : StoredOrigin → Type 0
IsOrigin (Folder folder) = IsText folder
IsOrigin (Table name) = IsText name

abbrev pub IsFlow : StoredFlow → Type 0
IsFlow flow = IsText flow.name × IsOrigin flow.origin

abbrev pub IsDefinition : Definition → Type 0
IsDefinition definition =
    ((((((IsText definition.name × IsText definition.text) × ⊤) × IsList IsColumn definition.columns) × IsList IsExpectation definition.expectations) × IsList IsFlow definition.flows)
    × IsList IsNumber definition.keys)
    × IsList (λ kind. ⊤) definition.sequence

abbrev pub IsTake : Take → Type 0
IsTake take =
    ((((IsText take.table × IsText take.flow) × IsCursor take.cursor) × IsChange take.change) × IsList IsTally take.counts) × IsList IsEvent take.events
