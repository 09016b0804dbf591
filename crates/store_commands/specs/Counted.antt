-- The lines of counts, by name.
use Rattle.std.specs.Prelude.{ℕ, List, [], Option, Some, None}
use Rattle.commit_payloads.specs.declared.definition.Definition.{Definition}
use Rattle.value_core.specs.declared.change.Tally.{Tally}
use Rattle.state_model.specs.Dataset.{State, dataset_of}
use Rattle.store_tables.specs.Parts.{counts_of}
use Rattle.std.specs.Option.{option_map}
use Rattle.report_text.specs.Metrics.{tally_lines}

-- the lines of a definition whose counts were found
abbrev pub lines_with : Definition → Option (List Tally) → List ℕ
lines_with definition None = []
lines_with definition (Some counts) = tally_lines definition.name definition.expectations counts

-- the lines of a definition with the counts of the dataset of its name
abbrev pub lines_in : State → Definition → List ℕ
lines_in state definition = lines_with definition (option_map counts_of (dataset_of state definition.name))
