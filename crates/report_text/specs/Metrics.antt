-- The counts of a store's expectations as they are printed.
use Rattle.std.specs.Prelude.{ℕ, List, [], ◌∷◌, ◌++◌, codes}
use Rattle.std.specs.Fmt.{decimal}
use Rattle.std.specs.List.{flat_map}
use Rattle.value_core.specs.declared.change.Tally.{Tally}
use Rattle.commit_payloads.specs.declared.definition.StoredAction.{StoredAction}
use Rattle.commit_payloads.specs.declared.definition.StoredAction.TheVariants.{Warn, DropRow, FailUpdate}
use Rattle.commit_payloads.specs.declared.definition.StoredExpectation.{StoredExpectation}
use Rattle.state_model.specs.Dataset.{Dataset, State}
use Rattle.report_text.specs.Words.{print_line, print_word}

-- what happens to a row that fails
abbrev pub action_word : StoredAction → List ℕ
action_word Warn = codes "warn"
action_word DropRow = codes "drop"
action_word FailUpdate = codes "fail"

-- whose expectation, which one, and what happens to a row that fails
abbrev pub print_expectation : List ℕ → StoredExpectation → List ℕ
print_expectation dataset expectation = print_word dataset ++ (codes "|" ++ print_word expectation.name) ++ (codes "|" ++ action_word expectation.action)

-- how many rows passed and how many failed
abbrev pub print_tally : Tally → List ℕ
print_tally tally = (codes "|" ++ decimal tally.passed) ++ (codes "|" ++ decimal tally.failed)

abbrev pub tally_line : List ℕ → StoredExpectation → Tally → List ℕ
tally_line dataset expectation tally = print_line (print_expectation dataset expectation ++ print_tally tally)

-- a line an expectation that has a count
abbrev pub tally_lines : List ℕ → List StoredExpectation → List Tally → List ℕ
tally_lines dataset [] tallies = []
tally_lines dataset (expectation ∷ more) [] = []
tally_lines dataset (expectation ∷ more) (tally ∷ tallies) = tally_line dataset expectation tally ++ tally_lines dataset more tallies

-- the lines of a dataset
abbrev pub dataset_metrics : Dataset → List ℕ
dataset_metrics dataset = tally_lines dataset.definition.name dataset.definition.expectations dataset.counts

-- the first line
abbrev pub metrics_head : List ℕ
metrics_head = print_line (codes "dataset|expectation|action|passed|failed")

-- the first line, and then the lines of each dataset in stored order
abbrev pub print_metrics : State → List ℕ
print_metrics state = metrics_head ++ flat_map dataset_metrics state
