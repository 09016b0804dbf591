use Rattle.std.proofs.Common.{◌≡◌, ◌++◌, take}
use Rattle.std.specs.List.{flat_map, AllByRecursion}
use Rattle.commit_payloads.specs.Ranges.{IsDatasetState}
use Rattle.commit_payloads.specs.Spelling.{spelled_dataset_state}
use Rattle.commit_payloads.proofs.state_field.put_states.Given as goal

abbrev pub invariant-loop-state : goal.invariant-loop-state
invariant-loop-state l = record {
  bytes : l.out.items ≡ l.initial.out.items ++ flat_map spelled_dataset_state (take l.state-index l.states);
  range : AllByRecursion IsDatasetState (take l.state-index l.states);
}
