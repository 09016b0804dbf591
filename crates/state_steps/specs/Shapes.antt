-- Of what shape the rows of a store are, and what its plan says of them.
use Rattle.std.specs.Prelude.{◌≡◌, ◌≤◌, ◌^◌, true, false, List, [], Bool, ◌&&◌, map}
use Rattle.std.specs.List.{AllByRecursion, list_all}
use Rattle.value_core.specs.Bags.{IsInOrder}
use Rattle.net_changes.specs.Chains.{Follow}
use Rattle.commit_payloads.specs.declared.payload.Payload.{Payload}
use Rattle.commit_payloads.specs.declared.payload.Payload.TheVariants as payload
use Rattle.plan_core.specs.declared.plan.Dataset.{Dataset as Part}
use Rattle.state_model.specs.After.{no_tally}
use Rattle.state_model.specs.Dataset.{Dataset, State, definitions_of, version_of}
use Rattle.state_model.specs.Follows.{all_fit, counts_fit, keeps_events}
use Rattle.state_steps.specs.Parts.{AreTyped}

-- the rows at the base, and those that later changes add, fit the columns
abbrev pub is_shaped : Dataset → Bool
is_shaped dataset = all_fit dataset.definition.columns dataset.table.rows && list_all (λ change. all_fit dataset.definition.columns change.added) dataset.table.changes

-- a dataset as it is kept: rows stand in row order, each change finds the rows that it removes, counts are below their limit,
-- and only a change feed keeps events
pub record IsKeptWell (dataset : Dataset) : Type 0 where
  pub order : IsInOrder dataset.table.rows
  pub follow : Follow dataset.table.rows dataset.table.changes
  pub within : counts_fit (map no_tally dataset.definition.expectations) dataset.counts ≡ true
  pub no_events : keeps_events dataset.definition.body ≡ false → dataset.events ≡ []

-- all rows of a store fit their columns, each dataset is as it is kept, and its definitions are typed as its plan says
pub record AllHaveShape (parts : List Part) (state : State) : Type 0 where
  pub rows : list_all is_shaped state ≡ true
  pub kept : AllByRecursion IsKeptWell state
  pub typed : AreTyped parts parts (definitions_of state)

-- no dataset stands past the limit of versions
abbrev pub AllWithin : State → Type 0
AllWithin state = AllByRecursion (λ dataset. version_of dataset ≤ 2 ^ 62) state

-- the state that a payload is written behind: a base begins a log
abbrev pub written_on : State → Payload → State
written_on state (payload.Define is_fresh list) = state
written_on state (payload.Take batch) = state
written_on state (payload.Refresh refresh) = state
written_on state (payload.Reset names) = state
written_on state (payload.Base base) = []
