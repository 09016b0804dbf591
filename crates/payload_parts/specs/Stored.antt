-- The shape of a saved dataset, apart from its events and how its changes follow.
use Rattle.std.specs.Prelude.{◌≡◌, ◌+◌, ◌≤◌, ◌^◌, [], false, true, length, map}
use Rattle.std.specs.List.{list_all}
use Rattle.commit_payloads.specs.declared.definition.Definition.{Definition}
use Rattle.commit_payloads.specs.declared.state.DatasetState.{DatasetState}
use Rattle.commit_payloads.specs.declared.state.State.{State as Saved}
use Rattle.state_model.specs.After.{no_tally}
use Rattle.state_model.specs.Follows.{CursorsFit, all_fit, counts_fit, keeps_events}
use Rattle.state_model.specs.Saved.{read_back}

-- only a change feed has events
abbrev pub HasNoStrayEvents : Definition → DatasetState → Type 0
HasNoStrayEvents definition state = keeps_events definition.body ≡ false → state.events ≡ []

pub record IsShaped (store : Saved) (definition : Definition) (state : DatasetState) : Type 0 where
  pub limit : state.base + length state.changes ≤ 2 ^ 62
  pub rows_fit : all_fit definition.columns state.rows ≡ true
  pub changes_fit : list_all (λ change. all_fit definition.columns change.added) state.changes ≡ true
  pub cursors : CursorsFit (read_back store) definition.flows state.cursors
  pub one_each : length state.counts ≡ length definition.expectations
  pub within : counts_fit (map no_tally definition.expectations) state.counts ≡ true
  pub no_events : HasNoStrayEvents definition state
