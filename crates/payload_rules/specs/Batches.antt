-- What a payload's parts must be beside the definition of their dataset alone.
use Rattle.std.specs.Prelude.{◌≡◌, [], false, true, length, map}
use Rattle.commit_payloads.specs.declared.definition.Definition.{Definition}
use Rattle.commit_payloads.specs.declared.take.Refresh.{Refresh}
use Rattle.commit_payloads.specs.declared.take.Take.{Take}
use Rattle.state_model.specs.After.{no_tally}
use Rattle.state_model.specs.Follows.{all_fit, counts_fit, is_append, is_view}

-- a batch beside the definition of its table
pub record FitsDefinition (batch : Take) (definition : Definition) : Type 0 where
  pub takes : is_view definition.body ≡ false
  pub removes_none : is_append definition ≡ true → batch.change.removed ≡ []
  pub no_events : is_append definition ≡ true → batch.events ≡ []
  pub rows_fit : all_fit definition.columns batch.change.added ≡ true
  pub one_each : length batch.counts ≡ length definition.expectations

-- a refresh beside the definition of its view
pub record FitsView (refresh : Refresh) (definition : Definition) : Type 0 where
  pub view : is_view definition.body ≡ true
  pub rows_fit : all_fit definition.columns refresh.change.added ≡ true
  pub one_each : length refresh.counts ≡ length definition.expectations
  pub within : counts_fit (map no_tally definition.expectations) refresh.counts ≡ true
