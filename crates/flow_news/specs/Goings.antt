-- How a flow goes on from a position.
use Rattle.std.specs.Prelude.{◌≡◌, ⊤, true, List, IsSomeAnd}
use Rattle.value_core.specs.declared.cursor.Cursor.{Cursor}
use Rattle.value_core.specs.declared.schema.Column.{Column}
use Rattle.value_core.specs.Order.{Row}
use Rattle.commit_payloads.specs.declared.definition.StoredBody.TheVariants.{Append}
use Rattle.commit_payloads.specs.declared.definition.StoredOrigin.{StoredOrigin}
use Rattle.commit_payloads.specs.Forms.{IsProgress}
use Rattle.landing_core.specs.declared.landing.LandingFile.{LandingFile}
use Rattle.plan_core.specs.declared.flow.Origin.{Origin}
use Rattle.plan_core.specs.declared.flow.Origin.TheVariants as origin
use Rattle.state_model.specs.After.{begun_cursor}
use Rattle.state_model.specs.Dataset.{State, dataset_of}
use Rattle.state_model.specs.Follows.{MovesOn, all_fit}
use Rattle.state_steps.specs.Parts.{stored_origin}
use Rattle.state_steps.specs.Steps.{GoesOn}
use Rattle.store_fitness.specs.Fitness.{IsSourceNow, PositionFits}
use Rattle.flow_news.specs.Finds.{Found, Comes, Lost}

-- a source that is a dataset is there
abbrev pub IsThere : State → Origin → Type 0
IsThere state (origin.Files dir shape) = ⊤
IsThere state (origin.Table name) = IsSomeAnd (dataset_of state name) (λ _. ⊤)

-- from where a flow of a store stands it goes on by the rows that it finds, and is never lost
abbrev pub IsGoing : List LandingFile → State → Origin → Cursor → Found → Type 0
IsGoing ever state from old (Comes rows behind) = GoesOn ever state from old behind rows
IsGoing ever state from old Lost = ⊥
IsGoing ever state from old other = ⊤

-- ---- in a store that is ready for its plan

-- a position of a flow over this origin: it comes of where the flow began, and is a version that is kept, or places
pub record IsPosition (state : State) (from : StoredOrigin) (old : Cursor) : Type 0 where
  pub moved : MovesOn state from (begun_cursor from) old
  pub form : IsProgress old
  pub fits : PositionFits state Append from old

-- rows of a source with these columns, and the position behind them
pub record AreNext (state : State) (from : Origin) (columns : List Column) (old behind : Cursor) (rows : List Row) : Type 0 where
  pub moves : MovesOn state (stored_origin from) old behind
  pub ends : IsSourceNow state (stored_origin from) behind
  pub form : IsProgress behind
  pub fit : all_fit columns rows ≡ true

-- a flow goes on from a position by such rows, and is never lost
abbrev pub IsNext : State → Origin → List Column → Cursor → Found → Type 0
IsNext state from columns old (Comes rows behind) = AreNext state from columns old behind rows
IsNext state from columns old Lost = ⊥
IsNext state from columns old other = ⊤
