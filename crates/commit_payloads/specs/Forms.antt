-- Which definitions and batches have a spelling, beyond the range of their types.
use Rattle.std.specs.List.{AllByRecursion}
use Rattle.std.specs.Ordering.{is_lt, on, then_cmp}
use Rattle.std.specs.Prelude.{◌≡◌, ℕ, List, [], ◌∷◌, length, Bool, true, false, ◌&&◌, ◌==◌, ⊤, bytes_eq}
use Rattle.value_core.specs.declared.cursor.Cursor.{Cursor}
use Rattle.value_core.specs.declared.cursor.Cursor.TheVariants.{Files, At, Never}
use Rattle.value_core.specs.declared.event.Event.{Event}
use Rattle.value_core.specs.Bags.{IsInOrder}
use Rattle.value_core.specs.Changes.{IsChange}
use Rattle.value_core.specs.FilePlaces.{IsPlaces}
use Rattle.value_core.specs.Order.{row_order}
use Rattle.segment_rows.specs.EventParts.{has_its_parts}
use Rattle.commit_payloads.specs.declared.definition.StoredBody.{StoredBody}
use Rattle.commit_payloads.specs.declared.definition.StoredBody.TheVariants.{Append, Scd1, Scd2, View}
use Rattle.commit_payloads.specs.declared.definition.StoredFlow.{StoredFlow}
use Rattle.commit_payloads.specs.declared.definition.Definition.{Definition}
use Rattle.commit_payloads.specs.declared.state.DatasetState.{DatasetState}
use Rattle.commit_payloads.specs.declared.state.State.{State}
use Rattle.commit_payloads.specs.declared.take.Refresh.{Refresh}
use Rattle.commit_payloads.specs.declared.take.Take.{Take}

-- there is one flow, and it has this name
abbrev pub is_own_flow : List ℕ → List StoredFlow → Bool
is_own_flow name [] = false
is_own_flow name (flow ∷ []) = bytes_eq flow.name name
is_own_flow name (flow ∷ other ∷ more) = false

-- an append table and a view take no events, so they name neither keys nor a sequence; a view has one flow of its own name
abbrev pub fits_the_body : StoredBody → Definition → Bool
fits_the_body Append definition = length definition.keys == 0 && length definition.sequence == 0
fits_the_body Scd1 definition = true
fits_the_body Scd2 definition = true
fits_the_body View definition = length definition.keys == 0 && length definition.sequence == 0 && is_own_flow definition.name definition.flows

abbrev pub fits_its_body : Definition → Bool
fits_its_body definition = fits_the_body definition.body definition

abbrev pub all_fit : List Definition → Bool
all_fit [] = true
all_fit (definition ∷ list) = fits_its_body definition && all_fit list

abbrev pub AreDefinitions : List Definition → Type 0
AreDefinitions list = all_fit list ≡ true

abbrev pub all_have_their_parts : List Event → Bool
all_have_their_parts [] = true
all_have_their_parts (event ∷ events) = has_its_parts event && all_have_their_parts events

-- places in files have names strictly ascending, and are above 0
abbrev pub IsProgress : Cursor → Type 0
IsProgress (Files places) = IsPlaces places
IsProgress (At version) = ⊤
IsProgress Never = ⊤

-- the rows of its change are in row order and none goes and comes, and each event has the parts of its kind
abbrev pub IsBatch : Take → Type 0
IsBatch take = IsProgress take.cursor × IsChange take.change × (all_have_their_parts take.events ≡ true)

-- the rows of its change are in row order and none goes and comes
abbrev pub IsRenewal : Refresh → Type 0
IsRenewal refresh = IsProgress refresh.cursor × IsChange refresh.change

-- an event comes before another one: by key, and at one key by sequence
abbrev pub comes_before : Event → Event → Bool
comes_before a b = is_lt (then_cmp (on (λ event. event.key) row_order) (on (λ event. event.sequence) row_order) a b)

abbrev pub is_before_first : Event → List Event → Bool
is_before_first event [] = true
is_before_first event (next ∷ more) = comes_before event next

-- each event comes before the next one, so that no two are alike in key and sequence
abbrev pub are_ascending : List Event → Bool
are_ascending [] = true
are_ascending (event ∷ events) = is_before_first event events && are_ascending events

-- what is kept of a dataset: rows in row order, changes that are net, progress in files with names strictly ascending, and
-- events by key and sequence, each with the parts of its kind
pub record IsKept (state : DatasetState) : Type 0 where
  pub rows : IsInOrder state.rows
  pub changes : AllByRecursion IsChange state.changes
  pub cursors : AllByRecursion IsProgress state.cursors
  pub events : all_have_their_parts state.events ≡ true
  pub order : are_ascending state.events ≡ true

-- one state a definition, each as it is kept
pub record IsBase (state : State) : Type 0 where
  pub definitions : AreDefinitions state.list
  pub one_each : length state.states ≡ length state.list
  pub kept : AllByRecursion IsKept state.states
