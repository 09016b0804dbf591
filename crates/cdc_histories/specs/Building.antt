-- Histories of events that come all at once: the events cut by key, and the history that each part folds to.
use Rattle.std.specs.Prelude.{◌≡◌, List, [], ◌∷◌, ◌++◌, ℕ, suc, Bool, if◌then◌else◌, map, Option, unwrap_or, Result, IfOk}
use Rattle.std.specs.declared.cmp.Ordering.{Ordering}
use Rattle.std.specs.declared.cmp.Ordering.TheVariants.{Less}
use Rattle.std.specs.Map.{keys_of as map_keys}
use Rattle.std.specs.Ordering.{on, then_cmp}
use Rattle.value_core.specs.declared.event.Event.{Event}
use Rattle.value_core.specs.Order.{Row, row_order, same_row}
use Rattle.event_history.specs.declared.history.Entry.{Entry}
use Rattle.event_history.specs.Histories.{events_of}
use Rattle.event_ledger.specs.Keyed.{all_events}
use Rattle.flow_model.specs.Current.{after_event}
use Rattle.flow_model.specs.History.{key_rows}
use Rattle.cdc_scd2.specs.Keys.{AreKeyed}
use Rattle.cdc_histories.specs.declared.cutting.KeyEvents.{KeyEvents}
use Rattle.cdc_histories.specs.declared.folding.KeyHistory.{KeyHistory}
use Rattle.cdc_histories.specs.Keeping.{AreInParts, IsHistory, rows_by_key}

-- ---- events in order of their moments

-- events by key, and at one key by sequence
abbrev pub moment_order : Event → Event → Ordering
moment_order = then_cmp (on (λ event. event.key) row_order) (on (λ event. event.sequence) row_order)

-- each of these events is of a later moment than this one
abbrev pub AllLater : Event → List Event → Type 0
AllLater event [] = Unit {0}
AllLater event (x ∷ xs) = (moment_order event x ≡ Less) × AllLater event xs

-- moments rise from event to event
abbrev pub AreRising : List Event → Type 0
AreRising [] = Unit {0}
AreRising (event ∷ events) = AllLater event events × AreRising events

-- each event is of this key
abbrev pub AreOfKey : Row → List Event → Type 0
AreOfKey key [] = Unit {0}
AreOfKey key (event ∷ events) = (event.key ≡ key) × AreOfKey key events

-- ---- events cut by key

-- how many events at the front are of this key
abbrev pub span : Row → List Event → ℕ
span key [] = 0
span key (event ∷ events) = if same_row event.key key then suc (span key events) else 0

-- an event before the parts of those behind it: in the first part, if that is of its key
abbrev pub joined_to : Event → List KeyEvents → List KeyEvents
joined_to event [] = record { key = event.key; events = event ∷ [] } ∷ []
joined_to event (part ∷ parts) = if same_row event.key part.key then record { key = part.key; events = event ∷ part.events } ∷ parts
    else record { key = event.key; events = event ∷ [] } ∷ part ∷ parts

-- events cut where the key changes
abbrev pub cut_by_key : List Event → List KeyEvents
cut_by_key [] = []
cut_by_key (event ∷ events) = joined_to event (cut_by_key events)

-- the events of parts, one part after another
abbrev pub events_in : List KeyEvents → List Event
events_in [] = []
events_in (part ∷ parts) = part.events ++ events_in parts

-- upserts and deletes of one key, in order of sequence
pub record IsPart (part : KeyEvents) : Type 0 where
  pub rising : AreRising part.events
  pub own : AreOfKey part.key part.events
  pub keyed : AreKeyed part.events

abbrev pub AreParts : List KeyEvents → Type 0
AreParts [] = Unit {0}
AreParts (part ∷ parts) = IsPart part × AreParts parts

-- each part is of a greater key than this one
abbrev pub AllAboveKey : Row → List KeyEvents → Type 0
AllAboveKey key [] = Unit {0}
AllAboveKey key (part ∷ parts) = (row_order key part.key ≡ Less) × AllAboveKey key parts

-- keys rise from part to part
abbrev pub AreUp : List KeyEvents → Type 0
AreUp [] = Unit {0}
AreUp (part ∷ parts) = AllAboveKey part.key parts × AreUp parts

-- events cut into one part a key, in order of the keys
pub record IsCut (events : List Event) (parts : List KeyEvents) : Type 0 where
  pub whole : events_in parts ≡ events
  pub each : AreParts parts
  pub up : AreUp parts

-- ---- the history that a part folds to

-- events as entries, each with the effective columns after it, where before them the columns are these
abbrev pub entries_from : Bool → Option Row → List Event → List Entry
entries_from ignore_null before [] = []
entries_from ignore_null before (event ∷ events) =
    record { event = event; effective = unwrap_or (after_event ignore_null before event) [] } ∷ entries_from ignore_null (after_event ignore_null before event) events

-- the history of a part's key, of just its events, and the rows of it
pub record IsFolded (ignore_null : Bool) (tracked : List ℕ) (part : KeyEvents) (folded : KeyHistory) : Type 0 where
  pub same_key : folded.key ≡ part.key
  pub kept : IsHistory ignore_null folded.history
  pub same_events : events_of folded.history ≡ part.events
  pub tells : folded.rows ≡ key_rows ignore_null tracked part.events

-- each part has come to its history, or has wanted memory
abbrev pub HaveCome : {E : Type 0} → Bool → List ℕ → List KeyEvents → List (Result KeyHistory E) → Type 0
HaveCome ignore_null tracked [] [] = Unit {0}
HaveCome ignore_null tracked [] (answer ∷ answers) = ⊥
HaveCome ignore_null tracked (part ∷ parts) [] = ⊥
HaveCome ignore_null tracked (part ∷ parts) (answer ∷ answers) = IfOk answer (IsFolded ignore_null tracked part) × HaveCome ignore_null tracked parts answers

-- ---- the histories of parts, put together

-- the histories of these parts by key, and their rows
pub record AreBuilt (ignore_null : Bool) (tracked : List ℕ) (parts : List KeyEvents) (histories : List (Row × List Entry)) (rows : List Row) : Type 0 where
  pub in_parts : AreInParts ignore_null histories
  pub kept : all_events histories ≡ events_in parts
  pub keys : map_keys histories ≡ map (λ part. part.key) parts
  pub tells : rows ≡ rows_by_key ignore_null tracked histories
