-- Which events are of the kinds of a change feed.
use Rattle.std.specs.Prelude.{List, ℕ, Bool, true, not, ◌&&◌, filter_map, slice_get}
use Rattle.std.specs.List.{list_all, list_any}
use Rattle.value_core.specs.declared.event.Event.{Event}
use Rattle.value_core.specs.declared.event.EventKind.{EventKind}
use Rattle.value_core.specs.declared.event.EventKind.TheVariants.{Upsert, Delete, Truncate}
use Rattle.value_core.specs.declared.value.Kind.{Kind}
use Rattle.value_core.specs.Fits.{row_fits}
use Rattle.value_core.specs.Order.{Row, is_null}

-- each row has one value a column, NULL or of its kind
abbrev pub all_fit : List Kind → List Row → Bool
all_fit kinds rows = list_all (row_fits kinds) rows

-- the kinds of the key, which is among the columns
abbrev pub key_kinds : List Kind → List ℕ → List Kind
key_kinds columns keys = filter_map (λ at. slice_get columns at) keys

-- an upsert has a key and columns of these kinds, a delete has a key, and a truncate has neither
abbrev pub parts_fit : List Kind → List Kind → Event → EventKind → Bool
parts_fit keys columns event Upsert = row_fits keys event.key && row_fits columns event.columns
parts_fit keys columns event Delete = row_fits keys event.key
parts_fit keys columns event Truncate = true

-- an event has a sequence of these kinds without NULL, and the parts of its kind
abbrev pub is_event_of : List Kind → List Kind → List Kind → Event → Bool
is_event_of sequences keys columns event = row_fits sequences event.sequence && not (list_any is_null event.sequence) && parts_fit keys columns event event.kind

-- each event does
abbrev pub all_events_of : List Kind → List Kind → List Kind → List Event → Bool
all_events_of sequences keys columns events = list_all (is_event_of sequences keys columns) events
