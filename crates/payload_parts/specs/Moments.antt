-- The moments of events.
use Rattle.std.specs.Prelude.{◌≡◌, List, Bool, ◌&&◌}
use Rattle.std.specs.declared.cmp.Ordering.{Ordering}
use Rattle.std.specs.BTreeSet.{BTreeSet, contains}
use Rattle.std.specs.List.{list_any}
use Rattle.std.specs.Ordering.{ordering_then}
use Rattle.value_core.specs.declared.event.Event.{Event}
use Rattle.value_core.specs.Order.{Row, row_order, same_row}

-- a key and a sequence
abbrev pub MomentKey : Type 0
MomentKey = Row × Row

-- those of an event
abbrev pub moment_key : Event → MomentKey
moment_key event = (event.key, event.sequence)

-- by key and then by sequence
abbrev pub moment_order : MomentKey → MomentKey → Ordering
moment_order a b = ordering_then (row_order a.0 b.0) (row_order a.1 b.1)

-- an event is of this moment
abbrev pub is_of : MomentKey → Event → Bool
is_of when event = same_row when.0 event.key && same_row when.1 event.sequence

-- a set has the moments of events, and no others
pub record HasMoments (moments : BTreeSet MomentKey) (events : List Event) : Type 0 where
  pub has : (when : MomentKey) → contains moment_order moments when ≡ list_any (is_of when) events
