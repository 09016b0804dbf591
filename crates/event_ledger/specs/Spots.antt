-- Where an event stands in the history of its key.
use Rattle.std.specs.Prelude.{◌≡◌, ◌≤◌, false, true, List, [], ◌∷◌, if◌then◌else◌, length, take, drop}
use Rattle.std.specs.Ordering.{is_gt}
use Rattle.value_core.specs.declared.event.Event.{Event}
use Rattle.value_core.specs.EventOrder.{Standing, Fresh, Repeat, Tied, history_order, same_event}
use Rattle.event_history.specs.declared.history.Entry.{Entry}
use Rattle.event_history.specs.Histories.{AllAbove, AllBelow}
use Rattle.event_ledger.specs.declared.spot.Spot.{Spot}
use Rattle.event_ledger.specs.declared.spot.Spot.TheVariants as spot

abbrev pub standing_at : Spot → Standing
standing_at (spot.Free i) = Fresh
standing_at spot.Repeat = Repeat
standing_at (spot.Tied kept) = Tied kept

-- a free spot is the place between the entries below an event and those above it
abbrev pub HasRoom : List Entry → Event → Spot → Type 0
HasRoom entries event (spot.Free i) = (i ≤ length entries) × AllBelow event.sequence (take i entries) × AllAbove event.sequence (drop i entries)
HasRoom entries event spot.Repeat = Unit {0}
HasRoom entries event (spot.Tied kept) = Unit {0}

-- this is what an event is beside the kept one of its moment
abbrev pub IsBeside : Event → Event → Spot → Type 0
IsBeside kept event (spot.Free i) = ⊥
IsBeside kept event spot.Repeat = same_event kept event ≡ true
IsBeside kept event (spot.Tied one) = (same_event kept event ≡ false) × (one ≡ kept)

-- the entries with one more before the first that its event isn't behind
abbrev pub entry_placed : Entry → List Entry → List Entry
entry_placed entry [] = entry ∷ []
entry_placed entry (x ∷ xs) = if is_gt (history_order entry.event x.event) then x ∷ entry_placed entry xs else entry ∷ x ∷ xs

-- the entries of a key after an event that stands so
abbrev pub entries_after : Standing → Event → List Entry → List Entry
entries_after Fresh event entries = entry_placed (record { event = event; effective = [] }) entries
entries_after Repeat event entries = entries
entries_after (Tied kept) event entries = entries
