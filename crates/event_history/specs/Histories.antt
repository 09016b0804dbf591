-- The history of a key: events in order of their sequences.
use Rattle.std.specs.Prelude.{◌≡◌, ◌<◌, ◌≤◌, List, [], ◌∷◌, ℕ, zero, suc, map, length, take, drop, slice_index_or}
use Rattle.std.specs.declared.cmp.Ordering.TheVariants.{Less}
use Rattle.value_core.specs.declared.event.Event.{Event}
use Rattle.value_core.specs.Order.{Row, row_order}
use Rattle.event_history.specs.declared.history.Entry.{Entry}
use Rattle.event_history.specs.declared.history.Place.{Place}
use Rattle.event_history.specs.declared.history.Place.TheVariants.{At, Between}

-- the events of a history's entries
abbrev pub events_of : List Entry → List Event
events_of entries = map (λ entry. entry.event) entries

-- each entry's sequence is above this one
abbrev pub AllAbove : Row → List Entry → Type 0
AllAbove sequence [] = Unit {0}
AllAbove sequence (entry ∷ entries) = (row_order sequence entry.event.sequence ≡ Less) × AllAbove sequence entries

-- each entry's sequence is below this one
abbrev pub AllBelow : Row → List Entry → Type 0
AllBelow sequence [] = Unit {0}
AllBelow sequence (entry ∷ entries) = (row_order entry.event.sequence sequence ≡ Less) × AllBelow sequence entries

-- sequences rise from entry to entry
abbrev pub AreAscending : List Entry → Type 0
AreAscending [] = Unit {0}
AreAscending (entry ∷ entries) = AllAbove entry.event.sequence entries × AreAscending entries

-- the place of an entry with this sequence, or else the place between those below it and those above it
abbrev pub IsPlaceOf : List Entry → Row → Place → Type 0
IsPlaceOf entries sequence (At i) = (i < length entries) × ((d : Entry) → (slice_index_or entries i d).event.sequence ≡ sequence)
IsPlaceOf entries sequence (Between i) = (i ≤ length entries) × AllBelow sequence (take i entries) × AllAbove sequence (drop i entries)

-- the entries where the one at a place has other effective columns
abbrev pub with_effective : List Entry → ℕ → Row → List Entry
with_effective [] i columns = []
with_effective (entry ∷ entries) zero columns = record entry { effective = columns } ∷ entries
with_effective (entry ∷ entries) (suc i) columns = entry ∷ with_effective entries i columns
