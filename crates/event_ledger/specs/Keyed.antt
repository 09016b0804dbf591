-- The events of histories, key by key.
use Rattle.std.specs.Prelude.{◌≡◌, List, [], ◌∷◌, ◌++◌, filter}
use Rattle.value_core.specs.declared.event.Event.{Event}
use Rattle.value_core.specs.EventOrder.{Standing, Fresh, Repeat, Tied, event_order, placed_by, standing}
use Rattle.value_core.specs.Order.{Row, same_row}
use Rattle.event_history.specs.declared.history.Entry.{Entry}
use Rattle.event_history.specs.Histories.{events_of}
use Rattle.event_ledger.specs.declared.insertion.Insertion.{Insertion}
use Rattle.event_ledger.specs.declared.insertion.Insertion.TheVariants as answer

-- the events of histories in the order of their keys
abbrev pub all_events : List (Row × List Entry) → List Event
all_events [] = []
all_events (part ∷ parts) = events_of part.1 ++ all_events parts

-- each entry is of this key
abbrev pub AreOf : Row → List Entry → Type 0
AreOf key [] = Unit {0}
AreOf key (entry ∷ entries) = (entry.event.key ≡ key) × AreOf key entries

-- each history has events of its own key alone
abbrev pub AreByKey : List (Row × List Entry) → Type 0
AreByKey [] = Unit {0}
AreByKey (part ∷ parts) = AreOf part.0 part.1 × AreByKey parts

-- the events of a key
abbrev pub of_key : Row → List Event → List Event
of_key key events = filter (λ event. same_row event.key key) events

-- an answer in the words of the model
abbrev pub standing_in : Insertion → Standing
standing_in answer.Fresh = Fresh
standing_in answer.Repeat = Repeat
standing_in (answer.Tied kept) = Tied kept

-- the events after one that stands so: a fresh one is kept too, by key and then by sequence, and no other is
abbrev pub events_after : Standing → Event → List Event → List Event
events_after Fresh event events = placed_by event_order event events
events_after Repeat event events = events
events_after (Tied kept) event events = events

-- no two of them are of one moment
abbrev pub AreApart : List Event → Type 0
AreApart [] = Unit {0}
AreApart (event ∷ events) = (standing events event ≡ Fresh) × AreApart events
