-- Events of a key and truncates, in any order of arrival.
use Rattle.std.specs.Prelude.{◌≡◌, List, [], ◌∷◌, ℕ, Bool, true, false, not, ◌&&◌, ◌||◌, filter, filter_map, fold, length}
use Rattle.value_core.specs.declared.event.Event.{Event}
use Rattle.value_core.specs.Bags.{in_row_order}
use Rattle.value_core.specs.EventOrder.{is_truncate, is_upsert}
use Rattle.value_core.specs.Order.{Row, same_row}
use Rattle.flow_model.specs.Current.{keys_of}
use Rattle.cdc_scd1.specs.Stamps.{no_event, row_told, stamped}

abbrev pub are_alike : Bool → Bool → Bool
are_alike true other = other
are_alike false other = not other

-- two events of one sequence, where both are truncates or neither is: a key has room for one of them
abbrev pub collide : Event → Event → Bool
collide a b = same_row a.sequence b.sequence && are_alike (is_truncate a) (is_truncate b)

abbrev pub CollidesWithNone : Event → List Event → Type 0
CollidesWithNone event [] = Unit {0}
CollidesWithNone event (x ∷ xs) = (collide event x ≡ false) × CollidesWithNone event xs

-- no two of them collide
abbrev pub AreOfOwnMoments : List Event → Type 0
AreOfOwnMoments [] = Unit {0}
AreOfOwnMoments (event ∷ events) = CollidesWithNone event events × AreOfOwnMoments events

-- an upsert has so many columns
abbrev pub HasWidth : ℕ → Event → Type 0
HasWidth wide event = is_upsert event ≡ true → length event.columns ≡ wide

abbrev pub HaveWidth : ℕ → List Event → Type 0
HaveWidth wide [] = Unit {0}
HaveWidth wide (event ∷ events) = HasWidth wide event × HaveWidth wide events

-- the events of a key and all truncates, as they stand
abbrev pub heard : Row → List Event → List Event
heard key events = filter (λ event. is_truncate event || same_row event.key key) events

-- the rows that the stamps of each key tell
abbrev pub rows_told : Bool → List Event → List Row
rows_told ignore_null events = in_row_order (filter_map (λ key. row_told (fold (stamped ignore_null) no_event (heard key events))) (keys_of events))
