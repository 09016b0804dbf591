-- What stops a change feed with ties left aside, and the events of the rows before it.
use Rattle.std.specs.Prelude.{List, [], ◌∷◌, ◌++◌, ℕ, ◌+◌, if◌then◌else◌, map, Option, Some, None, option_map}
use Rattle.std.specs.List.{cons_option}
use Rattle.std.specs.Option.{option_or}
use Rattle.value_core.specs.declared.event.Event.{Event}
use Rattle.value_core.specs.declared.event.NumberedEvent.{NumberedEvent}
use Rattle.value_core.specs.Order.{Row}
use Rattle.plan_core.specs.declared.expectation.Expectation.{Expectation}
use Rattle.plan_core.specs.declared.flow.Cdc.{Cdc}
use Rattle.plan_core.specs.declared.stop.Place.TheVariants.{Number}
use Rattle.plan_core.specs.declared.stop.Stop.{Stop}
use Rattle.plan_core.specs.declared.stop.Stop.TheVariants as stop
use Rattle.flow_model.specs.Causes.{stop_at}
use Rattle.flow_model.specs.Feed.{Reading, Stops, NoSequence, reading, stops, event_in, tied_with}

-- what each row comes to by itself
abbrev pub readings : Cdc → List Expectation → List Row → List Reading
readings cdc xs rows = map (reading cdc xs) rows

-- why the row of a number stops the feed by itself
abbrev pub own_stop : ℕ → Reading → Option Stop
own_stop number (Stops cause) = Some (stop_at (Number number) cause)
own_stop number NoSequence = Some (stop.NullSequence number)
own_stop number other = None

abbrev pub halt_from : ℕ → List Reading → Option Stop
halt_from number [] = None
halt_from number (r ∷ rs) = option_or (own_stop number r) (halt_from (number + 1) rs)

-- the stop of the first row that stops the feed by itself
abbrev pub feed_halt : Cdc → List Expectation → List Row → Option Stop
feed_halt cdc xs rows = halt_from 1 (readings cdc xs rows)

abbrev pub up_to_halt : List Reading → List Reading
up_to_halt [] = []
up_to_halt (r ∷ rs) = if stops r then [] else r ∷ up_to_halt rs

-- the rows before it, or all where none does
abbrev pub front : Cdc → List Expectation → List Row → List Reading
front cdc xs rows = up_to_halt (readings cdc xs rows)

abbrev pub numbered : ℕ → Event → NumberedEvent
numbered number event = record { row = number; event = event }

abbrev pub numbered_from : ℕ → List Reading → List NumberedEvent
numbered_from number [] = []
numbered_from number (r ∷ rs) = cons_option (option_map (numbered number) (event_in r)) (numbered_from (number + 1) rs)

-- their events in row order, each with the number of its row
abbrev pub front_events : Cdc → List Expectation → List Row → List NumberedEvent
front_events cdc xs rows = numbered_from 1 (front cdc xs rows)

-- the first of these events that clashes with an old one or with one before it
abbrev pub first_tie : List Event → List NumberedEvent → Option Stop
first_tie old [] = None
first_tie old (n ∷ ns) = option_or (option_map (λ kept. stop.Tied n.row kept n.event) (tied_with n.event old)) (first_tie (old ++ n.event ∷ []) ns)
