-- The runs of a history, each told at its last moment, so that a part of a history can be told apart from the rest.
use Rattle.std.specs.Prelude.{List, [], ◌∷◌, ◌++◌, ℕ, Bool, true, false, ◌&&◌, if◌then◌else◌, Option, Some, None, unwrap_or}
use Rattle.value_core.specs.declared.event.Event.{Event}
use Rattle.value_core.specs.Order.{Row, same_row}
use Rattle.flow_model.specs.Current.{after_event}
use Rattle.flow_model.specs.History.{Moment, Interval, goes_on, next_sequence}

-- ---- the intervals by where they end

-- the interval that ends with a moment, if one does; `since` is where its run began, if that was before it
abbrev pub ended_by : List ℕ → Option Row → Row → List Moment → Option Row → List Interval
ended_by tracked since sequence later None = []
ended_by tracked since sequence later (Some columns) = if goes_on tracked columns later then []
    else record { columns = columns; start = unwrap_or since sequence; end = next_sequence later } ∷ []

-- where the run began that goes on behind a moment, if one does
abbrev pub opened_by : List ℕ → Option Row → Row → List Moment → Option Row → Option Row
opened_by tracked since sequence later None = None
opened_by tracked since sequence later (Some columns) = if goes_on tracked columns later then Some (unwrap_or since sequence) else None

-- both, of a moment
abbrev pub ended : List ℕ → Option Row → Moment → List Moment → List Interval
ended tracked since moment later = ended_by tracked since moment.sequence later moment.columns

abbrev pub opened : List ℕ → Option Row → Moment → List Moment → Option Row
opened tracked since moment later = opened_by tracked since moment.sequence later moment.columns

-- the intervals that end within the first moments, before `next`
abbrev pub ends_in : List ℕ → Option Row → List Moment → List Moment → List Interval
ends_in tracked since [] next = []
ends_in tracked since (moment ∷ moments) next =
    ended tracked since moment (moments ++ next) ++ ends_in tracked (opened tracked since moment (moments ++ next)) moments next

-- where the run began that goes on from the first moments into `next`, if one does
abbrev pub left_open : List ℕ → Option Row → List Moment → List Moment → Option Row
left_open tracked since [] next = since
left_open tracked since (moment ∷ moments) next = left_open tracked (opened tracked since moment (moments ++ next)) moments next

-- ---- the interval of one moment

-- the interval of a moment with columns, if its run began at `start` and `behind` is the interval of the moments behind it in that run
abbrev pub stands_by : List ℕ → Row → List Moment → Option Interval → Option Row → Option Interval
stands_by tracked start later behind None = None
stands_by tracked start later behind (Some columns) = if goes_on tracked columns later then behind
    else Some (record { columns = columns; start = start; end = next_sequence later })

-- the interval in which the first of these moments stands, if it has columns
abbrev pub interval_at : List ℕ → Option Row → List Moment → Option Interval
interval_at tracked since [] = None
interval_at tracked since (moment ∷ later) =
    stands_by tracked (unwrap_or since moment.sequence) later (interval_at tracked (Some (unwrap_or since moment.sequence)) later) moment.columns

-- the intervals behind the one in which the first of these moments stands
abbrev pub past_by : List ℕ → List Moment → List Interval → Option Row → List Interval
past_by tracked later behind None = ends_in tracked None later []
past_by tracked later behind (Some columns) = if goes_on tracked columns later then behind else ends_in tracked None later []

abbrev pub ends_past : List ℕ → List Moment → List Interval
ends_past tracked [] = []
ends_past tracked (moment ∷ later) = past_by tracked later (ends_past tracked later) moment.columns

-- ---- which moments are one run

-- a run goes on from a moment to the next one
abbrev pub moment_goes_on : List ℕ → Option Row → List Moment → Bool
moment_goes_on tracked None later = false
moment_goes_on tracked (Some columns) later = goes_on tracked columns later

-- one run goes through all these moments and into `next`
abbrev pub goes_through : List ℕ → List Moment → List Moment → Bool
goes_through tracked [] next = true
goes_through tracked (moment ∷ moments) next = moment_goes_on tracked moment.columns (moments ++ next) && goes_through tracked moments next

-- one run goes through all these moments up to the last one
abbrev pub one_run : List ℕ → List Moment → Bool
one_run tracked [] = true
one_run tracked (moment ∷ []) = true
one_run tracked (moment ∷ (next ∷ more)) = moment_goes_on tracked moment.columns (next ∷ []) && one_run tracked (next ∷ more)

-- ---- how far a change of effective columns reaches

-- two states of a key are one
abbrev pub same_columns : Option Row → Option Row → Bool
same_columns None None = true
same_columns None (Some b) = false
same_columns (Some a) None = false
same_columns (Some a) (Some b) = same_row a b

-- the new columns of the first events behind a change, up to the first one whose columns are what they were
abbrev pub carried_by : Option Row → Option Row → List Row → List Row
carried_by was None more = []
carried_by was (Some row) more = if same_columns was (Some row) then [] else row ∷ more

-- the same from two states before these events
abbrev pub carried : Bool → Option Row → Option Row → List Event → List Row
carried ignore_null was is [] = []
carried ignore_null was is (event ∷ events) = carried_by (after_event ignore_null was event) (after_event ignore_null is event)
    (carried ignore_null (after_event ignore_null was event) (after_event ignore_null is event) events)

-- the first moments with these columns in the place of theirs
abbrev pub recolumned : List Moment → List Row → List Moment
recolumned moments [] = moments
recolumned [] (row ∷ rows) = []
recolumned (moment ∷ moments) (row ∷ rows) = record { sequence = moment.sequence; columns = Some row } ∷ recolumned moments rows
