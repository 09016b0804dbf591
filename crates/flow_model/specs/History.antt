-- SCD type 2: the history of each key, as intervals.
use Rattle.std.specs.Prelude.{List, [], ◌∷◌, ◌++◌, ℕ, Bool, false, if◌then◌else◌, map, flat_map, Option, Some, None, unwrap_or}
use Rattle.value_core.specs.declared.event.Event.{Event}
use Rattle.value_core.specs.declared.value.Value.TheVariants.{Null}
use Rattle.value_core.specs.Bags.{in_row_order}
use Rattle.value_core.specs.Order.{Row, same_row}
use Rattle.flow_model.specs.Feed.{pick}
use Rattle.flow_model.specs.Current.{after_event, history, keys_of}

-- a moment of a key's history: its sequence, and the effective columns from then on, if there are any
pub record Moment : Type 0 where
  pub sequence : Row
  pub columns : Option Row

abbrev pub moments_after : Bool → Option Row → List Event → List Moment
moments_after ignore_null before [] = []
moments_after ignore_null before (event ∷ events) = let columns = after_event ignore_null before event in
    record { sequence = event.sequence; columns = columns } ∷ moments_after ignore_null columns events

-- an interval: the columns that held, the sequence from which they held, and the one to which they did, if it is known
pub record Interval : Type 0 where
  pub columns : Row
  pub start : Row
  pub end : Option Row

-- the next moment has columns too, and they agree in the tracked ones
abbrev pub agree : List ℕ → Row → Option Row → Bool
agree tracked columns (Some others) = same_row (pick tracked columns) (pick tracked others)
agree tracked columns None = false

abbrev pub goes_on : List ℕ → Row → List Moment → Bool
goes_on tracked columns [] = false
goes_on tracked columns (next ∷ later) = agree tracked columns next.columns

abbrev pub next_sequence : List Moment → Option Row
next_sequence [] = None
next_sequence (next ∷ later) = Some next.sequence

abbrev pub begun_at : Row → List Interval → List Interval
begun_at start [] = []
begun_at start (interval ∷ later) = record interval { start = start } ∷ later

-- the intervals from a moment on, where `behind` are those of the later moments
abbrev pub interval_by : List ℕ → Row → List Moment → List Interval → Option Row → List Interval
interval_by tracked start later behind None = behind
interval_by tracked start later behind (Some columns) = if goes_on tracked columns later then begun_at start behind
    else record { columns = columns; start = start; end = next_sequence later } ∷ behind

-- a run of moments whose tracked columns agree is one interval: the columns of its last moment, the sequence of its
-- first, and the sequence of the moment behind it
abbrev pub intervals : List ℕ → List Moment → List Interval
intervals tracked [] = []
intervals tracked (moment ∷ later) = interval_by tracked moment.sequence later (intervals tracked later) moment.columns

-- a row of the table: the columns, `__START_AT` and `__END_AT`
abbrev pub interval_row : Interval → Row
interval_row interval = interval.columns ++ interval.start ++ unwrap_or interval.end (Null ∷ [])

-- the rows of one key whose events stand in order
abbrev pub key_rows : Bool → List ℕ → List Event → List Row
key_rows ignore_null tracked events = map interval_row (intervals tracked (moments_after ignore_null None events))

-- the intervals of all keys
abbrev pub scd2 : Bool → List ℕ → List Event → List Row
scd2 ignore_null tracked events = in_row_order (flat_map (λ key. key_rows ignore_null tracked (history key events)) (keys_of events))
