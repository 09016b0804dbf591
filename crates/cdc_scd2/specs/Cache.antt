-- The effective columns that a history keeps beside each event.
use Rattle.std.specs.Prelude.{◌≡◌, ◌≢◌, List, [], ◌∷◌, Bool, Option, Some, None}
use Rattle.value_core.specs.Order.{Row}
use Rattle.event_history.specs.declared.history.Entry.{Entry}
use Rattle.flow_model.specs.Current.{after_event}
use Rattle.cdc_runs.specs.Entries.{columns_after}
use Rattle.cdc_runs.specs.Runs.{carried_by}

-- the cached columns of each entry are the effective ones after those before it
abbrev pub CachedFrom : Bool → Option Row → List Entry → Type 0
CachedFrom ignore_null before [] = Unit {0}
CachedFrom ignore_null before (entry ∷ entries) = (columns_after entry ≡ after_event ignore_null before entry.event) × CachedFrom ignore_null (columns_after entry) entries

-- the cached columns of a history are its effective ones
abbrev pub IsCached : Bool → List Entry → Type 0
IsCached ignore_null entries = CachedFrom ignore_null None entries

-- no entry has this sequence
abbrev pub IsAbsent : Row → List Entry → Type 0
IsAbsent sequence [] = Unit {0}
IsAbsent sequence (entry ∷ entries) = (entry.event.sequence ≢ sequence) × IsAbsent sequence entries

-- the columns from the last of these entries on, or else this state
abbrev pub last_state : Option Row → List Entry → Option Row
last_state state [] = state
last_state state (entry ∷ entries) = last_state (columns_after entry) entries

-- the new effective columns of the first of these entries, as far as they differ from the cached ones
abbrev pub carried_on : Bool → Option Row → List Entry → List Row
carried_on ignore_null is [] = []
carried_on ignore_null is (entry ∷ entries) = carried_by (columns_after entry) (after_event ignore_null is entry.event) (carried_on ignore_null (after_event ignore_null is entry.event) entries)

-- the last of some rows, or else this state
abbrev pub last_or : Option Row → List Row → Option Row
last_or state [] = state
last_or state (row ∷ rows) = last_or (Some row) rows

-- the first entries with these effective columns in the place of theirs
abbrev pub recached : List Entry → List Row → List Entry
recached entries [] = entries
recached [] (row ∷ rows) = []
recached (entry ∷ entries) (row ∷ rows) = record { event = entry.event; effective = row } ∷ recached entries rows
