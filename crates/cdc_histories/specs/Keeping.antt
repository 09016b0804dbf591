-- The histories of a change feed, key by key.
use Rattle.std.specs.Prelude.{◌≡◌, ◌+◌, ◌*◌, List, [], ◌∷◌, ◌++◌, ℕ, Bool}
use Rattle.value_core.specs.declared.event.Event.{Event}
use Rattle.value_core.specs.EventOrder.{event_order, placed_by}
use Rattle.value_core.specs.Order.{Row}
use Rattle.event_history.specs.declared.history.Entry.{Entry}
use Rattle.event_history.specs.Histories.{AreAscending, events_of}
use Rattle.event_ledger.specs.Keyed.{AreByKey}
use Rattle.flow_model.specs.Current.{history}
use Rattle.flow_model.specs.History.{key_rows}
use Rattle.cdc_scd2.specs.Cache.{IsCached}
use Rattle.cdc_scd2.specs.Keys.{AreKeyed}
use Rattle.cdc_scd2.specs.Looks.{touched}

-- what contracts see of histories: whether IGNORE NULL UPDATES holds, the places of TRACK HISTORY ON, and the events by key and then by sequence
pub record Keeping : Type 0 where
  pub ignore_null : Bool
  pub tracked : List ℕ
  pub events : List Event

-- by these rules, no event yet
abbrev pub nothing_kept : Bool → List ℕ → Keeping
nothing_kept ignore_null tracked = record { ignore_null = ignore_null; tracked = tracked; events = [] }

-- upserts and deletes in order of sequence, whose cached columns are the effective ones
pub record IsHistory (ignore_null : Bool) (entries : List Entry) : Type 0 where
  pub order : AreAscending entries
  pub cached : IsCached ignore_null entries
  pub keyed : AreKeyed (events_of entries)

abbrev pub AreHistories : Bool → List (Row × List Entry) → Type 0
AreHistories ignore_null [] = Unit {0}
AreHistories ignore_null (part ∷ parts) = IsHistory ignore_null part.1 × AreHistories ignore_null parts

-- each history has events of its own key alone
pub record AreInParts (ignore_null : Bool) (parts : List (Row × List Entry)) : Type 0 where
  pub by_key : AreByKey parts
  pub each : AreHistories ignore_null parts

-- the rows of histories, in the order of their keys
abbrev pub rows_by_key : Bool → List ℕ → List (Row × List Entry) → List Row
rows_by_key ignore_null tracked [] = []
rows_by_key ignore_null tracked (part ∷ parts) = key_rows ignore_null tracked (events_of part.1) ++ rows_by_key ignore_null tracked parts

-- kept events with further ones, each put at its place by key and then by sequence
abbrev pub all_placed : List Event → List Event → List Event
all_placed kept [] = kept
all_placed kept (event ∷ events) = all_placed (placed_by event_order event kept) events

-- kept events with the first of some further ones, before those that are left
pub record HaveFirst (kept events left now : List Event) : Type 0 where
  pub done : List Event
  pub whole : done ++ left ≡ events
  pub placed : now ≡ all_placed kept done

-- looks at the histories of events, one after another: twice the halvings of its key's history for each, twice the events that it touches, and eight
abbrev pub looks_for : (Row → ℕ) → Bool → List ℕ → List Event → List Event → ℕ
looks_for halvings ignore_null tracked kept [] = 0
looks_for halvings ignore_null tracked kept (event ∷ events) =
    (2 * halvings event.key + 2 * touched ignore_null tracked (history event.key kept) event + 8) + looks_for halvings ignore_null tracked (placed_by event_order event kept) events
