-- Payloads that were worked by hand.
use Rattle.std.specs.Prelude.{◌≡◌, ℕ, codes, pos, true, false, [], ◌∷◌}
use Rattle.value_core.specs.declared.cursor.Cursor.TheVariants.{Files, At, Never}
use Rattle.value_core.specs.declared.event.Event.{Event}
use Rattle.value_core.specs.declared.event.EventKind.TheVariants.{Upsert}
use Rattle.value_core.specs.declared.value.Kind.TheVariants as kind
use Rattle.value_core.specs.declared.value.Value.TheVariants.{Int}
use Rattle.value_core.specs.Changes.{change_of}
use Rattle.value_core.specs.Order.{Row}
use Rattle.table_versions.specs.Versions.{versions_of}
use Rattle.commit_payloads.specs.declared.definition.Definition.{Definition}
use Rattle.commit_payloads.specs.declared.definition.StoredAction.TheVariants.{Warn}
use Rattle.commit_payloads.specs.declared.definition.StoredBody.TheVariants as body
use Rattle.commit_payloads.specs.declared.definition.StoredOrigin.TheVariants as origin
use Rattle.commit_payloads.specs.declared.payload.Payload.TheVariants as payload
use Rattle.state_model.specs.After.{after_payload, begun}
use Rattle.state_model.specs.Dataset.{Dataset}
use Rattle.state_model.specs.Saved.{compacted}

-- the row of one number
abbrev pub row : ℕ → Row
row n = Int (pos n) ∷ []

-- ---- three datasets: files into `s`, a change feed of `s` into `t`, and a view `v` of `s`

abbrev pub s_is : Definition
s_is = record {
  name = codes "s";
  text = [];
  body = body.Append;
  columns = record { name = codes "a"; kind = kind.Int } ∷ [];
  expectations = [];
  flows = record { name = codes "s"; origin = origin.Folder (codes "in") } ∷ [];
  keys = [];
  sequence = [];
}

abbrev pub t_is : Definition
t_is = record s_is {
  name = codes "t";
  body = body.Scd1;
  expectations = record { name = codes "x"; action = Warn } ∷ [];
  flows = record { name = codes "f"; origin = origin.Table (codes "S") } ∷ [];
  keys = 0 ∷ [];
  sequence = kind.Int ∷ [];
}

abbrev pub v_is : Definition
v_is = record t_is { name = codes "v"; body = body.View; flows = record { name = codes "v"; origin = origin.Table (codes "s") } ∷ []; keys = []; sequence = [] }

-- the event of a key at a sequence
abbrev pub event : ℕ → ℕ → Event
event key sequence = record { kind = Upsert; sequence = row sequence; key = row key; columns = row key }

-- ---- a batch

-- `t` with two events
abbrev pub fed : Dataset
fed = record {
  definition = t_is;
  table = versions_of 0 [] (change_of [] (row 1 ∷ row 3 ∷ []) ∷ []);
  cursors = At 1 ∷ [];
  counts = record { passed = 2; failed = 0 } ∷ [];
  events = event 1 7 ∷ event 3 5 ∷ [];
}

-- an event that comes late stands among the others by its key, counts are added, and names are found whatever their case
abbrev pub Taken : Type 0
Taken =
    after_payload (begun s_is ∷ fed ∷ [])
    (payload.Take (record {
      table = codes "T";
      flow = codes "F";
      cursor = At 2;
      change = change_of [] (row 2 ∷ []);
      counts = record { passed = 1; failed = 4 } ∷ [];
      events = event 2 6 ∷ event 1 4 ∷ [];
    }))
    ≡ (begun s_is ∷ record fed {
      table = versions_of 0 [] (change_of [] (row 1 ∷ row 3 ∷ []) ∷ change_of [] (row 2 ∷ []) ∷ []);
      cursors = At 2 ∷ [];
      counts = record { passed = 3; failed = 4 } ∷ [];
      events = event 1 4 ∷ event 1 7 ∷ event 2 6 ∷ event 3 5 ∷ [];
    } ∷ [])

-- ---- a refresh

-- `v` once it was refreshed
abbrev pub shown : Dataset
shown = record {
  definition = v_is;
  table = versions_of 0 [] (change_of [] (row 1 ∷ []) ∷ []);
  cursors = At 1 ∷ [];
  counts = record { passed = 9; failed = 9 } ∷ [];
  events = [];
}

-- counts take the place of the old ones
abbrev pub Refreshed : Type 0
Refreshed =
    after_payload (shown ∷ []) (payload.Refresh (record { view = codes "v"; cursor = At 2; change = change_of (row 1 ∷ []) (row 2 ∷ []); counts = record { passed = 1; failed = 0 } ∷ [] }))
    ≡ record shown { table = versions_of 0 [] (change_of [] (row 1 ∷ []) ∷ change_of (row 1 ∷ []) (row 2 ∷ []) ∷ []); cursors = At 2 ∷ []; counts = record { passed = 1; failed = 0 } ∷ [] } ∷ []

-- ---- a reset

-- rows, counts, events and positions go by one version more, and a view that isn't named stays
abbrev pub Emptied : Type 0
Emptied =
    after_payload (fed ∷ shown ∷ []) (payload.Reset (codes "T" ∷ []))
    ≡ (record fed {
      table = versions_of 0 [] (change_of [] (row 1 ∷ row 3 ∷ []) ∷ change_of (row 1 ∷ row 3 ∷ []) [] ∷ []);
      cursors = Never ∷ [];
      counts = record { passed = 0; failed = 0 } ∷ [];
      events = [];
    } ∷ shown ∷ [])

-- ---- definitions

-- new datasets begin behind the old ones, and all of them where the definition is fresh
abbrev pub Added : Type 0
Added = after_payload (fed ∷ []) (payload.Define false (t_is ∷ v_is ∷ [])) ≡ fed ∷ begun v_is ∷ []

abbrev pub Fresh : Type 0
Fresh = after_payload (fed ∷ []) (payload.Define true (t_is ∷ v_is ∷ [])) ≡ begun t_is ∷ begun v_is ∷ []

-- ---- older versions are folded away

-- `s` with four versions
abbrev pub grown_s : Dataset
grown_s = record (begun s_is) { table = versions_of 0 [] (change_of [] (row 1 ∷ []) ∷ change_of [] (row 2 ∷ []) ∷ change_of [] (row 3 ∷ []) ∷ change_of [] (row 4 ∷ []) ∷ []); cursors = Files [] ∷ [] }

-- the base goes to the least version at which a reader stands, and to the version now where none reads
abbrev pub Compacted : Type 0
Compacted =
    compacted (grown_s ∷ record fed { cursors = At 3 ∷ [] } ∷ record shown { cursors = At 2 ∷ [] } ∷ [])
    ≡ (record grown_s { table = versions_of 2 (row 1 ∷ row 2 ∷ []) (change_of [] (row 3 ∷ []) ∷ change_of [] (row 4 ∷ []) ∷ []) } ∷ record fed {
      table = versions_of 1 (row 1 ∷ row 3 ∷ []) [];
      cursors = At 3 ∷ [];
    } ∷ record shown { table = versions_of 1 (row 1 ∷ []) []; cursors = At 2 ∷ [] } ∷ [])
