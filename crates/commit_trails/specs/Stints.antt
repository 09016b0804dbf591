-- What one command, and then commands in order, do to a store: the state that was loaded, if it was, and the payloads that were
-- acknowledged and tried on it.
use Rattle.std.specs.Prelude.{◌≡◌, List, [], ◌++◌, Option, Some, None}
use Rattle.disk_model.specs.Disk.{DiskState}
use Rattle.commit_payloads.specs.declared.payload.Payload.{Payload}
use Rattle.state_model.specs.Dataset.{State}
use Rattle.commit_trails.specs.Trails.{LoadedTrail, UnloadedTrail}

pub record Stint : Type 0 where
  pub loaded : Option State
  pub acked : List Payload
  pub tried : List Payload

-- a command that leaves the store alone, or doesn't come to load it
abbrev pub idle : Stint
idle = record { loaded = None; acked = []; tried = [] }

-- one that loaded a store of this state
abbrev pub over : State → List Payload → List Payload → Stint
over state acked tried = record { loaded = Some state; acked = acked; tried = tried }

-- two commands in order
abbrev pub joined_from : Option State → Stint → Stint → Stint
joined_from None first second = second
joined_from (Some state) first second = over state (first.acked ++ second.acked) (first.tried ++ second.tried)

abbrev pub joined : Stint → Stint → Stint
joined first second = joined_from first.loaded first second

-- what a crash leaves of it
abbrev pub TrailOf : Type 0 → Option State → Stint → DiskState → DiskState → Type 0
TrailOf timed None stint old new = (stint.acked ≡ []) × (stint.tried ≡ []) × UnloadedTrail timed old new
TrailOf timed (Some state) stint old new = LoadedTrail timed state stint.acked stint.tried old new

abbrev pub StintTrail : Type 0 → Stint → DiskState → DiskState → Type 0
StintTrail timed stint old new = TrailOf timed stint.loaded stint old new
