-- A store that stands, whatever texts its datasets came from.
use Rattle.std.specs.Prelude.{◌≡◌, ⊤, List, ◌++◌, Option, Some, None, Ok}
use Rattle.disk_model.specs.Disk.{DiskState, TwoFiles}
use Rattle.disk_model.specs.Moments.{LeavesOnly}
use Rattle.landing_core.specs.declared.landing.LandingFile.{LandingFile}
use Rattle.sql_tree.specs.declared.statement.Statement.{Statement}
use Rattle.commit_payloads.specs.declared.payload.Payload.{Payload}
use Rattle.plan_core.specs.declared.plan.Dataset.{Dataset as Part}
use Rattle.plan_check.specs.Checks.{Checks}
use Rattle.pair_state.specs.PairState.{HasPairState}
use Rattle.plan_texts.specs.Readings.{AreRead}
use Rattle.state_model.specs.After.{state_from}
use Rattle.state_model.specs.Dataset.{State}
use Rattle.state_steps.specs.Shapes.{AllHaveShape}
use Rattle.state_steps.specs.Stands.{Stands}
use Rattle.update_plan.specs.Commits.{AreOfPlan}
use Rattle.commit_trails.specs.Stints.{Stint}

-- each of these datasets is the one of its name in the checked plan of a pipeline text
pub record AreOfText (parts : List Part) : Type 0 where
  pub statements : List Statement
  pub read : AreRead statements
  pub plan : List Part
  pub checked : Checks statements (Ok plan)
  pub each : AreOfPlan plan parts

-- a store stands for datasets of a pipeline text: each table and its counts are what its definition gives, from scratch, for what it
-- has consumed of `ever`
pub record StandsFor (ever : List LandingFile) (state : State) (parts : List Part) : Type 0 where
  pub stands : Stands parts ever state
  pub shaped : AllHaveShape parts state
  pub of_text : AreOfText parts

abbrev pub IsStanding : List LandingFile → State → Type 0
IsStanding ever state = (parts : List Part) × StandsFor ever state parts

-- ---- payloads that are committed one after the other

-- the store stands behind each front of these payloads
abbrev pub FrontsStand : List LandingFile → State → List Payload → Type 0
FrontsStand ever state tried = (front behind : List Payload) → tried ≡ front ++ behind → IsStanding ever (state_from state front)

abbrev pub LoadedStands : List LandingFile → Option State → List Payload → Type 0
LoadedStands ever None tried = ⊤
LoadedStands ever (Some state) tried = FrontsStand ever state tried

-- so does the store that a command loaded, if it loaded one, behind each front of what the command tried on it
abbrev pub StintStands : List LandingFile → Stint → Type 0
StintStands ever stint = LoadedStands ever stint.loaded stint.tried

-- ---- on disk

-- two files hold a store that stands
abbrev pub HoldStanding : List LandingFile → TwoFiles → Type 0
HoldStanding ever files = (state : State) × HasPairState files state × IsStanding ever state

-- whatever a crash leaves is one
abbrev pub StandsOnDisk : List LandingFile → DiskState → Type 0
StandsOnDisk ever disk = (files : TwoFiles) → disk.may_leave files → HoldStanding ever files

-- and so was whatever a crash might have left at each moment on the way
abbrev pub StandsThroughout : List LandingFile → DiskState → DiskState → Type 0
StandsThroughout ever old new = LeavesOnly (λ calls was files. HoldStanding ever files) old new
