-- How runs end over devices that don't fail.
use Rattle.std.specs.Prelude.{◌≡◌, ◌⊎◌, ℕ, List, [], ◌∷◌, Option, Some}
use Rattle.disk_model.specs.Faults.{Rose}
use Rattle.value_core.specs.declared.cursor.FilePlace.{FilePlace}
use Rattle.landing_core.specs.declared.landing.Listed.{Listed}
use Rattle.store_state.specs.State.{Dataset, State}
use Rattle.table_update.specs.declared.table.AppendTable.{AppendTable}
use Rattle.table_update.specs.Ends as tables
use Rattle.table_update.specs.Ends.{Alike}
use Rattle.table_update.specs.Flow.{shrunk}
use Rattle.table_update.specs.Table.{HoldsTable}
use Rattle.table_update.specs.Update.{Loaded}
use Rattle.pipeline_run.specs.declared.command.Command.{Command}
use Rattle.pipeline_run.specs.declared.command.Command.TheVariants as command
use Rattle.pipeline_run.specs.declared.outcome.Status.{Status}
use Rattle.pipeline_run.specs.declared.outcome.Status.TheVariants as status
use Rattle.pipeline_run.specs.Pipeline.{HasPlan}
use Rattle.pipeline_run.specs.Run.{Around, found_by, RunState, Ran}
use Rattle.pipeline_run.specs.Table.{plan_of}
use Rattle.pipeline_run.specs.Update.{Ended, tried_by}

-- no device's count of failures rose between these states of a run
pub record NothingFailed (old new : RunState) : Type 0 where
  pub text : Rose old.faults.text new.faults.text → ⊥
  pub disk : Rose old.faults.disk new.faults.disk → ⊥
  pub landing : Rose old.faults.landing new.faults.landing → ⊥
  pub sink : Rose old.faults.sink new.faults.sink → ⊥

-- a run that ended with this answer, and neither for a device nor for want of memory
pub record RanWell (asked : Option (List Command)) (around : Around) (answer : Status) (updates : List Ended) (old new : RunState) : Type 0 where
  pub ran : Ran asked around answer updates old new
  pub fine : NothingFailed old new
  pub memory : answer ≡ status.Memory → ⊥

-- a store takes two files for the same: they are, or each loads as the other does and goes on at the same place
abbrev pub SameFile : List ℕ → List ℕ → Type 0
SameFile file other = (file ≡ other) ⊎ Alike file other

-- the answer, what was printed and what was committed are the same, and where that is all a success, so are the files
pub record SameEnd (answer other : Status) (updates others : List Ended) (new also : RunState) : Type 0 where
  pub answers : answer ≡ other
  pub printed : new.printed ≡ also.printed
  pub tried : tried_by updates ≡ tried_by others
  pub files : answer ≡ status.Ok → SameFile new.file also.file

-- an update over this file has nothing to refuse: the text's statements break no check, the file is a store that has the
-- pipeline's table or nothing, no listed file is shorter than its place, and there is room
pub record NothingRefused (around : Around) (file : List ℕ) : Type 0 where
  pub plan : Option AppendTable
  pub checks : HasPlan around.text (plan_of plan)
  pub takes : tables.NothingRefused plan (found_by around file)

-- a store that has the pipeline's table, and a listed file that is shorter than how far the table has read it
pub record HasShrunk (around : Around) (file : List ℕ) : Type 0 where
  pub table : AppendTable
  pub checks : HasPlan around.text (plan_of (Some table))
  pub state : State
  pub at : ℕ
  pub loaded : Loaded (found_by around file) state at
  pub dataset : Dataset
  pub places : List FilePlace
  pub holds : HoldsTable table state dataset places
  pub listed : Listed
  pub is : shrunk table around.landing places ≡ Some listed

-- commands that change nothing
abbrev pub AreValidates : List Command → Type 0
AreValidates [] = Unit {0}
AreValidates (command.Validate ∷ commands) = AreValidates commands
AreValidates (command.Update ∷ commands) = ⊥

-- commands with an update among them
abbrev pub HaveUpdate : List Command → Type 0
HaveUpdate [] = ⊥
HaveUpdate (command.Validate ∷ commands) = HaveUpdate commands
HaveUpdate (command.Update ∷ commands) = Unit {0}
