-- What a crash leaves of the store's file, during a run and after it.
use Rattle.std.specs.Prelude.{◌≡◌, ℕ, List, [], Option}
use Rattle.disk_model.specs.declared.disk.Side.TheVariants.{Left}
use Rattle.disk_model.specs.Disk.{DiskState, IsUnchanged, file}
use Rattle.disk_model.specs.Moments.{LeavesOnly}
use Rattle.store_core.specs.Reach.{IsLogEnd}
use Rattle.store_core.specs.Spared.{IsRefusedFile, IsSpared, LogGoesOn}
use Rattle.table_update.specs.Crash.{Leaves}
use Rattle.pipeline_run.specs.declared.command.Command.{Command}
use Rattle.pipeline_run.specs.declared.outcome.Outcome.{Outcome}
use Rattle.pipeline_run.specs.declared.outcome.Status.{Status}
use Rattle.pipeline_run.specs.Run.{Around, RunState, ComesTo, Executes, Runs, Ran}
use Rattle.pipeline_run.specs.Update.{Ended, acked_by, tried_by, loaded_by, LoadFails}

-- the disk is as it was: what a read gives and what a crash leaves
pub record KeepsDisk (timed : Type 0) (old new : DiskState) : Type 0 where
  pub unchanged : IsUnchanged old new
  pub moments : timed → LeavesOnly (λ calls was files. (calls ≡ 0) × (files ≡ was)) old new

-- What a crash leaves of updates in order. At each moment of them it is the state in the beginning with a front of all
-- payloads that they tried. Once they have ended it is the one with all, or with those that were acknowledged. Until the
-- first of them has synced the file, it may be the state of what a crash might have left in the beginning.
pub record LeavesAll (timed : Type 0) (updates : List Ended) (old new : DiskState) : Type 0 where
  pub leaves : Leaves timed (loaded_by updates) (LoadFails updates) old.now.left (acked_by updates) (tried_by updates) old new
  pub none : updates ≡ [] → KeepsDisk timed old new

-- what becomes of a file that isn't empty: one that is refused is spared, and a live log goes on from its end
pub record KeepsStore (timed : Type 0) (room : ℕ) (old new : DiskState) : Type 0 where
  pub refused : IsRefusedFile room (file Left old.now) → IsSpared timed old new
  pub log : (at : ℕ) → IsLogEnd at (file Left old.now) → LogGoesOn timed at old new

-- a command came to this outcome
pub record HasOutcome (timed : Type 0) (command : Command) (around : Around) (outcome : Outcome) (old new : DiskState) : Type 0 where
  pub updates : List Ended
  pub comes : ComesTo command around outcome updates old.now.left new.now.left
  pub leaves : LeavesAll timed updates old new

-- it was executed
pub record HasExecuted (timed : Type 0) (command : Command) (around : Around) (answer : Status) (old new : RunState) (was now : DiskState) : Type 0 where
  pub updates : List Ended
  pub executes : Executes command around answer updates old new
  pub leaves : LeavesAll timed updates was now

-- commands were executed in order
pub record HasRunAll (timed : Type 0) (commands : List Command) (around : Around) (answer : Status) (old new : RunState) (was now : DiskState) : Type 0 where
  pub updates : List Ended
  pub runs : Runs around commands answer updates old new
  pub leaves : LeavesAll timed updates was now

-- a whole run: what it stored, printed and answered, and what a crash leaves
pub record HasRun (timed : Type 0) (asked : Option (List Command)) (around : Around) (answer : Status) (old new : RunState) (was now : DiskState) : Type 0 where
  pub updates : List Ended
  pub ran : Ran asked around answer updates old new
  pub leaves : LeavesAll timed updates was now
