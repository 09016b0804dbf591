-- How the two files come from one state to the next.
use Rattle.std.specs.Prelude.{◌≡◌, ℕ, ◌+◌, ◌<◌, Result, OnOk}
use Rattle.disk_model.specs.Disk.{TwoFiles, DiskState, KeepsHonesty}
use Rattle.disk_model.specs.Moments.{LeavesOnly}
use Rattle.state_model.specs.Dataset.{State}
use Rattle.pair_state.specs.PairState.{HasPairState, HasPairStateOrNext}

pub record ReachesNext {T E : Type 0} (state next : State) (result : Result T E) (old new : DiskState) : Type 0 where
  -- once it answered `Ok`, whatever a crash leaves has the next state
  pub acknowledged : OnOk result ((files : TwoFiles) → new.may_leave files → HasPairState files next)
  -- what a crash leaves afterwards, an error or not: the state before, or the next one
  pub crash : (files : TwoFiles) → new.may_leave files → HasPairStateOrNext (Unit {0}) state next files
  pub honesty : KeepsHonesty old new

-- For so many calls a crash leaves the state before. Then, from the write of the gate on, it leaves that or the next one.
-- That write is the last call but one of a call that answers `Ok`.
pub record ReachesNextByGate {T E : Type 0} (before : ℕ) (state next : State) (result : Result T E) (old new : DiskState) : Type 0 where
  pub leaves : LeavesOnly (λ calls was files. HasPairStateOrNext (before < calls) state next files) old new
  pub calls : OnOk result (new.moment ≡ old.moment + before + 2)
