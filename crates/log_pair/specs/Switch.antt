-- What a switch to the other file does.
use Rattle.std.specs.Prelude.{◌≡◌, ℕ, ◌+◌, ◌<◌, List, [], ◌∷◌, Some, length, Result, IfOk, OnOk}
use Rattle.disk_model.specs.declared.disk.Side.{Side}
use Rattle.disk_model.specs.Disk.{TwoFiles, DiskState, KeepsHonesty, file, other}
use Rattle.disk_model.specs.Moments.{LeavesOnly}
use Rattle.commit_gate.specs.AtRest.{LeavesFile}
use Rattle.commit_gate.specs.Fill.{filled_end, new_log}
use Rattle.commit_gate.specs.Shut.{shut_calls}
use Rattle.log_pair.specs.Pair.{HoldsOrBase}
use Rattle.log_pair.specs.AtRest.{pair_side, pair_epoch, IsPairAtRest}
use Rattle.log_pair.specs.declared.pair.Pair.{Pair}

-- where the new log would end, behind its closed gate
abbrev pub switched_end : Pair → List ℕ → ℕ
switched_end pair base = filled_end (pair_epoch pair + 1) (Some base)

-- the pair that a switch leaves
pub record IsSwitched (pair later : Pair) (base : List ℕ) (disk : DiskState) : Type 0 where
  pub turned : pair_side later ≡ other (pair_side pair)
  pub next : pair_epoch later ≡ pair_epoch pair + 1
  pub at_rest : IsPairAtRest later (base ∷ []) disk

pub record Switches {T E : Type 0} (pair later : Pair) (bodies : List (List ℕ)) (base : List ℕ) (result : Result T E) (old new : DiskState) : Type 0 where
  -- once it answered `Ok`, the base alone is there and on the disk
  pub acknowledged : OnOk result (IsSwitched pair later base new)
  -- the other file is a new log with the base and no byte more
  pub written : OnOk result (file (other (pair_side pair)) new.now ≡ new_log (pair_epoch pair + 1) (Some base))
  -- what a crash leaves afterwards, an error or not: the old bodies, or the base alone
  pub crash : (files : TwoFiles) → new.may_leave files → HoldsOrBase (Unit {0}) (pair_side pair) (pair_epoch pair) bodies base files
  -- the old log stays as it is
  pub old_file : LeavesFile (pair_side pair) old new
  pub honesty : KeepsHonesty old new

-- how many calls a switch of such files makes before it writes the new log's header gate: those that shut the other file,
-- and the three that put the new log behind its closed gate on the disk
abbrev pub calls_before_gate : Pair → TwoFiles → ℕ
calls_before_gate pair now = shut_calls (file (other (pair_side pair)) now) + 3

-- Up to the write of the new log's header gate a crash leaves the old bodies. Then it leaves them, or the base alone. That
-- write is the last call but one of a switch that answers `Ok`.
pub record SwitchesByGate {T E : Type 0} (pair : Pair) (bodies : List (List ℕ)) (base : List ℕ) (result : Result T E) (old new : DiskState) : Type 0 where
  pub leaves : LeavesOnly (λ calls was files. HoldsOrBase (calls_before_gate pair old.now < calls) (pair_side pair) (pair_epoch pair) bodies base files) old new
  pub calls : OnOk result (new.moment ≡ old.moment + calls_before_gate pair old.now + 2)
