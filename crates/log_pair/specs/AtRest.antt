-- A pair of logs between two calls, and what an append makes of it.
use Rattle.std.specs.Prelude.{◌≡◌, ℕ, ◌+◌, ◌<◌, ◌^◌, List, [], ◌∷◌, ◌++◌, Result, OnOk}
use Rattle.disk_model.specs.declared.disk.Side.{Side}
use Rattle.disk_model.specs.Disk.{TwoFiles, DiskState, KeepsHonesty, IsOnDisk, file, other}
use Rattle.disk_model.specs.Moments.{LeavesOnly}
use Rattle.commit_gate.specs.Log.{closed_gate, log_bytes}
use Rattle.commit_gate.specs.AtRest.{log_side, log_epoch, log_end, IsAtRest, LeavesFile}
use Rattle.commit_gate.specs.declared.log.Log.{Log}
use Rattle.log_pair.specs.Pair.{IsOlder, HoldsOrOneMore}
use Rattle.log_pair.specs.declared.pair.Pair.{Pair}

abbrev pub pair_log : Pair → Log
pair_log pair = pair.log

abbrev pub pair_side : Pair → Side
pair_side pair = log_side pair.log

abbrev pub pair_epoch : Pair → ℕ
pair_epoch pair = log_epoch pair.log

-- the place of the closed gate
abbrev pub pair_end : Pair → ℕ
pair_end pair = log_end pair.log

-- both files are as the pair left them, all of it on the disk: the log with these bodies, and no log or an older one
pub record IsPairAtRest (pair : Pair) (bodies : List (List ℕ)) (disk : DiskState) : Type 0 where
  pub fits : pair_epoch pair < 2 ^ 64
  pub at_rest : IsAtRest (pair_log pair) bodies disk
  pub older : IsOlder (pair_epoch pair) (file (other (pair_side pair)) disk.now)
  pub durable : IsOnDisk (other (pair_side pair)) disk

-- what an append does
pub record PairAppends {T E : Type 0} (pair later : Pair) (bodies : List (List ℕ)) (body : List ℕ) (result : Result T E) (old new : DiskState) : Type 0 where
  -- once it answered `Ok`, the body is there and on the disk
  pub acknowledged : OnOk result (IsPairAtRest later (bodies ++ body ∷ []) new)
  -- behind it the gate stands closed as 00
  pub written : OnOk result ((rest : List ℕ) × (file (pair_side pair) new.now ≡ log_bytes (pair_epoch pair) (bodies ++ body ∷ []) ++ closed_gate ∷ rest))
  -- what a crash leaves afterwards, an error or not: the bodies from before, with the new one or without
  pub crash : (files : TwoFiles) → new.may_leave files → HoldsOrOneMore (Unit {0}) (pair_side pair) (pair_epoch pair) bodies body files
  pub other_file : LeavesFile (other (pair_side pair)) old new
  pub honesty : KeepsHonesty old new

-- Up to the write of the gate, its third call, a crash leaves the bodies from before. Then it leaves them with the new
-- one or without.
pub record PairAppendsByGate {T E : Type 0} (pair : Pair) (bodies : List (List ℕ)) (body : List ℕ) (result : Result T E) (old new : DiskState) : Type 0 where
  pub leaves : LeavesOnly (λ calls was files. HoldsOrOneMore (2 < calls) (pair_side pair) (pair_epoch pair) bodies body files) old new
  pub calls : OnOk result (new.moment ≡ old.moment + 4)
