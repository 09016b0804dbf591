-- A log that is made where there is none.
use Rattle.std.specs.Prelude.{◌≡◌, ℕ, ◌<◌, ◌≤◌, List, Result, Ok, Err}
use Rattle.disk_model.specs.declared.disk.Side.TheVariants.{Left, Right}
use Rattle.disk_model.specs.Disk.{TwoFiles, DiskState, Alone, Follows, KeepsHonesty, file}
use Rattle.commit_gate.specs.declared.log.Log.{Log}
use Rattle.store_core.specs.State.{KeepsState}
use Rattle.store_core.specs.declared.refusal.StoreRefusal.{StoreRefusal}
use Rattle.store_core.specs.declared.refusal.StoreRefusal.TheVariants.{Foreign, Damaged, Full, Failed, Memory}

-- each answer and its cause, for a file that has no log and is so long
abbrev pub BeginAnswers : ℕ → ℕ → Result Log StoreRefusal → Type 0
BeginAnswers len room (Ok log) = (len ≤ 18) × (18 ≤ room)
BeginAnswers len room (Err (Foreign side was)) = (side ≡ Left) × (18 < len) × (was ≡ len)
BeginAnswers len room (Err (Damaged side at)) = ⊥
BeginAnswers len room (Err (Full end free)) = (len ≤ 18) × (room < 18) × (end ≡ 18) × (free ≡ room)
BeginAnswers len room (Err Failed) = Unit {0}
BeginAnswers len room (Err Memory) = ⊥

-- whatever a crash leaves afterwards has the state of what it might have left before, and the right file is as it was
pub record Loads (old new : DiskState) : Type 0 where
  pub crash : Follows (Alone Left KeepsState) old.may_leave new.may_leave
  pub other_file : file Right new.now ≡ file Right old.now
  pub honesty : KeepsHonesty old new

-- an image has the state of one at the beginning, and from the first call on, which is a sync, that of these bytes
abbrev pub KeepsSynced : List ℕ → ℕ → TwoFiles → TwoFiles → Type 0
KeepsSynced bytes calls was files = Alone Left KeepsState was files × (0 < calls → KeepsState bytes (file Left files))
