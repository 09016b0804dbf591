-- What is left alone: a file that a load makes no log in, and all that a live log has.
use Rattle.std.specs.Prelude.{◌≡◌, ◌⊎◌, ℕ, ◌<◌, ◌≤◌, List, length, take}
use Rattle.disk_model.specs.declared.disk.Side.TheVariants.{Left}
use Rattle.disk_model.specs.Disk.{DiskState, Alone, Follows, file}
use Rattle.disk_model.specs.Moments.{LeavesOnly}
use Rattle.commit_gate.specs.Head.{IsUntouched, Same}
use Rattle.store_core.specs.State.{IsBegun, IsForeign, IsRefusedAt}

-- a load makes a log of the file: there is none yet, and it has room
abbrev pub MayBegin : ℕ → List ℕ → Type 0
MayBegin room bytes = IsBegun bytes × (18 ≤ room)

-- a load refuses the file: it is no store's, it is damaged, or it has no room for its first log
abbrev pub IsRefusedFile : ℕ → List ℕ → Type 0
IsRefusedFile room bytes = ((len : ℕ) × IsForeign len bytes) ⊎ (((at : ℕ) × IsRefusedAt at bytes) ⊎ (IsBegun bytes × (room < 18)))

-- The files are spared: a read gives of both what it gave, and neither afterwards nor at a moment in between does a
-- crash leave what it couldn't have left before.
pub record IsSpared (timed : Type 0) (old new : DiskState) : Type 0 where
  pub untouched : IsUntouched old new
  pub each : timed → LeavesOnly Same old new

-- the first so many of these bytes, and a byte behind them
pub record GoesOn (at : ℕ) (bytes image : List ℕ) : Type 0 where
  pub front : take at image ≡ take at bytes
  pub behind : at < length image

-- an image as it was, or one in which these bytes go on
abbrev pub IsSameOrGoesOn : ℕ → List ℕ → List ℕ → List ℕ → Type 0
IsSameOrGoesOn at bytes was image = (image ≡ was) ⊎ GoesOn at bytes image

-- The log of the left file, which ends at this place, goes on: what is read begins with all that it has, and so does
-- whatever a crash leaves, afterwards and at each moment, unless it might have left that before.
pub record LogGoesOn (timed : Type 0) (at : ℕ) (old new : DiskState) : Type 0 where
  pub reads : GoesOn at (file Left old.now) (file Left new.now)
  pub crash : Follows (Alone Left (IsSameOrGoesOn at (file Left old.now))) old.may_leave new.may_leave
  pub each : timed → LeavesOnly (λ _. Alone Left (IsSameOrGoesOn at (file Left old.now))) old new
