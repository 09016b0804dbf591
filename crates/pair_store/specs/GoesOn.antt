-- A log that goes on in its file.
use Rattle.std.specs.Prelude.{◌≡◌, ℕ, ◌<◌, List, length, take}
use Rattle.disk_model.specs.declared.disk.Side.{Side}
use Rattle.disk_model.specs.Disk.{TwoFiles, DiskState, file}
use Rattle.disk_model.specs.Moments.{LeavesOnly}

-- the first so many of these bytes, and a byte behind them
pub record GoesOn (at : ℕ) (bytes image : List ℕ) : Type 0 where
  pub front : take at image ≡ take at bytes
  pub behind : at < length image

-- The log in this file, which ends at this place, goes on: what is read begins with all that it has, and so does whatever
-- a crash leaves, afterwards and at each moment.
pub record PairGoesOn (timed : Type 0) (side : Side) (at : ℕ) (old new : DiskState) : Type 0 where
  pub reads : GoesOn at (file side old.now) (file side new.now)
  pub crash : (files : TwoFiles) → new.may_leave files → GoesOn at (file side old.now) (file side files)
  pub each : timed → LeavesOnly (λ calls was files. GoesOn at (file side old.now) (file side files)) old new
