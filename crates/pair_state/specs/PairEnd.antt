-- Where the live log of the greater epoch ends.
use Rattle.std.specs.Prelude.{◌≡◌, ◌⊎◌, ℕ, List, length}
use Rattle.disk_model.specs.declared.disk.Side.{Side}
use Rattle.disk_model.specs.declared.disk.Side.TheVariants.{Left}
use Rattle.disk_model.specs.Disk.{TwoFiles}
use Rattle.commit_gate.specs.Log.{log_bytes}
use Rattle.log_pair.specs.Pair.{HoldsIn, IsUnbegun}

-- its closed gate stands at this place
pub record IsPairEnd (side : Side) (end : ℕ) (files : TwoFiles) : Type 0 where
  pub epoch : ℕ
  pub bodies : List (List ℕ)
  pub holds : HoldsIn side epoch bodies files
  pub place : end ≡ length (log_bytes epoch bodies)

-- the file and the place at which the next record will stand: the closed gate of that log or, where there is none yet, that
-- of a first log
abbrev pub PairEndsAt : Side → ℕ → TwoFiles → Type 0
PairEndsAt side end files = IsPairEnd side end files ⊎ (IsUnbegun files × (side ≡ Left) × (end ≡ 17))
