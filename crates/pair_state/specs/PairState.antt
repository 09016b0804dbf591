-- The state that two files stand for, or why they stand for none.
use Rattle.std.specs.Prelude.{◌≡◌, ◌⊎◌, ◌<◌, ℕ, List}
use Rattle.disk_model.specs.declared.disk.Side.{Side}
use Rattle.disk_model.specs.Disk.{TwoFiles}
use Rattle.log_pair.specs.Pair.{HasPairBodies, HoldsIn, IsDamagedIn, IsForeign, IsSameEpoch, IsUnbegun}
use Rattle.state_model.specs.Dataset.{State, empty_state}
use Rattle.pair_state.specs.Leads.{LeadsTo, IsUnfitIn}

-- the state after the bodies of the live log of the greater epoch, and the empty one before the first log
pub record HasPairState (files : TwoFiles) (state : State) : Type 0 where
  pub bodies : List (List ℕ)
  pub contents : HasPairBodies bodies files
  pub leads : LeadsTo empty_state bodies state

-- the live log of the greater epoch is whole, and has a record, whose gate is at this place, that is no payload or one
-- that doesn't follow those before it
pub record IsUnfitInPair (side : Side) (at : ℕ) (files : TwoFiles) : Type 0 where
  pub epoch : ℕ
  pub bodies : List (List ℕ)
  pub holds : HoldsIn side epoch bodies files
  pub unfit : IsUnfitIn at bodies

-- the live log of the greater epoch is damaged at this place, or whole with such a record there
abbrev pub IsRefusedIn : Side → ℕ → TwoFiles → Type 0
IsRefusedIn side at files = IsDamagedIn side at files ⊎ IsUnfitInPair side at files

-- two files that a load refuses, where each has this room: a foreign one, two logs of one epoch, a refused one, or no room
-- for the first log
abbrev pub IsRefusedPair : ℕ → TwoFiles → Type 0
IsRefusedPair room files =
    ((side : Side) × (len : ℕ) × IsForeign side len files) ⊎ (((epoch : ℕ) × IsSameEpoch epoch files) ⊎ (((side : Side) × (at : ℕ) × IsRefusedIn side at files) ⊎ (IsUnbegun files × (room < 18))))

-- each state of the two files before is one of those after
abbrev pub KeepsPairState : TwoFiles → TwoFiles → Type 0
KeepsPairState was files = (state : State) → HasPairState was state → HasPairState files state

-- this state, or the next one, but that only where `may_be_there` holds
abbrev pub HasPairStateOrNext : Type 0 → State → State → TwoFiles → Type 0
HasPairStateOrNext may_be_there state next files = HasPairState files state ⊎ (may_be_there × HasPairState files next)
