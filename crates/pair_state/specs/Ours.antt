-- A disk that only a store has written to.
use Rattle.disk_model.specs.Disk.{TwoFiles, DiskState}
use Rattle.state_model.specs.Dataset.{State}
use Rattle.pair_state.specs.PairState.{HasPairState}

-- whatever a crash may leave of both files has a state, so it is neither foreign nor refused, and no two logs of one epoch
abbrev pub IsOursPair : DiskState → Type 0
IsOursPair disk = (files : TwoFiles) → disk.may_leave files → (state : State) × HasPairState files state
