-- A disk that only this store has written to.
use Rattle.disk_model.specs.declared.disk.Side.TheVariants.{Left}
use Rattle.disk_model.specs.Disk.{TwoFiles, DiskState, file}
use Rattle.store_state.specs.State.{State}
use Rattle.store_core.specs.State.{HasState}

-- whatever a crash may leave now has a state, so it is neither foreign nor damaged
abbrev pub IsOurs : DiskState → Type 0
IsOurs disk = (files : TwoFiles) → disk.may_leave files → (state : State) × HasState (file Left files) state
