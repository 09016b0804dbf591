-- A store between two calls.
use Rattle.std.specs.Prelude.{◌≡◌, ℕ, List, Option}
use Rattle.disk_model.specs.declared.disk.Side.TheVariants.{Left}
use Rattle.disk_model.specs.Disk.{DiskState}
use Rattle.commit_gate.specs.declared.log.Log.{Log}
use Rattle.commit_gate.specs.AtRest.{log_side, IsAtRest}
use Rattle.store_state.specs.State.{State, empty_state}
use Rattle.store_core.specs.State.{LeadsTo}
use Rattle.store_core.specs.declared.store.Store.{Store}

abbrev pub store_state : Store → State
store_state store = store.contents

abbrev pub store_log : Store → Log
store_log store = store.log

-- the count of faults at which the store broke, if it did
abbrev pub store_broken : Store → Option ℕ
store_broken store = store.broken

-- the left file is as the store left it, all of it on the disk: a log whose bodies lead to the store's state
pub record IsAsLeft (store : Store) (disk : DiskState) : Type 0 where
  pub bodies : List (List ℕ)
  pub side : log_side (store_log store) ≡ Left
  pub at_rest : IsAtRest (store_log store) bodies disk
  pub leads : LeadsTo empty_state bodies (store_state store)
