-- A store between two calls.
use Rattle.std.specs.Prelude.{ℕ, List, Option}
use Rattle.disk_model.specs.Disk.{DiskState}
use Rattle.log_pair.specs.AtRest.{IsPairAtRest}
use Rattle.log_pair.specs.declared.pair.Pair.{Pair}
use Rattle.state_model.specs.Dataset.{State, empty_state}
use Rattle.pair_state.specs.Leads.{LeadsTo}
use Rattle.pair_store.specs.declared.store.Store.{Store}

abbrev pub store_state : Store → State
store_state store = store.contents

abbrev pub store_pair : Store → Pair
store_pair store = store.pair

-- the count of faults at which the store broke, if it did
abbrev pub store_broken : Store → Option ℕ
store_broken store = store.broken

-- both files are as the store left them, all of it on the disk: the bodies of its log lead to the store's state
pub record AreAsLeft (store : Store) (disk : DiskState) : Type 0 where
  pub bodies : List (List ℕ)
  pub at_rest : IsPairAtRest (store_pair store) bodies disk
  pub leads : LeadsTo empty_state bodies (store_state store)
