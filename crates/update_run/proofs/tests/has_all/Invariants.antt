use Rattle.std.proofs.Common.{drop}
use Rattle.pair_store.specs.Store.{store_state}
use Rattle.store_fitness.specs.Fitness.{AreStored}
use Rattle.update_run.proofs.tests.has_all.Given as goal

-- all are stored where those that are left are
abbrev pub invariant-loop-dataset : goal.invariant-loop-dataset
invariant-loop-dataset l = AreStored (drop l.dataset-index l.plan) (store_state l.store) → AreStored l.plan (store_state l.store)
