-- An empty file is a store that stands.
use Rattle.std.proofs.Common.{inl, inr, List, [], refl, arith}
use Rattle.commit_gate.specs.Log.{IsDead}
use Rattle.landing_core.specs.declared.landing.LandingFile.{LandingFile}
use Rattle.store_state.specs.State.{State}
use Rattle.store_core.specs.State.{HasState, IsBegun}
use Rattle.store_core.proofs.StateLemmas.{one_state}
use Rattle.table_update.specs.declared.table.AppendTable.{AppendTable}
use Rattle.table_update.specs.Stands.{Stands}

nothing_is_dead : IsDead []
nothing_is_dead epoch live = absurd (cc live.whole)

nothing_is_begun : IsBegun []
nothing_is_begun = (nothing_is_dead, omega arith)

pub new_stands : (table : AppendTable) (ever : List LandingFile) (state : State) → HasState [] state → Stands table ever state
new_stands table ever state has = inl (one_state [] state [] (omega arith) has (inr (nothing_is_begun, refl)))
