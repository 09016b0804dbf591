-- What a load answers, and what it does to the disk.
use Rattle.std.specs.Prelude.{◌≡◌, ◌⊎◌, ◌<◌, ◌≤◌, ℕ, List, Result, Ok, Err}
use Rattle.disk_model.specs.declared.disk.Side.TheVariants.{Left}
use Rattle.store_state.specs.State.{State}
use Rattle.store_core.specs.State.{HasState, IsBegun, IsForeign, IsRefusedAt}
use Rattle.store_core.specs.Store.{store_state}
use Rattle.store_core.specs.declared.store.Store.{Store}
use Rattle.store_core.specs.declared.refusal.StoreRefusal.{StoreRefusal}
use Rattle.store_core.specs.declared.refusal.StoreRefusal.TheVariants.{Foreign, Damaged, Full, Failed, Memory}

-- each answer and its cause, for a left file with these bytes and this room
abbrev pub LoadAnswers : ℕ → List ℕ → Result Store StoreRefusal → Type 0
LoadAnswers room bytes (Ok store) = HasState bytes (store_state store) × (IsBegun bytes → 18 ≤ room)
LoadAnswers room bytes (Err (Foreign side len)) = (side ≡ Left) × IsForeign len bytes
LoadAnswers room bytes (Err (Damaged side at)) = (side ≡ Left) × IsRefusedAt at bytes
LoadAnswers room bytes (Err (Full end free)) = IsBegun bytes × (room < 18) × (end ≡ 18) × (free ≡ room)
LoadAnswers room bytes (Err Failed) = Unit {0}
LoadAnswers room bytes (Err Memory) = Unit {0}

-- this refusal, unless the disk failed or there was no memory
abbrev pub Refuses : StoreRefusal → Result Store StoreRefusal → Type 0
Refuses refusal (Ok store) = ⊥
Refuses refusal (Err other) = (other ≡ refusal) ⊎ ((other ≡ Failed) ⊎ (other ≡ Memory))

-- a store of this state, unless the disk failed or there was no memory
abbrev pub Accepts : State → Result Store StoreRefusal → Type 0
Accepts state (Ok store) = store_state store ≡ state
Accepts state (Err other) = (other ≡ Failed) ⊎ (other ≡ Memory)

-- each cause and its answer
pub record LoadIsExact (room : ℕ) (bytes : List ℕ) (result : Result Store StoreRefusal) : Type 0 where
  pub accepted : (state : State) → HasState bytes state → (IsBegun bytes → 18 ≤ room) → Accepts state result
  pub foreign : (len : ℕ) → IsForeign len bytes → Refuses (Foreign Left len) result
  pub damaged : (at : ℕ) → IsRefusedAt at bytes → Refuses (Damaged Left at) result
  pub full : IsBegun bytes → room < 18 → Refuses (Full 18 room) result
