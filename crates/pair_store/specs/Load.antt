-- What a load answers, and what it does to the disk.
use Rattle.std.specs.Prelude.{◌≡◌, ◌⊎◌, ◌<◌, ◌≤◌, ℕ, List, None, Result, Ok, Err}
use Rattle.disk_model.specs.declared.disk.Side.{Side}
use Rattle.disk_model.specs.Disk.{TwoFiles, DiskState, Follows, KeepsHonesty}
use Rattle.log_pair.specs.AtRest.{pair_side}
use Rattle.log_pair.specs.Load.{Loaded}
use Rattle.log_pair.specs.Pair.{IsForeign, IsSameEpoch, IsUnbegun}
use Rattle.log_pair.specs.declared.pair.Pair.{Pair}
use Rattle.state_model.specs.Dataset.{State, empty_state}
use Rattle.pair_state.specs.Leads.{LeadsTo}
use Rattle.pair_state.specs.PairState.{HasPairState, IsRefusedIn, KeepsPairState}
use Rattle.pair_store.specs.Bodies.{BodiesComeTo}
use Rattle.pair_store.specs.Refusals.{refusal_of_pair}
use Rattle.pair_store.specs.Store.{store_state, store_pair, store_broken}
use Rattle.pair_store.specs.declared.store.Store.{Store}
use Rattle.pair_store.specs.declared.refusal.StoreRefusal.{StoreRefusal}
use Rattle.pair_store.specs.declared.refusal.StoreRefusal.TheVariants.{Foreign, Damaged, SameEpoch, Full, Failed, Memory}

abbrev pub LoadedStore : Type 0
LoadedStore = Result Store StoreRefusal

-- each answer and its cause, for two files that each have this room
abbrev pub StoreLoadAnswers : ℕ → TwoFiles → LoadedStore → Type 0
StoreLoadAnswers room files (Ok store) = HasPairState files (store_state store) × (IsUnbegun files → 18 ≤ room)
StoreLoadAnswers room files (Err (Foreign side len)) = IsForeign side len files
StoreLoadAnswers room files (Err (Damaged side at)) = IsRefusedIn side at files
StoreLoadAnswers room files (Err (SameEpoch epoch)) = IsSameEpoch epoch files
StoreLoadAnswers room files (Err (Full end free)) = IsUnbegun files × (room < 18) × (end ≡ 18) × (free ≡ room)
StoreLoadAnswers room files (Err Failed) = Unit {0}
StoreLoadAnswers room files (Err Memory) = Unit {0}

-- this refusal, unless the disk failed or there was no memory
abbrev pub RefusesStore : StoreRefusal → LoadedStore → Type 0
RefusesStore refusal (Ok store) = ⊥
RefusesStore refusal (Err found) = (found ≡ refusal) ⊎ ((found ≡ Failed) ⊎ (found ≡ Memory))

-- a store of this state, unless the disk failed or there was no memory
abbrev pub AcceptsState : State → LoadedStore → Type 0
AcceptsState state (Ok store) = store_state store ≡ state
AcceptsState state (Err found) = (found ≡ Failed) ⊎ (found ≡ Memory)

-- each cause and its answer
pub record StoreLoadIsExact (room : ℕ) (files : TwoFiles) (result : LoadedStore) : Type 0 where
  pub accepted : (state : State) → HasPairState files state → (IsUnbegun files → 18 ≤ room) → AcceptsState state result
  pub foreign : (side : Side) (len : ℕ) → IsForeign side len files → RefusesStore (Foreign side len) result
  pub damaged : (side : Side) (at : ℕ) → IsRefusedIn side at files → RefusesStore (Damaged side at) result
  pub same_epoch : (epoch : ℕ) → IsSameEpoch epoch files → RefusesStore (SameEpoch epoch) result
  pub full : IsUnbegun files → room < 18 → RefusesStore (Full 18 room) result

-- a store that is not broken, with this pair and the state that its bodies lead to
pub record IsStoreOf (pair : Pair) (bodies : List (List ℕ)) (store : Store) : Type 0 where
  pub pair_is : store_pair store ≡ pair
  pub leads : LeadsTo empty_state bodies (store_state store)
  pub whole : store_broken store ≡ None

-- what a store answers where its pair answered so
abbrev pub StoreComes : Loaded → LoadedStore → Type 0
StoreComes (Ok (pair, bodies)) (Ok store) = IsStoreOf pair bodies store
StoreComes (Ok (pair, bodies)) (Err refusal) = BodiesComeTo (pair_side pair) bodies (Err refusal)
StoreComes (Err refusal) result = result ≡ Err (refusal_of_pair refusal)

-- whatever a crash leaves afterwards has the state of what it might have left before
pub record StoreLoads (old new : DiskState) : Type 0 where
  pub crash : Follows KeepsPairState old.may_leave new.may_leave
  pub honesty : KeepsHonesty old new

-- an image has the state of one at the beginning and, once both files are synced, which is by the fourth call, that of
-- these
abbrev pub KeepsPairStateSynced : TwoFiles → ℕ → TwoFiles → TwoFiles → Type 0
KeepsPairStateSynced now calls was files = KeepsPairState was files × (3 < calls → KeepsPairState now files)
