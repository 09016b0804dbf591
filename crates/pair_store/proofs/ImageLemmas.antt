-- What a crash leaves of the two files, as the states that they have.
use Rattle.std.proofs.Common.{◌<◌, inl, ⊎_elim, ℕ, List, Result, IsErr, refl}
use Rattle.disk_model.specs.declared.disk.Side.{Side}
use Rattle.disk_model.specs.Disk.{TwoFiles, DiskState}
use Rattle.disk_model.proofs.RunLemmas.{started}
use Rattle.commit_gate.specs.AtRest.{LeavesFile}
use Rattle.commit_gate.proofs.ResultLemmas.{OnOk_error}
use Rattle.log_pair.specs.AtRest.{pair_side, pair_epoch, IsPairAtRest}
use Rattle.log_pair.specs.Pair.{HoldsIn}
use Rattle.log_pair.specs.declared.pair.Pair.{Pair}
use Rattle.log_pair.proofs.SwitchLemmas.{image_of_pair}
use Rattle.state_model.specs.Dataset.{State, empty_state}
use Rattle.pair_state.specs.Leads.{LeadsTo}
use Rattle.pair_state.specs.Ours.{IsOursPair}
use Rattle.pair_state.specs.PairState.{HasPairState, HasPairStateOrNext}
use Rattle.pair_store.specs.Next.{ReachesNext, ReachesNextByGate}
use Rattle.pair_store.specs.Store.{store_state, store_pair, AreAsLeft}
use Rattle.pair_store.specs.declared.store.Store.{Store}

-- the state of the bodies that are held
pub held_state : (side : Side) (epoch : ℕ) (bodies : List (List ℕ)) (state : State) (files : TwoFiles) → LeadsTo empty_state bodies state → HoldsIn side epoch bodies files → HasPairState files state
held_state side epoch bodies state files leads holds = record { bodies = bodies; contents = inl (side, epoch, holds); leads = leads }

-- what a crash leaves of a pair at rest
pub image_state : (pair : Pair) (bodies : List (List ℕ)) (state : State) (disk : DiskState) → IsPairAtRest pair bodies disk → LeadsTo empty_state bodies state → (files : TwoFiles) → disk.may_leave files → HasPairState files state
image_state pair bodies state disk rest leads files left = held_state (pair_side pair) (pair_epoch pair) bodies state files leads (image_of_pair pair bodies disk files rest left)

-- what a crash leaves of a store that is as it was left
pub left_state : (store : Store) (disk : DiskState) → AreAsLeft store disk → (files : TwoFiles) → disk.may_leave files → HasPairState files (store_state store)
left_state store disk left = image_state (store_pair store) left.bodies (store_state store) disk left.at_rest left.leads

-- a file that is left as it was
pub leaves_still : (side : Side) (disk : DiskState) → LeavesFile side disk disk
leaves_still side disk = record { now = refl; crash = λ files left. (files, left, refl) }

-- the disk was not called
module _ (state next : State) (disk : DiskState) (held : (files : TwoFiles) → disk.may_leave files → HasPairState files state) {T E : Type 0} (result : Result T E) (error : IsErr result) where
  pub no_next : ReachesNext state next result disk disk
  no_next = record { acknowledged = OnOk_error _ result error; crash = λ files left. inl (held files left); honesty = (λ honest. honest, λ honest. honest) }

  pub no_next_by_gate : (before : ℕ) → ReachesNextByGate before state next result disk disk
  no_next_by_gate before = record {
    leaves = started (λ calls was files. HasPairStateOrNext (before < calls) state next files) disk (λ files left. (files, left, inl (held files left)));
    calls = OnOk_error _ result error;
  }

-- whatever the answer is, each image has a state
pub ours : {T E : Type 0} (state next : State) (result : Result T E) (old new : DiskState) → ReachesNext state next result old new → IsOursPair new
ours state next result old new reaches files left = ⊎_elim (λ has. (state, has)) (λ has. (next, has.1)) (reaches.crash files left)
