-- What a compaction leaves of the files, from what a switch leaves of them.
use Rattle.std.proofs.Common.{◌≡◌, inl, inr, ℕ, ◌+◌, ◌<◌, List, [], ◌∷◌, Result, OnOk, Some, sym, ap, ◌∙◌, subst}
use Rattle.disk_model.specs.Disk.{TwoFiles, DiskState, file, other}
use Rattle.disk_model.proofs.RunLemmas.{weakens}
use Rattle.commit_gate.specs.Fill.{new_log}
use Rattle.commit_payloads.specs.declared.payload.Payload.{Payload}
use Rattle.commit_payloads.specs.Payloads.{spelled_payload, HasSpelling, IsWritable}
use Rattle.log_pair.specs.AtRest.{pair_side, pair_epoch, IsPairAtRest}
use Rattle.log_pair.specs.Pair.{HoldsOrBase}
use Rattle.log_pair.specs.Switch.{Switches, SwitchesByGate, calls_before_gate}
use Rattle.log_pair.specs.declared.pair.Pair.{Pair}
use Rattle.state_keeps.proofs.StoreLemmas.{folds_keep, may_begin}
use Rattle.state_model.specs.After.{after_payload}
use Rattle.state_model.specs.Dataset.{State, empty_state}
use Rattle.state_model.specs.Follows.{Fits}
use Rattle.state_model.specs.Saved.{compacted}
use Rattle.state_model.proofs.StateLemmas.{saved-read_back}
use Rattle.pair_state.specs.Leads.{LeadsTo, IsReachable}
use Rattle.pair_state.specs.PairState.{HasPairState, HasPairStateOrNext}
use Rattle.pair_state.proofs.LeadsLemmas.{folded_leads, reached_stored}
use Rattle.pair_store.specs.Compact.{IsFolded, base_of, base_body}
use Rattle.pair_store.specs.Next.{ReachesNext, ReachesNextByGate}
use Rattle.pair_store.specs.Store.{store_state, store_pair, AreAsLeft}
use Rattle.pair_store.specs.declared.store.Store.{Store}
use Rattle.pair_store.proofs.ImageLemmas.{held_state, image_state}

-- ---- the base in memory

pub base_writable : (state : State) (base : Payload) → IsReachable state → base ≡ base_of state → IsWritable base
base_writable state base reached is = subst IsWritable (sym is) (folds_keep state (reached_stored state reached)).form

pub base_fits : (state none : State) (base : Payload) → IsReachable state → base ≡ base_of state → none ≡ empty_state → Fits none base
base_fits state none base reached is empty =
    subst (λ b. Fits none b) (sym is) (subst (λ s. Fits s (base_of state)) (sym empty) (may_begin (compacted state) (folds_keep state (reached_stored state reached))))

pub base_read : (state none new : State) (base : Payload) → base ≡ base_of state → new ≡ after_payload none base → new ≡ compacted state
base_read state none new base is after = after ∙ ap (after_payload none) is ∙ saved-read_back (compacted state)

pub folded_of : (state none new : State) (record_bytes : List ℕ) (base : Payload) → base ≡ base_of state → record_bytes ≡ spelled_payload base → HasSpelling base → new ≡ after_payload none base → IsFolded state record_bytes new
folded_of state none new record_bytes base is bytes spelled after = record {
  spelled = subst HasSpelling is spelled;
  record_is = bytes ∙ ap spelled_payload is;
  folded = base_read state none new base is after;
}

-- ---- the switch

module _ (pair : Pair) (bodies : List (List ℕ)) (state : State) (base : List ℕ) (anew : State) (old : DiskState)
    (leads : LeadsTo empty_state bodies state) (reached : IsReachable state) (folded : IsFolded state base anew) where
  pub leads_folded : LeadsTo empty_state (base ∷ []) (compacted state)
  leads_folded = subst (λ b. LeadsTo empty_state (b ∷ []) (compacted state)) (sym folded.record_is) (folded_leads state reached folded.spelled)

  or_folded : (may_be_there : Type 0) (files : TwoFiles) → HoldsOrBase may_be_there (pair_side pair) (pair_epoch pair) bodies base files → HasPairStateOrNext may_be_there state (compacted state) files
  or_folded may_be_there files (inl held) = inl (held_state (pair_side pair) (pair_epoch pair) bodies state files leads held)
  or_folded may_be_there files (inr held) = inr (held.0, held_state (other (pair_side pair)) (pair_epoch pair + 1) (base ∷ []) (compacted state) files leads_folded held.1)

  pub compacts : {T E U F : Type 0} (later : Pair) (answer : Result T E) (result : Result U F) (new : DiskState) → Switches pair later bodies base answer old new
      → OnOk result ((files : TwoFiles) → new.may_leave files → HasPairState files (compacted state)) → ReachesNext state (compacted state) result old new
  compacts later answer result new switches acknowledged = record {
    acknowledged = acknowledged;
    crash = λ files left. or_folded (Unit {0}) files (switches.crash files left);
    honesty = switches.honesty;
  }

  pub by_gate : {T E U F : Type 0} (answer : Result T E) (result : Result U F) (new : DiskState) → SwitchesByGate pair bodies base answer old new
      → OnOk result (new.moment ≡ old.moment + calls_before_gate pair old.now + 2) → ReachesNextByGate (calls_before_gate pair old.now) state (compacted state) result old new
  by_gate answer result new switches calls = record {
    leaves = weakens (λ calls was files. HoldsOrBase (calls_before_gate pair old.now < calls) (pair_side pair) (pair_epoch pair) bodies base files)
        (λ calls was files. HasPairStateOrNext (calls_before_gate pair old.now < calls) state (compacted state) files) old new switches.leaves
        (λ k was files left holds. or_folded (calls_before_gate pair old.now < k) files holds);
    calls = calls;
  }

  pub acknowledged : (later : Pair) (new : DiskState) → IsPairAtRest later (base ∷ []) new → (files : TwoFiles) → new.may_leave files → HasPairState files (compacted state)
  acknowledged later new ends = image_state later (base ∷ []) (compacted state) new ends leads_folded

  -- the store after it
  pub as_left : (store : Store) (new : DiskState) → IsPairAtRest (store_pair store) (base ∷ []) new → store_state store ≡ anew → AreAsLeft store new
  as_left store new ends is = record {
    bodies = base ∷ [];
    at_rest = ends;
    leads = subst (LeadsTo empty_state (base ∷ [])) (sym (is ∙ folded.folded)) leads_folded;
  }

pub folded_reached : (state : State) (base : List ℕ) (anew : State) → IsReachable state → IsFolded state base anew → IsReachable anew
folded_reached state base anew reached folded = record {
  bodies = base_body state ∷ [];
  leads = subst (LeadsTo empty_state (base_body state ∷ [])) (sym folded.folded) (folded_leads state reached folded.spelled);
}

pub written_base : (pair : Pair) (state : State) (base : List ℕ) (anew : State) (new : DiskState) → IsFolded state base anew → file (other (pair_side pair)) new.now ≡ new_log (pair_epoch pair + 1) (Some base)
    → file (other (pair_side pair)) new.now ≡ new_log (pair_epoch pair + 1) (Some (base_body state))
written_base pair state base anew new folded is = is ∙ ap (λ b. new_log (pair_epoch pair + 1) (Some b)) folded.record_is
