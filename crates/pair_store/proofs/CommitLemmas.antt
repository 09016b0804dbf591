-- What a commit leaves of the files, from what an append leaves of them.
use Rattle.std.proofs.Common.{◌≡◌, inl, inr, ℕ, ◌+◌, ◌<◌, List, [], ◌∷◌, ◌++◌, Result, OnOk, Option, None, Some, length, refl, sym, ap, subst, arith, length-append}
use Rattle.std.proofs.lemmas.Result.{on_ok_weaker}
use Rattle.disk_model.specs.Disk.{TwoFiles, DiskState}
use Rattle.disk_model.proofs.RunLemmas.{weakens}
use Rattle.commit_gate.specs.AtRest.{log_epoch}
use Rattle.commit_gate.specs.Log.{framed, records}
use Rattle.commit_gate.proofs.FramedLemmas.{length-framed}
use Rattle.commit_gate.proofs.LoadLemmas.{log_length}
use Rattle.commit_payloads.specs.declared.payload.Payload.{Payload}
use Rattle.commit_payloads.specs.Payloads.{spelled_payload}
use Rattle.log_pair.specs.AtRest.{pair_side, pair_epoch, pair_end, IsPairAtRest, PairAppends, PairAppendsByGate}
use Rattle.log_pair.specs.Pair.{HoldsOrOneMore}
use Rattle.log_pair.specs.declared.pair.Pair.{Pair}
use Rattle.state_model.specs.After.{after_payload}
use Rattle.state_model.specs.Dataset.{State, empty_state}
use Rattle.state_model.specs.Follows.{MayFollow}
use Rattle.pair_state.specs.Leads.{LeadsTo}
use Rattle.pair_state.specs.PairState.{HasPairState, HasPairStateOrNext}
use Rattle.pair_state.proofs.LeadsLemmas.{leads_more}
use Rattle.pair_store.specs.Next.{ReachesNext, ReachesNextByGate}
use Rattle.pair_store.specs.Store.{store_state, store_pair, AreAsLeft}
use Rattle.pair_store.specs.declared.store.Store.{Store}
use Rattle.pair_store.proofs.BodiesLemmas.{records-append}
use Rattle.pair_store.proofs.ImageLemmas.{held_state, image_state}

pub none_of : (broken : Option ℕ) → ((count : ℕ) → broken ≡ Some count → ⊥) → broken ≡ None
none_of None other = refl
none_of (Some count) other = absurd (other count refl)

module _ (pair : Pair) (bodies : List (List ℕ)) (state : State) (payload : Payload) (body : List ℕ) (old : DiskState)
    (leads : LeadsTo empty_state bodies state) (follows : MayFollow state payload) (spelled : body ≡ spelled_payload payload) where
  pub leads_next : LeadsTo empty_state (bodies ++ body ∷ []) (after_payload state payload)
  leads_next = leads_more empty_state bodies state body payload leads spelled follows

  or_next : (may_be_there : Type 0) (files : TwoFiles) → HoldsOrOneMore may_be_there (pair_side pair) (pair_epoch pair) bodies body files → HasPairStateOrNext may_be_there state (after_payload state payload) files
  or_next may_be_there files (inl held) = inl (held_state (pair_side pair) (pair_epoch pair) bodies state files leads held)
  or_next may_be_there files (inr held) = inr (held.0, held_state (pair_side pair) (pair_epoch pair) (bodies ++ body ∷ []) (after_payload state payload) files leads_next held.1)

  -- the disk was called
  pub commits : {T E U F : Type 0} (later : Pair) (answer : Result T E) (result : Result U F) (new : DiskState) → PairAppends pair later bodies body answer old new
      → OnOk result ((files : TwoFiles) → new.may_leave files → HasPairState files (after_payload state payload)) → ReachesNext state (after_payload state payload) result old new
  commits later answer result new appends acknowledged = record {
    acknowledged = acknowledged;
    crash = λ files left. or_next (Unit {0}) files (appends.crash files left);
    honesty = appends.honesty;
  }

  pub by_gate : {T E U F : Type 0} (answer : Result T E) (result : Result U F) (new : DiskState) → PairAppendsByGate pair bodies body answer old new
      → OnOk result (new.moment ≡ old.moment + 4) → ReachesNextByGate 2 state (after_payload state payload) result old new
  by_gate answer result new appends calls = record {
    leaves = weakens (λ calls was files. HoldsOrOneMore (2 < calls) (pair_side pair) (pair_epoch pair) bodies body files) (λ calls was files. HasPairStateOrNext (2 < calls) state (after_payload state payload) files) old new appends.leaves
        (λ k was files left holds. or_next (2 < k) files holds);
    calls = on_ok_weaker result (λ is. omega (arith, is)) calls;
  }

  -- once it is acknowledged
  pub acknowledged : (later : Pair) (new : DiskState) → IsPairAtRest later (bodies ++ body ∷ []) new → (files : TwoFiles) → new.may_leave files → HasPairState files (after_payload state payload)
  acknowledged later new ends = image_state later (bodies ++ body ∷ []) (after_payload state payload) new ends leads_next

  -- the store after it
  pub as_left : (store : Store) (new : DiskState) → IsPairAtRest (store_pair store) (bodies ++ body ∷ []) new → store_state store ≡ after_payload state payload → AreAsLeft store new
  as_left store new ends taken = record {
    bodies = bodies ++ body ∷ [];
    at_rest = ends;
    leads = subst (LeadsTo empty_state (bodies ++ body ∷ [])) (sym taken) leads_next;
  }

-- where a log ends behind one body more
pub grown : (pair later : Pair) (bodies : List (List ℕ)) (body spelled : List ℕ) (old new : DiskState) → IsPairAtRest pair bodies old → IsPairAtRest later (bodies ++ body ∷ []) new → body ≡ spelled
    → pair_end later ≡ pair_end pair + 9 + length spelled
grown pair later bodies body spelled old new rest ends is =
    omega (
      arith,
      rest.at_rest.end,
      ends.at_rest.end,
      log_length (log_epoch pair.log) bodies,
      log_length (log_epoch later.log) (bodies ++ body ∷ []),
      records-append bodies (body ∷ []),
      length-append (framed body) (records []),
      length-framed body,
      ap (λ (l : List ℕ). length l) is,
    )
