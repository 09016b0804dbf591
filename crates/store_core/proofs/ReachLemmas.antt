-- What payloads lead to, and where a log ends.
use Rattle.std.proofs.Common.{◌≡◌, inl, inr, ℕ, ◌+◌, ◌^◌, ◌<◌, List, [], ◌∷◌, ◌++◌, length, refl, sym, ap, subst, arith, length-append}
use Rattle.disk_model.specs.Disk.{DiskState}
use Rattle.commit_gate.specs.AtRest.{log_epoch, log_end, IsAtRest}
use Rattle.commit_gate.specs.Log.{framed, records}
use Rattle.commit_gate.specs.declared.log.Log.{Log}
use Rattle.commit_gate.proofs.FramedLemmas.{length-framed}
use Rattle.commit_gate.proofs.LoadLemmas.{log_length}
use Rattle.commit_gate.proofs.UniqueLemmas.{bodies_live, one_bodies}
use Rattle.commit_records.specs.declared.payload.Payload.{Payload}
use Rattle.commit_records.specs.Payloads.{spelled_payload}
use Rattle.store_state.specs.State.{State, empty_state, after_payload, MayFollow}
use Rattle.store_core.specs.Reach.{IsReachable, EndsAt}
use Rattle.store_core.specs.State.{LeadsTo, HasState}
use Rattle.store_core.proofs.BodiesLemmas.{records-append}
use Rattle.store_core.proofs.StateLemmas.{leads_more}

-- a state of a file
pub state_reached : (bytes : List ℕ) (state : State) → HasState bytes state → IsReachable state
state_reached bytes state (inl log) = record { bodies = log.bodies; leads = log.leads }
state_reached bytes state (inr begun) = record { bodies = []; leads = begun.1 }

-- one payload more
pub next_reached : (old new : State) (payload : Payload) → MayFollow old payload → new ≡ after_payload old payload → IsReachable old → IsReachable new
next_reached old new payload follows taken was =
    let bodies = was.bodies ++ spelled_payload payload ∷ [] in
    record {
      bodies = bodies;
      leads = subst (LeadsTo empty_state bodies) (sym taken) (leads_more empty_state was.bodies old (spelled_payload payload) payload was.leads refl follows);
    }

-- a file ends at one place
pub one_end : (bytes : List ℕ) (a b : ℕ) → length bytes < 2 ^ 64 → EndsAt a bytes → EndsAt b bytes → a ≡ b
one_end bytes a b small (inl one) (inl two) =
    let same : two.bodies ≡ one.bodies = one_bodies one.epoch two.epoch one.bodies two.bodies bytes small one.contents two.contents in
    omega (arith, one.place, two.place, log_length one.epoch one.bodies, log_length two.epoch two.bodies, ap (λ (l : List (List ℕ)). length (records l)) same)
one_end bytes a b small (inl one) (inr two) = absurd (two.0.0 one.epoch (bodies_live one.epoch one.bodies bytes one.contents))
one_end bytes a b small (inr one) (inl two) = absurd (one.0.0 two.epoch (bodies_live two.epoch two.bodies bytes two.contents))
one_end bytes a b small (inr one) (inr two) = omega (arith, one.1, two.1)

-- where a new log ends
pub new_log_end : (log : Log) (disk : DiskState) → IsAtRest log [] disk → log_end log ≡ 17
new_log_end log disk rest = omega (arith, rest.end, log_length (log_epoch log) [])

-- where a log ends behind one body more
pub grown : (log later : Log) (bodies : List (List ℕ)) (body spelled : List ℕ) (old new : DiskState) → IsAtRest log bodies old → IsAtRest later (bodies ++ body ∷ []) new → body ≡ spelled
    → log_end later ≡ log_end log + 9 + length spelled
grown log later bodies body spelled old new rest ends is =
    omega (
      arith,
      rest.end,
      ends.end,
      log_length (log_epoch log) bodies,
      log_length (log_epoch later) (bodies ++ body ∷ []),
      records-append bodies (body ∷ []),
      length-append (framed body) (records []),
      length-framed body,
      ap (λ (l : List ℕ). length l) is,
    )
