-- What a commit leaves of the files, from what an append leaves of them.
use Rattle.std.proofs.Common.{◌≡◌, inl, inr, ⊎_elim, ℕ, ◌+◌, ◌<◌, List, [], ◌∷◌, ◌++◌, Result, Err, OnOk, Option, None, Some, refl, sym, ◌∙◌, subst}
use Rattle.disk_model.specs.declared.disk.Side.{Side}
use Rattle.disk_model.specs.declared.disk.Side.TheVariants.{Left, Right}
use Rattle.disk_model.specs.Disk.{TwoFiles, DiskState, Alone, file, other}
use Rattle.disk_model.proofs.RunLemmas.{started, weakens}
use Rattle.commit_gate.specs.Log.{HasBodies, HasBodiesOrOneMore}
use Rattle.commit_gate.specs.AtRest.{log_side, log_epoch, IsAtRest, LeavesFile, Appends, AppendsByGate}
use Rattle.commit_gate.specs.declared.log.Log.{Log}
use Rattle.commit_gate.proofs.RestLemmas.{image_of_rest, append_leaves}
use Rattle.commit_records.specs.declared.payload.Payload.{Payload}
use Rattle.commit_records.specs.Payloads.{spelled_payload}
use Rattle.store_state.specs.State.{State, empty_state, after_payload, MayFollow}
use Rattle.store_core.specs.State.{LeadsTo, HasState, HasStateOrNext}
use Rattle.store_core.specs.Commit.{Commits, CommitsByGate}
use Rattle.store_core.specs.Ours.{IsOurs}
use Rattle.store_core.specs.Store.{store_state, store_log, IsAsLeft}
use Rattle.store_core.specs.declared.store.Store.{Store}
use Rattle.store_core.specs.declared.commit.CommitEnd.{CommitEnd}
use Rattle.store_core.proofs.StateLemmas.{leads_more}

pub none_of : (broken : Option ℕ) → ((count : ℕ) → broken ≡ Some count → ⊥) → broken ≡ None
none_of None other = refl
none_of (Some count) other = absurd (other count refl)

-- a file that is left as it was
pub leaves_still : (side : Side) (disk : DiskState) → LeavesFile side disk disk
leaves_still side disk = record { now = refl; crash = λ files left. (files, left, refl) }

-- what is allowed of one file, at another name of its side
pub on_side : (side left : Side) (change allowed : List ℕ → List ℕ → Type 0) (was files : TwoFiles) → side ≡ left → ((a b : List ℕ) → change a b → allowed a b) → Alone side change was files → Alone left allowed was files
on_side side left change allowed was files same weaker alone =
    let there = subst (λ s. Alone s change was files) same alone in
    record { changed = weaker (file left was) (file left files) there.changed; kept = there.kept }

module _ (log : Log) (bodies : List (List ℕ)) (state : State) (payload : Payload) (framed : List ℕ) (old : DiskState)
    (side : log_side log ≡ Left) (leads : LeadsTo empty_state bodies state) (follows : MayFollow state payload) (spelled : framed ≡ spelled_payload payload) (rest : IsAtRest log bodies old) where
  before : (bytes : List ℕ) → HasBodies (log_epoch log) bodies bytes → HasState bytes state
  before bytes has = inl (record { epoch = log_epoch log; bodies = bodies; contents = has; leads = leads })

  pub leads_next : LeadsTo empty_state (bodies ++ framed ∷ []) (after_payload state payload)
  leads_next = leads_more empty_state bodies state framed payload leads spelled follows

  next : (epoch : ℕ) (bytes : List ℕ) → HasBodies epoch (bodies ++ framed ∷ []) bytes → HasState bytes (after_payload state payload)
  next epoch bytes has = inl (record { epoch = epoch; bodies = bodies ++ framed ∷ []; contents = has; leads = leads_next })

  or_next : (may_be_there : Type 0) (bytes : List ℕ) → HasBodiesOrOneMore may_be_there (log_epoch log) bodies framed bytes → HasStateOrNext may_be_there state payload bytes
  or_next may_be_there bytes (inl has) = inl (before bytes has)
  or_next may_be_there bytes (inr has) = inr (has.0, next (log_epoch log) bytes has.1)

  -- the disk was called
  pub commits : {T E : Type 0} (later : Log) (answer : Result T E) (result : Result (Unit {0}) CommitEnd) (new : DiskState) → Appends log later bodies framed answer old new
      → OnOk result ((files : TwoFiles) → new.may_leave files → HasState (file Left files) (after_payload state payload)) → Commits state payload result old new
  commits later answer result new appends acknowledged = record {
    acknowledged = acknowledged;
    crash = λ files left.
        let from = appends.crash files left in
        (from.0, from.1, on_side (log_side log) Left _ _ from.0 files side (λ a b held. or_next (Unit {0}) b held) from.2);
    other_file = subst (λ s. file (other s) new.now ≡ file (other s) old.now) side appends.other_file;
    honesty = appends.honesty;
  }

  pub by_gate : {T E : Type 0} (answer : Result T E) (result : Result (Unit {0}) CommitEnd) (new : DiskState) → AppendsByGate log bodies framed answer old new
      → OnOk result (new.moment ≡ old.moment + 4) → CommitsByGate state payload result old new
  by_gate answer result new appends calls = record {
    leaves = weakens (λ calls. Alone (log_side log) (λ _ bytes. HasBodiesOrOneMore (2 < calls) (log_epoch log) bodies framed bytes)) (λ calls. Alone Left (λ _ bytes. HasStateOrNext (2 < calls) state payload bytes)) old new appends.leaves
        (λ k was files left alone. on_side (log_side log) Left _ _ was files side (λ a b held. or_next (2 < k) b held) alone);
    calls = calls;
  }

  -- once it is acknowledged
  pub acknowledged : (later : Log) (new : DiskState) → IsAtRest later (bodies ++ framed ∷ []) new → log_side later ≡ log_side log → (files : TwoFiles) → new.may_leave files → HasState (file Left files) (after_payload state payload)
  acknowledged later new ends same files left =
      subst (λ s. HasState (file s files) (after_payload state payload)) (same ∙ side)
      (next (log_epoch later) (file (log_side later) files) (image_of_rest later (bodies ++ framed ∷ []) new files ends left))

  -- the store after it
  pub as_left : (store : Store) (new : DiskState) → IsAtRest (store_log store) (bodies ++ framed ∷ []) new → log_side (store_log store) ≡ log_side log → store_state store ≡ after_payload state payload → IsAsLeft store new
  as_left store new ends same taken = record {
    bodies = bodies ++ framed ∷ [];
    side = same ∙ side;
    at_rest = ends;
    leads = subst (LeadsTo empty_state (bodies ++ framed ∷ [])) (sym taken) leads_next;
  }

  pub keeps_right : {T E : Type 0} (later : Log) (answer : Result T E) (new : DiskState) → Appends log later bodies framed answer old new → LeavesFile Right old new
  keeps_right later answer new appends = subst (λ s. LeavesFile (other s) old new) side (append_leaves log later bodies framed answer old new appends)

-- the disk was not called
module _ (log : Log) (bodies : List (List ℕ)) (state : State) (payload : Payload) (disk : DiskState)
    (side : log_side log ≡ Left) (leads : LeadsTo empty_state bodies state) (rest : IsAtRest log bodies disk) where
  held : (files : TwoFiles) → disk.may_leave files → HasState (file Left files) state
  held files left =
      subst (λ s. HasState (file s files) state) side
      (inl (record { epoch = log_epoch log; bodies = bodies; contents = image_of_rest log bodies disk files rest left; leads = leads }))

  pub commits_still : (error : CommitEnd) → Commits state payload (Err error) disk disk
  commits_still error = record {
    acknowledged = tt;
    crash = λ files left. (files, left, record { changed = inl (held files left); kept = refl });
    other_file = refl;
    honesty = (λ honest. honest, λ honest. honest);
  }

  pub by_gate_still : (error : CommitEnd) → CommitsByGate state payload (Err error) disk disk
  by_gate_still error = record {
    leaves = started (λ calls. Alone Left (λ _ bytes. HasStateOrNext (2 < calls) state payload bytes)) disk (λ files left. (files, left, record { changed = inl (held files left); kept = refl }));
    calls = tt;
  }

-- whatever a commit answers, each image has a state
pub ours : (state : State) (payload : Payload) (result : Result (Unit {0}) CommitEnd) (old new : DiskState) → Commits state payload result old new → IsOurs new
ours state payload result old new commits files left =
    let from = commits.crash files left in
    ⊎_elim (λ has. (state, has)) (λ has. (after_payload state payload, has.1)) from.2.changed
