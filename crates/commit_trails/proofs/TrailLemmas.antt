-- Trails: of nothing, of one payload, and one behind the other.
use Rattle.std.proofs.Common.{◌≡◌, ◌≢◌, ◌⊎◌, inl, inr, ⊎_elim, ℕ, ◌+◌, ◌<◌, List, [], ◌∷◌, ◌++◌, Result, Ok, Err, OnOk, OnErr, refl, sym, ◌∙◌, ap, subst, arith, append_assoc}
use Rattle.disk_model.specs.Disk.{TwoFiles, DiskState}
use Rattle.disk_model.specs.Moments.{LeavesOnly}
use Rattle.disk_model.proofs.RunLemmas.{started, weakens, joins}
use Rattle.commit_payloads.specs.declared.payload.Payload.{Payload}
use Rattle.state_model.specs.After.{after_payload, state_from}
use Rattle.state_model.specs.Dataset.{State}
use Rattle.state_model.specs.Saved.{compacted}
use Rattle.state_model.proofs.StateLemmas.{saved-read_back}
use Rattle.pair_state.specs.Ours.{IsOursPair}
use Rattle.pair_state.specs.PairState.{HasPairState, HasPairStateOrNext}
use Rattle.pair_store.specs.Compact.{base_of}
use Rattle.pair_store.specs.Next.{ReachesNext, ReachesNextByGate}
use Rattle.pair_store.specs.declared.ends.CommitEnd.{CommitEnd}
use Rattle.pair_store.specs.declared.ends.CommitEnd.TheVariants.{Failed, Full, VersionFull, EpochFull, Memory}
use Rattle.commit_trails.specs.Trails.{HasFront, HasStateOnDisk, IsFrontOf, Trail, acked_by, tried_by}

-- ---- nothing

-- the front of nothing
pub front_of_none : (state : State) (tried : List Payload) (files : TwoFiles) → HasPairState files state → HasFront state tried files
front_of_none state tried files has = record { front = []; behind = tried; parts = refl; has = has }

pub trail_of_none : (timed : Type 0) (state : State) (disk : DiskState) → HasStateOnDisk state disk → Trail timed state [] [] disk disk
trail_of_none timed state disk held = record {
  front = ([], refl);
  settled = λ files left. inl (held files left);
  each = λ told. started (λ calls was files. HasFront state [] files) disk (λ files left. (files, left, front_of_none state [] files (held files left)));
  honesty = (λ honest. honest, λ honest. honest);
}

-- the disk was not called
trail_of_same : {X : Type 0} (state_of : X → DiskState) (timed : Type 0) (state : State) (old new : X) → HasStateOnDisk state (state_of old) → new ≡ old → Trail timed state [] [] (state_of old) (state_of new)
trail_of_same state_of timed state old new held same = subst (λ disk. Trail timed state [] [] (state_of old) (state_of disk)) (sym same) (trail_of_none timed state (state_of old) held)

-- ---- one payload

-- with the payload, or without
front_of_one : (may_be_there : Type 0) (state : State) (payload : Payload) (files : TwoFiles) → HasPairStateOrNext may_be_there state (after_payload state payload) files → HasFront state (payload ∷ []) files
front_of_one may_be_there state payload files (inl has) = front_of_none state (payload ∷ []) files has
front_of_one may_be_there state payload files (inr has) = record { front = payload ∷ []; behind = []; parts = refl; has = has.1 }

module _ {T : Type 0} (state : State) (payload : Payload) (files : TwoFiles) where
  -- acknowledged or not
  settled_by : (result : Result T CommitEnd) → OnOk result (HasPairState files (after_payload state payload)) → HasPairStateOrNext (Unit {0}) state (after_payload state payload) files
      → HasPairState files (state_from state (acked_by payload result)) ⊎ HasPairState files (after_payload state payload)
  settled_by (Ok done) has left = inl has
  settled_by (Err end) has (inl was) = inl was
  settled_by (Err end) has (inr next) = inr next.1

-- what holds once the call answered `Ok`, at one image
at_image : {T E : Type 0} (result : Result T E) (left has : TwoFiles → Type 0) → OnOk result ((files : TwoFiles) → left files → has files) → (files : TwoFiles) → left files → OnOk result (has files)
at_image (Ok done) left has all files here = all files here
at_image (Err end) left has all files here = tt

-- what is acknowledged of one payload
front_by : {T : Type 0} (payload : Payload) (result : Result T CommitEnd) → IsFrontOf (acked_by payload result) (payload ∷ [])
front_by payload (Ok done) = ([], refl)
front_by payload (Err end) = (payload ∷ [], refl)

pub trail_of_one : {T : Type 0} (timed : Type 0) (before : ℕ) (state : State) (payload : Payload) (result : Result T CommitEnd) (old new : DiskState)
    → ReachesNext state (after_payload state payload) result old new
    → (timed → ReachesNextByGate before state (after_payload state payload) result old new)
    → Trail timed state (acked_by payload result) (payload ∷ []) old new
trail_of_one timed before state payload result old new reaches by_gate = record {
  front = front_by payload result;
  settled = λ files left.
      settled_by state payload files result (at_image result new.may_leave (λ image. HasPairState image (after_payload state payload)) reaches.acknowledged files left) (reaches.crash files left);
  each = λ told.
      weakens (λ calls was files. HasPairStateOrNext (before < calls) state (after_payload state payload) files) (λ calls was files. HasFront state (payload ∷ []) files) old new (by_gate told).leaves
      (λ k was files left has. front_of_one (before < k) state payload files has);
  honesty = reaches.honesty;
}

-- one that ended before it came to the disk left it as it was
pub trail_of_tried : {T S X : Type 0} (state_of : X → DiskState) (timed : Type 0) (before : ℕ) (state : State) (payload : Payload) (result : Result T CommitEnd) (was now : S) (old new : X)
    → HasStateOnDisk state (state_of old)
    → ReachesNext state (after_payload state payload) result (state_of old) (state_of new)
    → (timed → ReachesNextByGate before state (after_payload state payload) result (state_of old) (state_of new))
    → (((count : ℕ) → result ≢ Err (Failed count)) → OnErr result ((now ≡ was) × (new ≡ old)))
    → Trail timed state (acked_by payload result) (tried_by payload result) (state_of old) (state_of new)
trail_of_tried state_of timed before state payload (Ok done) was now old new held reaches by_gate early = trail_of_one timed before state payload (Ok done) (state_of old) (state_of new) reaches by_gate
trail_of_tried state_of timed before state payload (Err (Failed count)) was now old new held reaches by_gate early = trail_of_one timed before state payload (Err (Failed count)) (state_of old) (state_of new) reaches by_gate
trail_of_tried state_of timed before state payload (Err (Full end room)) was now old new held reaches by_gate early = trail_of_same state_of timed state old new held (early (λ count is. cc is)).1
trail_of_tried state_of timed before state payload (Err (VersionFull name)) was now old new held reaches by_gate early = trail_of_same state_of timed state old new held (early (λ count is. cc is)).1
trail_of_tried state_of timed before state payload (Err (EpochFull epoch)) was now old new held reaches by_gate early = trail_of_same state_of timed state old new held (early (λ count is. cc is)).1
trail_of_tried state_of timed before state payload (Err Memory) was now old new held reaches by_gate early = trail_of_same state_of timed state old new held (early (λ count is. cc is)).1

-- ---- the base of a compaction

pub base_folds : (state : State) → after_payload state (base_of state) ≡ compacted state
base_folds state = saved-read_back (compacted state)

module _ {T : Type 0} (state : State) (result : Result T CommitEnd) (old new : DiskState) where
  pub reaches_base : ReachesNext state (compacted state) result old new → ReachesNext state (after_payload state (base_of state)) result old new
  reaches_base reaches = subst (λ (next : State). ReachesNext state next result old new) (sym (base_folds state)) reaches

  pub reaches_base_by_gate : (before : ℕ) → ReachesNextByGate before state (compacted state) result old new → ReachesNextByGate before state (after_payload state (base_of state)) result old new
  reaches_base_by_gate before reaches = subst (λ (next : State). ReachesNextByGate before state next result old new) (sym (base_folds state)) reaches

-- ---- one behind the other

pub state_after_both : (state : State) (one more : List Payload) → state_from state (one ++ more) ≡ state_from (state_from state one) more
state_after_both state [] more = refl
state_after_both state (payload ∷ one) more = state_after_both (after_payload state payload) one more

-- the state of payloads behind others
pub with_both : (state : State) (one more : List Payload) (files : TwoFiles) → HasPairState files (state_from (state_from state one) more) → HasPairState files (state_from state (one ++ more))
with_both state one more files has = subst (λ (s : State). HasPairState files s) (sym (state_after_both state one more)) has

pub front_of_longer : (state : State) (one tried : List Payload) (files : TwoFiles) → HasFront state one files → HasFront state (one ++ tried) files
front_of_longer state one tried files first = record {
  front = first.front;
  behind = first.behind ++ tried;
  parts = ap (λ (list : List Payload). list ++ tried) first.parts ∙ append_assoc first.front first.behind tried;
  has = first.has;
}

pub front_behind : (state : State) (one tried : List Payload) (files : TwoFiles) → HasFront (state_from state one) tried files → HasFront state (one ++ tried) files
front_behind state one tried files more = record {
  front = one ++ more.front;
  behind = more.behind;
  parts = ap (λ (list : List Payload). one ++ list) more.parts ∙ sym (append_assoc one more.front more.behind);
  has = with_both state one more.front files more.has;
}

-- fronts behind the same payloads
pub front_of_both : (first acked tried : List Payload) → IsFrontOf acked tried → IsFrontOf (first ++ acked) (first ++ tried)
front_of_both first acked tried front = (front.0, ap (λ (list : List Payload). first ++ list) front.1 ∙ sym (append_assoc first acked front.0))

-- what a crash leaves at the end of a run comes of what one might have left at its beginning
pub from_beginning : (allowed : ℕ → TwoFiles → TwoFiles → Type 0) (old new : DiskState) (j : ℕ) (files : TwoFiles) → LeavesOnly allowed old new → new.moment ≡ old.moment + j → new.may_leave files
    → (was : TwoFiles) × old.may_leave was × allowed j was files
from_beginning allowed old new j files run at left =
    run.each j files (omega (arith, at)) (λ same. left, λ before. absurd (omega (arith, at)))

module _ (timed : Type 0) (state : State) (first acked tried : List Payload) (old mid new : DiskState) where
  pub trail_of_both : Trail timed state first first old mid → Trail timed (state_from state first) acked tried mid new → Trail timed state (first ++ acked) (first ++ tried) old new
  trail_of_both one more = record {
    front = front_of_both first acked tried more.front;
    settled = λ files left. ⊎_elim (λ has. inl (with_both state first acked files has)) (λ has. inr (with_both state first tried files has)) (more.settled files left);
    each = λ told.
        joins (λ calls was files. HasFront state first files) (λ calls was files. HasFront (state_from state first) tried files) (λ calls was files. HasFront state (first ++ tried) files)
        old mid new (one.each told) (more.each told)
        (λ k was files left has. front_of_longer state first tried files has)
        (λ j k was files at some left has.
        let from = from_beginning (λ calls was files. HasFront state first files) old mid j was (one.each told) at left in
        (from.0, from.1, front_behind state first tried files has));
    honesty = (λ honest. more.honesty.0 (one.honesty.0 honest), λ honest. one.honesty.1 (more.honesty.1 honest));
  }

-- ---- what is left at the end

module _ (timed : Type 0) (state : State) (acked : List Payload) (old new : DiskState) where
  pub trail_ours : (tried : List Payload) → Trail timed state acked tried old new → IsOursPair new
  trail_ours tried trail files left = ⊎_elim (λ has. (state_from state acked, has)) (λ has. (state_from state tried, has)) (trail.settled files left)

  pub trail_whole : Trail timed state acked acked old new → HasStateOnDisk (state_from state acked) new
  trail_whole trail files left = ⊎_elim (λ has. has) (λ has. has) (trail.settled files left)
