-- What commits leave of a store, one after the other, and behind a load.
use Rattle.std.proofs.Common.{◌≡◌, ◌⊎◌, inl, inr, ⊎_elim, ℕ, zero, suc, ◌<◌, List, [], ◌∷◌, ◌++◌, true, false, refl, sym, ◌∙◌, ap, subst, arith, append_assoc, Result, Ok, Err}
use Rattle.disk_model.specs.declared.disk.Side.TheVariants.{Left}
use Rattle.disk_model.specs.Disk.{TwoFiles, DiskState, Alone, file}
use Rattle.disk_model.specs.Moments.{LeavesOnly}
use Rattle.disk_model.proofs.RunLemmas.{started, weakens, joins}
use Rattle.commit_records.specs.declared.payload.Payload.{Payload}
use Rattle.store_state.specs.State.{State, after_payload, state_from}
use Rattle.store_core.specs.Begin.{KeepsSynced, Loads}
use Rattle.store_core.specs.Commit.{Commits, CommitsByGate}
use Rattle.store_core.specs.State.{HasState, HasStateOrNext, KeepsState}
use Rattle.store_core.specs.declared.commit.CommitEnd.{CommitEnd}
use Rattle.store_core.specs.declared.commit.CommitEnd.TheVariants.{Failed}
use Rattle.table_update.specs.Commit.{HasFront, Stores}
use Rattle.table_update.specs.Crash.{HasThem, HasFrontOf, IsImage, Leaves}

-- ---- no commit, and one

pub stores_still : (timed : Type 0) (state : State) (disk : DiskState) → ((files : TwoFiles) → disk.may_leave files → HasState (file Left files) state) → Stores timed state [] [] disk disk
stores_still timed state disk held = record {
  settled = λ files left. (files, left, record { changed = inl (held files left); kept = refl });
  each = λ told. started (λ _. Alone Left (λ _ image. HasFront state [] image)) disk
      (λ files left. (files, left, record { changed = record { front = []; behind = []; parts = refl; has = held files left }; kept = refl }));
}

-- with one payload, or without
front_of_one : (may_be_there : Type 0) (state : State) (payload : Payload) (image : List ℕ) → HasStateOrNext may_be_there state payload image → HasFront state (payload ∷ []) image
front_of_one may_be_there state payload image (inl has) = record { front = []; behind = payload ∷ []; parts = refl; has = has }
front_of_one may_be_there state payload image (inr has) = record { front = payload ∷ []; behind = []; parts = refl; has = has.1 }

module _ (timed : Type 0) (state : State) (payload : Payload) (old new : DiskState) where
  each_of_one : (result : Result (Unit {0}) CommitEnd) → CommitsByGate state payload result old new → LeavesOnly (λ _. Alone Left (λ _ image. HasFront state (payload ∷ []) image)) old new
  each_of_one result by_gate =
      weakens (λ calls. Alone Left (λ _ image. HasStateOrNext (2 < calls) state payload image)) (λ _. Alone Left (λ _ image. HasFront state (payload ∷ []) image)) old new by_gate.leaves
      (λ k was files left alone. record { changed = front_of_one (2 < k) state payload (file Left files) alone.changed; kept = alone.kept })

  pub stores_one : (done : Unit {0}) → Commits state payload (Ok done) old new → (timed → CommitsByGate state payload (Ok done) old new) → Stores timed state (payload ∷ []) (payload ∷ []) old new
  stores_one done commits by_gate = record {
    settled = λ files left. let from = commits.crash files left in (from.0, from.1, record { changed = inl (commits.acknowledged files left); kept = from.2.kept });
    each = λ told. each_of_one (Ok done) (by_gate told);
  }

  pub stores_tried : (count : ℕ) → Commits state payload (Err (Failed count)) old new → (timed → CommitsByGate state payload (Err (Failed count)) old new) → Stores timed state [] (payload ∷ []) old new
  stores_tried count commits by_gate = record {
    settled = λ files left.
        let from = commits.crash files left in
        (from.0, from.1, record { changed = ⊎_elim (λ has. inl has) (λ has. inr has.1) from.2.changed; kept = from.2.kept });
    each = λ told. each_of_one (Err (Failed count)) (by_gate told);
  }

-- ---- one after the other

longer : (state : State) (payload : Payload) (tried : List Payload) (image : List ℕ) → HasFront state (payload ∷ []) image → HasFront state (payload ∷ tried) image
longer state payload tried image one = record {
  front = one.front;
  behind = one.behind ++ tried;
  parts = ap (λ (list : List Payload). list ++ tried) one.parts ∙ append_assoc one.front one.behind tried;
  has = one.has;
}

behind_one : (state : State) (payload : Payload) (tried : List Payload) (image : List ℕ) → HasFront (after_payload state payload) tried image → HasFront state (payload ∷ tried) image
behind_one state payload tried image more = record {
  front = payload ∷ more.front;
  behind = more.behind;
  parts = ap (λ (list : List Payload). payload ∷ list) more.parts;
  has = more.has;
}

pub stores_joined : (timed : Type 0) (state : State) (payload : Payload) (acked tried : List Payload) (old mid new : DiskState) → Stores timed state (payload ∷ []) (payload ∷ []) old mid → Stores timed (after_payload state payload) acked tried mid new
    → Stores timed state (payload ∷ acked) (payload ∷ tried) old new
stores_joined timed state payload acked tried old mid new one more = record {
  settled = λ files left.
      let from = more.settled files left in
      let first = one.settled from.0 from.1 in
      (first.0, first.1, record { changed = from.2.changed; kept = from.2.kept ∙ first.2.kept });
  each = λ told.
      joins (λ _. Alone Left (λ _ image. HasFront state (payload ∷ []) image)) (λ _. Alone Left (λ _ image. HasFront (after_payload state payload) tried image)) (λ _. Alone Left (λ _ image. HasFront state (payload ∷ tried) image))
      old mid new (one.each told) (more.each told)
      (λ k was files left alone. record { changed = longer state payload tried (file Left files) alone.changed; kept = alone.kept })
      (λ j k was files at some left alone.
      let first = one.settled was left in
      (first.0, first.1, record { changed = behind_one state payload tried (file Left files) alone.changed; kept = alone.kept ∙ first.2.kept }));
}

-- ---- the load

-- from the sync on the images have the state that is read, and before it each that of one at the beginning
synced_image : (failed : Type 0) (bytes : List ℕ) (tried : List Payload) (k : ℕ) (was image : List ℕ) → KeepsState was image → (0 < k → KeepsState bytes image) → IsImage ((k ≡ 0) ⊎ failed) bytes tried was image
synced_image failed bytes tried zero was image keeps synced = inr (inl refl, keeps)
synced_image failed bytes tried (suc k) was image keeps synced = inl (record { front = []; behind = tried; parts = refl; has = synced (omega arith) })

synced_first : (failed : Type 0) (bytes : List ℕ) (tried : List Payload) (k : ℕ) (was files : TwoFiles) → KeepsSynced bytes k was files → Alone Left (IsImage ((k ≡ 0) ⊎ failed) bytes tried) was files
synced_first failed bytes tried k was files synced = record { changed = synced_image failed bytes tried k (file Left was) (file Left files) synced.0.changed synced.1; kept = synced.0.kept }

module _ (timed failed : Type 0) (bytes : List ℕ) (old mid : DiskState) (loads : Loads old mid) where
  -- it failed
  pub leaves_failed : failed → (timed → LeavesOnly (λ _. Alone Left KeepsState) old mid) → Leaves timed false failed bytes [] [] old mid
  leaves_failed is by_moment = record {
    settled = λ files left. let from = loads.crash files left in (from.0, from.1, record { changed = inr (inr (refl, from.2.changed)); kept = from.2.kept });
    each = λ told. weakens (λ _. Alone Left KeepsState) (λ calls. Alone Left (IsImage ((calls ≡ 0) ⊎ failed) bytes [])) old mid (by_moment told)
        (λ k was files left keeps. record { changed = inr (inr is, keeps.changed); kept = keeps.kept });
  }

  -- the store was refused
  pub leaves_refused : (timed → LeavesOnly (KeepsSynced bytes) old mid) → Leaves timed false failed bytes [] [] old mid
  leaves_refused synced = record {
    settled = λ files left. let from = loads.crash files left in (from.0, from.1, record { changed = inr (inr (refl, from.2.changed)); kept = from.2.kept });
    each = λ told. weakens (KeepsSynced bytes) (λ calls. Alone Left (IsImage ((calls ≡ 0) ⊎ failed) bytes [])) old mid (synced told) (λ k was files left keeps. synced_first failed bytes [] k was files keeps);
  }

-- ---- a load, and commits behind it

module _ (bytes : List ℕ) (state : State) (one : (other : State) → HasState bytes other → other ≡ state) where
  pub has_them : (payloads : List Payload) (image : List ℕ) → HasState image (state_from state payloads) → HasThem bytes payloads image
  has_them payloads image has other is = subst (λ s. HasState image (state_from s payloads)) (sym (one other is)) has

  has_front : (tried : List Payload) (image : List ℕ) → HasFront state tried image → HasFrontOf bytes tried image
  has_front tried image front = record { front = front.front; behind = front.behind; parts = front.parts; has = has_them front.front image front.has }

  pub leaves_loaded : (timed failed : Type 0) (acked tried : List Payload) (old mid new : DiskState) → Loads old mid → (timed → LeavesOnly (KeepsSynced bytes) old mid) → Stores timed state acked tried mid new → Leaves timed true failed bytes acked tried old new
  leaves_loaded timed failed acked tried old mid new loads synced stores = record {
    settled = λ files left.
        let from = stores.settled files left in
        let first = loads.crash from.0 from.1 in (
          first.0,
          first.1,
          record {
            changed = ⊎_elim (λ has. inl (has_them acked (file Left files) has)) (λ has. inr (inl (has_them tried (file Left files) has))) from.2.changed;
            kept = from.2.kept ∙ first.2.kept;
          },
        );
    each = λ told.
        joins (KeepsSynced bytes) (λ _. Alone Left (λ _ image. HasFront state tried image)) (λ calls. Alone Left (IsImage ((calls ≡ 0) ⊎ failed) bytes tried)) old mid new (synced told) (stores.each told)
        (λ k was files left keeps. synced_first failed bytes tried k was files keeps)
        (λ j k was files at some left alone.
        let first = loads.crash was left in
        (first.0, first.1, record { changed = inl (has_front tried (file Left files) alone.changed); kept = alone.kept ∙ first.2.kept }));
  }
