-- Trails behind a load.
use Rattle.std.proofs.Common.{◌⊎◌, inl, inr, ⊎_elim, ℕ, ◌<◌, ◌≤◌, List, [], ◌++◌, refl, arith}
use Rattle.disk_model.specs.Disk.{TwoFiles, DiskState}
use Rattle.disk_model.specs.Moments.{LeavesOnly}
use Rattle.disk_model.proofs.RunLemmas.{started, weakens, joins}
use Rattle.commit_payloads.specs.declared.payload.Payload.{Payload}
use Rattle.state_model.specs.After.{state_from}
use Rattle.state_model.specs.Dataset.{State}
use Rattle.pair_state.specs.PairState.{HasPairState, KeepsPairState}
use Rattle.pair_store.specs.Load.{KeepsPairStateSynced, StoreLoads}
use Rattle.commit_trails.specs.Trails.{HasFront, HasFrontOrOlder, HasStateOnDisk, LoadedTrail, Trail, UnloadedTrail}
use Rattle.commit_trails.proofs.TrailLemmas.{from_beginning, front_behind, front_of_both, front_of_longer, front_of_none, with_both}

-- ---- the load gave a store

up_to_three : (k : ℕ) → (k ≤ 3) ⊎ (3 < k)
up_to_three k = grind arith

-- from the fourth call on an image has the state that is read, and before it that of one at the beginning
synced_image : (state : State) (tried : List Payload) (now was files : TwoFiles) (k : ℕ) → HasPairState now state → KeepsPairStateSynced now k was files → HasFrontOrOlder state tried k was files
synced_image state tried now was files k has synced =
    ⊎_elim (λ early. inr (early, synced.0)) (λ late. inl (front_of_none state tried files (synced.1 late state has))) (up_to_three k)

module _ (timed : Type 0) (state : State) (acked tried : List Payload) (old mid new : DiskState) where
  pub loaded_trail : HasPairState old.now state → StoreLoads old mid → (timed → LeavesOnly (KeepsPairStateSynced old.now) old mid) → Trail timed state acked tried mid new → LoadedTrail timed state acked tried old new
  loaded_trail has loads synced trail = record {
    front = trail.front;
    settled = trail.settled;
    each = λ told.
        joins (KeepsPairStateSynced old.now) (λ calls was files. HasFront state tried files) (HasFrontOrOlder state tried) old mid new (synced told) (trail.each told)
        (λ k was files left kept. synced_image state tried old.now was files k has kept)
        (λ j k was files at some left front.
        let from = loads.crash was left in
        (from.0, from.1, inl front));
    honesty = (λ honest. trail.honesty.0 (loads.honesty.0 honest), λ honest. loads.honesty.1 (trail.honesty.1 honest));
  }

-- ---- it gave none

pub unloaded_trail : (timed : Type 0) (old new : DiskState) → StoreLoads old new → (timed → LeavesOnly (λ _. KeepsPairState) old new) → UnloadedTrail timed old new
unloaded_trail timed old new loads moments = record { settled = loads.crash; each = moments; honesty = loads.honesty }

pub idle_trail : (timed : Type 0) (disk : DiskState) → UnloadedTrail timed disk disk
idle_trail timed disk = record {
  settled = λ files left. (files, left, λ state has. has);
  each = λ told. started (λ _. KeepsPairState) disk (λ files left. (files, left, λ state has. has));
  honesty = (λ honest. honest, λ honest. honest);
}

-- ---- a trail behind a loaded one

module _ (timed : Type 0) (state : State) (first acked tried : List Payload) (old mid new : DiskState) where
  longer_moment : (k : ℕ) (was files : TwoFiles) → HasFrontOrOlder state first k was files → HasFrontOrOlder state (first ++ tried) k was files
  longer_moment k was files (inl front) = inl (front_of_longer state first tried files front)
  longer_moment k was files (inr older) = inr older

  pub loaded_trail_on : LoadedTrail timed state first first old mid → Trail timed (state_from state first) acked tried mid new → LoadedTrail timed state (first ++ acked) (first ++ tried) old new
  loaded_trail_on one more = record {
    front = front_of_both first acked tried more.front;
    settled = λ files left. ⊎_elim (λ has. inl (with_both state first acked files has)) (λ has. inr (with_both state first tried files has)) (more.settled files left);
    each = λ told.
        joins (HasFrontOrOlder state first) (λ calls was files. HasFront (state_from state first) tried files) (HasFrontOrOlder state (first ++ tried)) old mid new (one.each told) (more.each told)
        (λ k was files left at. longer_moment k was files at)
        (λ j k was files at some left front.
        let from = from_beginning (HasFrontOrOlder state first) old mid j was (one.each told) at left in
        (from.0, from.1, inl (front_behind state first tried files front)));
    honesty = (λ honest. more.honesty.0 (one.honesty.0 honest), λ honest. one.honesty.1 (more.honesty.1 honest));
  }

-- ---- behind files of one state

module _ (timed : Type 0) (state : State) (old new : DiskState) (held : HasStateOnDisk state old) where
  front_at : (tried : List Payload) (was files : TwoFiles) (k : ℕ) → HasPairState was state → HasFrontOrOlder state tried k was files → HasFront state tried files
  front_at tried was files k has (inl front) = front
  front_at tried was files k has (inr older) = front_of_none state tried files (older.1 state has)

  -- a further load leads a trail
  pub further_trail : (acked tried : List Payload) → LoadedTrail timed state acked tried old new → Trail timed state acked tried old new
  further_trail acked tried loaded = record {
    front = loaded.front;
    settled = loaded.settled;
    each = λ told. weakens (HasFrontOrOlder state tried) (λ calls was files. HasFront state tried files) old new (loaded.each told) (λ k was files left at. front_at tried was files k (held was left) at);
    honesty = loaded.honesty;
  }

  -- and so does one that gave no store
  pub refused_trail : UnloadedTrail timed old new → Trail timed state [] [] old new
  refused_trail unloaded = record {
    front = ([], refl);
    settled = λ files left.
        let from = unloaded.settled files left in
        inl (from.2 state (held from.0 from.1));
    each = λ told.
        weakens (λ _. KeepsPairState) (λ calls was files. HasFront state [] files) old new (unloaded.each told) (λ k was files left kept. front_of_none state [] files (kept state (held was left)));
    honesty = unloaded.honesty;
  }

-- ---- behind a call that loaded no store

module _ (timed : Type 0) (old mid new : DiskState) (unloaded : UnloadedTrail timed old mid) where
  kept_behind : (was files : TwoFiles) → mid.may_leave was → KeepsPairState was files → (first : TwoFiles) × old.may_leave first × KeepsPairState first files
  kept_behind was files left kept =
      let from = unloaded.settled was left in
      (from.0, from.1, λ state has. kept state (from.2 state has))

  pub unloaded_behind : UnloadedTrail timed mid new → UnloadedTrail timed old new
  unloaded_behind more = record {
    settled = λ files left.
        let from = more.settled files left in
        kept_behind from.0 files from.1 from.2;
    each = λ told.
        joins (λ _. KeepsPairState) (λ _. KeepsPairState) (λ _. KeepsPairState) old mid new (unloaded.each told) (more.each told)
        (λ k was files left kept. kept) (λ j k was files at some left kept. kept_behind was files left kept);
    honesty = (λ honest. more.honesty.0 (unloaded.honesty.0 honest), λ honest. unloaded.honesty.1 (more.honesty.1 honest));
  }
