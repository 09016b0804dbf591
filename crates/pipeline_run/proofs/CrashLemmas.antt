-- What a crash leaves of updates, one after another.
use Rattle.std.proofs.Common.{◌≡◌, ◌⊎◌, inl, inr, ℕ, ◌+◌, ◌<◌, List, [], ◌∷◌, ◌++◌, false, refl, sym, ap, subst, ◌∙◌, append-nil, append_assoc, arith}
use Rattle.disk_model.specs.declared.disk.Side.TheVariants.{Left}
use Rattle.disk_model.specs.Disk.{TwoFiles, DiskState, Alone, Follows}
use Rattle.disk_model.specs.Moments.{LeavesOnly}
use Rattle.disk_model.proofs.RunLemmas.{started, joins}
use Rattle.commit_records.specs.declared.payload.Payload.{Payload}
use Rattle.store_state.specs.State.{State, state_from, after_payload}
use Rattle.store_core.specs.State.{HasState, KeepsState}
use Rattle.table_update.specs.Crash.{HasThem, IsImage, IsSettled}
use Rattle.pipeline_run.specs.Crash.{KeepsDisk, LeavesAll}
use Rattle.pipeline_run.specs.Update.{Ended, acked_by, tried_by, loaded_by, LoadFails}

-- ---- states

pub state_from_both : (state : State) (first second : List Payload) → state_from state (first ++ second) ≡ state_from (state_from state first) second
state_from_both state [] second = refl
state_from_both state (payload ∷ first) second = state_from_both (after_payload state payload) first second

has_both : (bytes mid image : List ℕ) (first second : List Payload) → HasThem bytes first mid → HasThem mid second image → HasThem bytes (first ++ second) image
has_both bytes mid image first second here there state has =
    subst (HasState image) (sym (state_from_both state first second)) (there (state_from state first) (here state has))

has_kept : (bytes mid image : List ℕ) (first : List Payload) → HasThem bytes first mid → KeepsState mid image → HasThem bytes first image
has_kept bytes mid image first here keeps state has = keeps (state_from state first) (here state has)

-- ---- lists of updates

pub acked_by_both : (first second : List Ended) → acked_by (first ++ second) ≡ acked_by first ++ acked_by second
acked_by_both [] second = refl
acked_by_both (ended ∷ first) second = ap (λ (more : List Payload). ended.acked ++ more) (acked_by_both first second) ∙ sym (append_assoc ended.acked (acked_by first) (acked_by second))

pub tried_by_both : (first second : List Ended) → tried_by (first ++ second) ≡ tried_by first ++ tried_by second
tried_by_both [] second = refl
tried_by_both (ended ∷ first) second = ap (λ (more : List Payload). ended.tried ++ more) (tried_by_both first second) ∙ sym (append_assoc ended.tried (tried_by first) (tried_by second))

none_of_both : (first second : List Ended) → first ++ second ≡ [] → (first ≡ []) × (second ≡ [])
none_of_both [] second none = (refl, none)
none_of_both (ended ∷ first) second none = absurd cc

fails_first : (first second : List Ended) → LoadFails first → LoadFails (first ++ second)
fails_first [] second fails = absurd fails
fails_first (ended ∷ first) second fails = fails

unloaded_both : (first second : List Ended) → (loaded_by first ≡ false → first ≡ []) → (loaded_by second ≡ false → second ≡ []) → loaded_by (first ++ second) ≡ false → first ++ second ≡ []
unloaded_both [] second here there unloaded = there unloaded
unloaded_both (ended ∷ first) second here there unloaded = absurd (let none : ended ∷ first ≡ [] = here unloaded in cc)

-- ---- a disk that stays as it is

pub keeps_disk : (timed : Type 0) (disk : DiskState) → KeepsDisk timed disk disk
keeps_disk timed disk = record {
  unchanged = record { same = refl; no_more = λ files left. left; no_fewer = λ files left. left };
  moments = λ told. started (λ calls was files. (calls ≡ 0) × (files ≡ was)) disk (λ files left. (files, left, (refl, refl)));
}

keeps_both : (timed : Type 0) (old mid new : DiskState) → KeepsDisk timed old mid → KeepsDisk timed mid new → KeepsDisk timed old new
keeps_both timed old mid new here there = record {
  unchanged = record {
    same = there.unchanged.same ∙ here.unchanged.same;
    no_more = λ files left. here.unchanged.no_more files (there.unchanged.no_more files left);
    no_fewer = λ files left. there.unchanged.no_fewer files (here.unchanged.no_fewer files left);
  };
  moments = λ told. joins (λ calls was files. (calls ≡ 0) × (files ≡ was)) (λ calls was files. (calls ≡ 0) × (files ≡ was)) (λ calls was files. (calls ≡ 0) × (files ≡ was)) old mid new
      (here.moments told) (there.moments told) (λ k was files left is. is) (λ j k was files at some left is. absurd (omega (arith, some, is.0)));
}

-- ---- updates that have all succeeded

-- an image has the state of these bytes with these payloads or, where it may be older, that of the image it comes from
abbrev HasAll : Type 0 → List ℕ → List Payload → List ℕ → List ℕ → Type 0
HasAll may_be_older bytes tried was image = HasThem bytes tried image ⊎ (may_be_older × KeepsState was image)

-- the changes that a crash may leave of them, after so many calls and in the end
abbrev AnyImage : List Ended → List ℕ → ℕ → TwoFiles → TwoFiles → Type 0
AnyImage updates bytes calls was files = Alone Left (IsImage ((calls ≡ 0) ⊎ LoadFails updates) bytes (tried_by updates)) was files

pub record SoFar (timed : Type 0) (updates : List Ended) (old new : DiskState) : Type 0 where
  pub reads : HasThem old.now.left (tried_by updates) new.now.left
  pub settled : Follows (Alone Left (HasAll (updates ≡ []) old.now.left (tried_by updates))) old.may_leave new.may_leave
  pub each : timed → LeavesOnly (AnyImage updates old.now.left) old new
  pub acked : acked_by updates ≡ tried_by updates
  pub loaded : loaded_by updates ≡ false → updates ≡ []
  pub none : updates ≡ [] → KeepsDisk timed old new

pub at_start : (timed : Type 0) (disk : DiskState) → SoFar timed [] disk disk
at_start timed disk = record {
  reads = λ state has. has;
  settled = λ files left. (files, left, record { changed = inr (refl, λ state has. has); kept = refl });
  each = λ told. started (AnyImage [] disk.now.left) disk (λ files left. (files, left, record { changed = inr (inl refl, λ state has. has); kept = refl }));
  acked = refl;
  loaded = λ unloaded. refl;
  none = λ e. keeps_disk timed disk;
}

settled_all : (updates : List Ended) (bytes was image : List ℕ) → HasAll (updates ≡ []) bytes (tried_by updates) was image → IsSettled (loaded_by updates ≡ false) bytes (acked_by updates) (tried_by updates) was image
settled_all updates bytes was image (inl has) = inr (inl has)
settled_all updates bytes was image (inr older) = inr (inr (ap loaded_by older.0, older.1))

-- what a crash leaves of them
pub all_left : (timed : Type 0) (updates : List Ended) (old new : DiskState) → SoFar timed updates old new → LeavesAll timed updates old new
all_left timed updates old new far = record {
  leaves = record {
    settled = λ files left.
        let from = far.settled files left in
        (from.0, from.1, record { changed = settled_all updates old.now.left from.0.left files.left from.2.changed; kept = from.2.kept });
    each = far.each;
  };
  none = far.none;
}

pub no_updates : (timed : Type 0) (disk : DiskState) → LeavesAll timed [] disk disk
no_updates timed disk = all_left timed [] disk disk (at_start timed disk)

-- ---- updates behind them

settled_both : (first second : List Ended) (bytes now was mid image : List ℕ) → HasThem bytes (tried_by first) now → acked_by first ≡ tried_by first → (loaded_by second ≡ false → acked_by second ≡ [])
    → HasAll (first ≡ []) bytes (tried_by first) was mid → IsSettled (loaded_by second ≡ false) now (acked_by second) (tried_by second) mid image
    → IsSettled (loaded_by (first ++ second) ≡ false) bytes (acked_by (first ++ second)) (tried_by (first ++ second)) was image
settled_both first second bytes now was mid image reads same unloaded here (inl has) =
    let all : tried_by first ++ acked_by second ≡ acked_by (first ++ second) = ap (λ (front : List Payload). front ++ acked_by second) (sym same) ∙ sym (acked_by_both first second) in
    inl (subst (λ (payloads : List Payload). HasThem bytes payloads image) all (has_both bytes now image (tried_by first) (acked_by second) reads has))
settled_both first second bytes now was mid image reads same unloaded here (inr (inl has)) =
    inr (inl (subst (λ (payloads : List Payload). HasThem bytes payloads image) (sym (tried_by_both first second)) (has_both bytes now image (tried_by first) (tried_by second) reads has)))
settled_both first second bytes now was mid image reads same unloaded (inl has) (inr (inr (not_loaded, keeps))) =
    let all : tried_by first ≡ acked_by (first ++ second) =
    sym (append-nil (tried_by first)) ∙ ap (λ (more : List Payload). tried_by first ++ more) (sym (unloaded not_loaded)) ∙ ap (λ (front : List Payload). front ++ acked_by second) (sym same) ∙ sym (acked_by_both first second) in
    inl (subst (λ (payloads : List Payload). HasThem bytes payloads image) all (has_kept bytes mid image (tried_by first) has keeps))
settled_both first second bytes now was mid image reads same unloaded (inr (none, older)) (inr (inr (not_loaded, keeps))) =
    inr (inr (ap (λ (front : List Ended). loaded_by (front ++ second)) none ∙ not_loaded, λ state has. keeps state (older state has)))

image_grows : (first second : List Ended) (k : ℕ) (bytes was image : List ℕ) → IsImage ((k ≡ 0) ⊎ LoadFails first) bytes (tried_by first) was image
    → IsImage ((k ≡ 0) ⊎ LoadFails (first ++ second)) bytes (tried_by (first ++ second)) was image
image_grows first second k bytes was image (inl has) = inl (record {
  front = has.front;
  behind = has.behind ++ tried_by second;
  parts = tried_by_both first second ∙ ap (λ (front : List Payload). front ++ tried_by second) has.parts ∙ append_assoc has.front has.behind (tried_by second);
  has = has.has;
})
image_grows first second k bytes was image (inr (inl zero, keeps)) = inr (inl zero, keeps)
image_grows first second k bytes was image (inr (inr fails, keeps)) = inr (inr (fails_first first second fails), keeps)

image_both : (first second : List Ended) (j k : ℕ) (bytes now was mid image : List ℕ) → 0 < k → HasThem bytes (tried_by first) now → HasAll (first ≡ []) bytes (tried_by first) was mid
    → IsImage ((k ≡ 0) ⊎ LoadFails second) now (tried_by second) mid image → IsImage ((j + k ≡ 0) ⊎ LoadFails (first ++ second)) bytes (tried_by (first ++ second)) was image
image_both first second j k bytes now was mid image some reads here (inl has) = inl (record {
  front = tried_by first ++ has.front;
  behind = has.behind;
  parts = tried_by_both first second ∙ ap (λ (more : List Payload). tried_by first ++ more) has.parts ∙ sym (append_assoc (tried_by first) has.front has.behind);
  has = has_both bytes now image (tried_by first) has.front reads has.has;
})
image_both first second j k bytes now was mid image some reads (inl has) (inr (older, keeps)) = inl (record {
  front = tried_by first;
  behind = tried_by second;
  parts = tried_by_both first second;
  has = has_kept bytes mid image (tried_by first) has keeps;
})
image_both first second j k bytes now was mid image some reads (inr (none, older)) (inr (inl zero, keeps)) = absurd (omega (arith, some, zero))
image_both first second j k bytes now was mid image some reads (inr (none, older)) (inr (inr fails, keeps)) =
    inr (inr (subst (λ (front : List Ended). LoadFails (front ++ second)) (sym none) fails), λ state has. keeps state (older state has))

pub leaves_on : (timed : Type 0) (first second : List Ended) (old mid new : DiskState) → SoFar timed first old mid → LeavesAll timed second mid new → (loaded_by second ≡ false → acked_by second ≡ [])
    → LeavesAll timed (first ++ second) old new
leaves_on timed first second old mid new far more unloaded = record {
  leaves = record {
    settled = λ files left.
        let last = more.leaves.settled files left in
        let from = far.settled last.0 last.1 in (
          from.0,
          from.1,
          record {
            changed = settled_both first second old.now.left mid.now.left from.0.left last.0.left files.left far.reads far.acked unloaded from.2.changed last.2.changed;
            kept = last.2.kept ∙ from.2.kept;
          },
        );
    each = λ told. joins (AnyImage first old.now.left) (AnyImage second mid.now.left) (AnyImage (first ++ second) old.now.left) old mid new (far.each told) (more.leaves.each told)
        (λ k was files left is. record { changed = image_grows first second k old.now.left was.left files.left is.changed; kept = is.kept })
        (λ j k was files at some left is.
        let from = far.settled was left in (
          from.0,
          from.1,
          record {
            changed = image_both first second j k old.now.left mid.now.left from.0.left was.left files.left some far.reads from.2.changed is.changed;
            kept = is.kept ∙ from.2.kept;
          },
        ));
  };
  none = λ e. let both = none_of_both first second e in keeps_both timed old mid new (far.none both.0) (more.none both.1);
}

-- updates that have all succeeded, from these bytes of the file to those
pub record WentWell (updates : List Ended) (before after : List ℕ) : Type 0 where
  pub acked : acked_by updates ≡ tried_by updates
  pub loaded : loaded_by updates ≡ false → updates ≡ []
  pub reads : HasThem before (tried_by updates) after

well_settled : (updates : List Ended) (bytes was image : List ℕ) → acked_by updates ≡ tried_by updates → (loaded_by updates ≡ false → updates ≡ [])
    → IsSettled (loaded_by updates ≡ false) bytes (acked_by updates) (tried_by updates) was image → HasAll (updates ≡ []) bytes (tried_by updates) was image
well_settled updates bytes was image same loaded (inl has) = inl (subst (λ (payloads : List Payload). HasThem bytes payloads image) same has)
well_settled updates bytes was image same loaded (inr (inl has)) = inl has
well_settled updates bytes was image same loaded (inr (inr (not_loaded, keeps))) = inr (loaded not_loaded, keeps)

pub well_on : (timed : Type 0) (first second : List Ended) (old mid new : DiskState) → SoFar timed first old mid → LeavesAll timed second mid new → WentWell second mid.now.left new.now.left
    → SoFar timed (first ++ second) old new
well_on timed first second old mid new far more well =
    let all = leaves_on timed first second old mid new far more (λ unloaded. ap acked_by (well.loaded unloaded)) in
    let same : acked_by (first ++ second) ≡ tried_by (first ++ second) =
    acked_by_both first second ∙ ap (λ (front : List Payload). front ++ acked_by second) far.acked ∙ ap (λ (behind : List Payload). tried_by first ++ behind) well.acked ∙ sym (tried_by_both first second) in
    let loaded : loaded_by (first ++ second) ≡ false → first ++ second ≡ [] = unloaded_both first second far.loaded well.loaded in
    record {
      reads = subst (λ (payloads : List Payload). HasThem old.now.left payloads new.now.left) (sym (tried_by_both first second)) (has_both old.now.left mid.now.left new.now.left (tried_by first) (tried_by second) far.reads well.reads);
      settled = λ files left.
          let from = all.leaves.settled files left in
          (from.0, from.1, record { changed = well_settled (first ++ second) old.now.left from.0.left files.left same loaded from.2.changed; kept = from.2.kept });
      each = all.leaves.each;
      acked = same;
      loaded = loaded;
      none = all.none;
    }
