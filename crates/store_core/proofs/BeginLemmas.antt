-- What the making of a log leaves of the files.
use Rattle.std.proofs.Common.{◌≡◌, inl, inr, ℕ, ◌<◌, ◌≤◌, List, [], None, Result, Err, ◌↔◌, refl, sym, ◌∙◌, ap, subst, arith}
use Rattle.disk_model.specs.declared.disk.Side.TheVariants.{Left, Right}
use Rattle.disk_model.specs.Disk.{TwoFiles, DiskState, Alone, Syncs, IsOnDisk, file}
use Rattle.disk_model.specs.Moments.{LeavesOnly}
use Rattle.disk_model.proofs.RunLemmas.{started, weakens, joins}
use Rattle.commit_gate.specs.Head.{Same, SameSynced}
use Rattle.commit_gate.specs.Shut.{IsSameOrUnfinished, Shuts}
use Rattle.commit_gate.specs.Fill.{IsUnfinished, IsUnfinishedOrFilled, filled_end, Fills, FillsByGate}
use Rattle.commit_gate.specs.declared.log.AppendEnd.{AppendEnd}
use Rattle.commit_gate.specs.declared.log.AppendEnd.TheVariants.{Full as NoRoom, Failed as AppendFailed}
use Rattle.commit_gate.specs.declared.log.Log.{Log}
use Rattle.commit_gate.proofs.LoadLemmas.{log_length}
use Rattle.store_core.specs.State.{IsBegun, KeepsState}
use Rattle.store_core.specs.Begin.{BeginAnswers, KeepsSynced, Loads}
use Rattle.store_core.specs.Refusals.{refusal_of_append}
use Rattle.store_core.proofs.StateLemmas.{begun_state, new_state, keeps_empty, keeps_same}

-- each image at a moment has the state of one at the beginning
abbrev pub KeepsAtMoments : DiskState → DiskState → Type 0
KeepsAtMoments old new = LeavesOnly (λ _. Alone Left KeepsState) old new

still_alone : (files was : TwoFiles) → files ≡ was → Alone Left KeepsState was files
still_alone files was same = record { changed = keeps_same was.left files.left (ap (file Left) same); kept = ap (file Right) same }

-- no call
pub loads_still : (disk : DiskState) → Loads disk disk
loads_still disk = record { crash = λ files left. (files, left, still_alone files files refl); other_file = refl; honesty = (λ honest. honest, λ honest. honest) }

pub moments_still : (disk : DiskState) → KeepsAtMoments disk disk
moments_still disk = started (λ _. Alone Left KeepsState) disk (λ files left. (files, left, still_alone files files refl))

-- a read that began with a sync
pub loads_synced : {T E : Type 0} (result : Result T E) (old new : DiskState) → Syncs Left result old new → Loads old new
loads_synced result old new sync = record {
  crash = λ files left. (files, sync.no_more files left, still_alone files files refl);
  other_file = ap (file Right) sync.same;
  honesty = sync.honesty;
}

pub moments_read : (old new : DiskState) → LeavesOnly Same old new → KeepsAtMoments old new
moments_read old new run = weakens Same (λ _. Alone Left KeepsState) old new run (λ k was files left same. still_alone files was same)

-- one after the other
both_keep : (first was files : TwoFiles) → Alone Left KeepsState first was → Alone Left KeepsState was files → Alone Left KeepsState first files
both_keep first was files one two = record { changed = λ state has. two.changed state (one.changed state has); kept = two.kept ∙ one.kept }

pub loads_on : (old mid new : DiskState) → Loads old mid → Loads mid new → Loads old new
loads_on old mid new one two = record {
  crash = λ files left.
      let from = two.crash files left in
      let first = one.crash from.0 from.1 in
      (first.0, first.1, both_keep first.0 from.0 files first.2 from.2);
  other_file = two.other_file ∙ one.other_file;
  honesty = (λ honest. two.honesty.0 (one.honesty.0 honest), λ honest. one.honesty.1 (two.honesty.1 honest));
}

pub moments_on : (old mid new : DiskState) → Loads old mid → KeepsAtMoments old mid → KeepsAtMoments mid new → KeepsAtMoments old new
moments_on old mid new loads one two =
    joins (λ _. Alone Left KeepsState) (λ _. Alone Left KeepsState) (λ _. Alone Left KeepsState) old mid new one two (λ k was files left keeps. keeps)
    (λ j k was files at some left keeps.
    let first = loads.crash was left in
    (first.0, first.1, both_keep first.0 was files first.2 keeps))

-- a file that was the beginning of a log, and is that still
unfinished : (end : ℕ) (was bytes : List ℕ) → IsBegun was → end ≤ 18 → IsUnfinished end was bytes → IsBegun bytes
unfinished end was bytes begun short is = (is.dead, omega (arith, is.no_longer, begun.1))

shut_begun : (was bytes : List ℕ) → IsBegun was → IsSameOrUnfinished was bytes → IsBegun bytes
shut_begun was bytes begun (inl same) = subst IsBegun (sym same) begun
shut_begun was bytes begun (inr is) = unfinished 1 was bytes begun (omega arith) is

shut_keeps : (was bytes : List ℕ) → IsBegun was → IsSameOrUnfinished was bytes → KeepsState was bytes
shut_keeps was bytes begun is = keeps_empty was bytes begun (begun_state bytes (shut_begun was bytes begun is))

pub new_end : filled_end 1 None ≡ 18
new_end = omega (arith, log_length 1 [])

-- a new log that has room is not filled only where the disk fails
pub fill_refusal : (len old room : ℕ) (end : AppendEnd) (result : Result Log AppendEnd) → result ≡ Err end → 18 ≤ room
    → (room < filled_end 1 None) ↔ (result ≡ Err (NoRoom (filled_end 1 None) room)) → ((at free : ℕ) → result ≡ Err (NoRoom at free) → (at ≡ filled_end 1 None) × (free ≡ room)) → BeginAnswers len old (Err (refusal_of_append end))
fill_refusal len old room (NoRoom at free) result is fits full full_by =
    let by = full_by at free is in
    let less = full.1 (is ∙ (λ i. Err (NoRoom (by.0 i) (by.1 i)))) in
    absurd (omega (arith, less, fits, new_end))
fill_refusal len old room AppendFailed result is fits full full_by = tt

fill_keeps : (may_be_there : Type 0) (was bytes : List ℕ) → IsBegun was → IsUnfinishedOrFilled may_be_there 1 None was bytes → KeepsState was bytes
fill_keeps may_be_there was bytes begun (inl is) = keeps_empty was bytes begun (begun_state bytes (unfinished (filled_end 1 None) was bytes begun (omega (arith, new_end)) is))
fill_keeps may_be_there was bytes begun (inr has) = keeps_empty was bytes begun (new_state 1 bytes has.1)

-- whatever a crash leaves is the beginning of a log
abbrev pub AllBegun : DiskState → Type 0
AllBegun disk = (files : TwoFiles) → disk.may_leave files → IsBegun (file Left files)

pub begun_on_disk : (disk : DiskState) → IsBegun (file Left disk.now) → IsOnDisk Left disk → AllBegun disk
begun_on_disk disk begun on_disk files left = subst IsBegun (sym (on_disk files left)) begun

module _ (old mid : DiskState) (begun : AllBegun old) where
  pub begun_after_shut : {T E : Type 0} (result : Result T E) → Shuts Left result old mid → AllBegun mid
  begun_after_shut result shuts files left =
      let from = shuts.crash files left in
      shut_begun (file Left from.0) (file Left files) (begun from.0 from.1) from.2.changed

  pub loads_shut : {T E : Type 0} (result : Result T E) → Shuts Left result old mid → Loads old mid
  loads_shut result shuts = record {
    crash = λ files left.
        let from = shuts.crash files left in
        (from.0, from.1, record { changed = shut_keeps (file Left from.0) (file Left files) (begun from.0 from.1) from.2.changed; kept = from.2.kept });
    other_file = shuts.other_file;
    honesty = shuts.honesty;
  }

  pub moments_shut : LeavesOnly (λ _. Alone Left IsSameOrUnfinished) old mid → KeepsAtMoments old mid
  moments_shut run =
      weakens (λ _. Alone Left IsSameOrUnfinished) (λ _. Alone Left KeepsState) old mid run
      (λ k was files left alone. record { changed = shut_keeps (file Left was) (file Left files) (begun was left) alone.changed; kept = alone.kept })

  pub loads_fill : {E : Type 0} (result : Result Log E) → Fills Left 1 None result old mid → Loads old mid
  loads_fill result fills = record {
    crash = λ files left.
        let from = fills.crash files left in
        (from.0, from.1, record { changed = fill_keeps (Unit {0}) (file Left from.0) (file Left files) (begun from.0 from.1) from.2.changed; kept = from.2.kept });
    other_file = fills.other_file;
    honesty = fills.honesty;
  }

  pub moments_fill : {E : Type 0} (result : Result Log E) → FillsByGate Left 1 None result old mid → KeepsAtMoments old mid
  moments_fill result fills =
      weakens (λ calls. Alone Left (IsUnfinishedOrFilled (3 < calls) 1 None)) (λ _. Alone Left KeepsState) old mid fills.leaves
      (λ k was files left alone. record { changed = fill_keeps (3 < k) (file Left was) (file Left files) (begun was left) alone.changed; kept = alone.kept })

-- what was read stands on the disk from the first call on
pub moments_synced : (bytes : List ℕ) (old new : DiskState) → LeavesOnly (SameSynced Left bytes) old new → LeavesOnly (KeepsSynced bytes) old new
moments_synced bytes old new run =
    weakens (SameSynced Left bytes) (KeepsSynced bytes) old new run (λ k was files left same. (still_alone files was same.0, λ some. keeps_same bytes files.left (same.1 some)))

pub moments_synced_on : (bytes : List ℕ) (old mid new : DiskState) → ((files : TwoFiles) → mid.may_leave files → old.may_leave files) → ((files : TwoFiles) → mid.may_leave files → file Left files ≡ bytes)
    → LeavesOnly (SameSynced Left bytes) old mid → KeepsAtMoments mid new → LeavesOnly (KeepsSynced bytes) old new
moments_synced_on bytes old mid new no_more on_disk one two =
    joins (SameSynced Left bytes) (λ _. Alone Left KeepsState) (KeepsSynced bytes) old mid new one two
    (λ k was files left same. (still_alone files was same.0, λ some. keeps_same bytes files.left (same.1 some)))
    (λ j k was files at some left keeps. (was, no_more was left, (keeps, λ more state has. keeps.changed state (keeps_same bytes was.left (on_disk was left) state has))))
