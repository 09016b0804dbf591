-- What is read of two files.
use Rattle.std.proofs.Common.{◌≡◌, inl, inr, ℕ, ◌+◌, ◌<◌, ◌≤◌, ◌^◌, List, refl, sym, ◌∙◌, ap, subst, arith}
use Rattle.disk_model.specs.declared.disk.Side.{Side}
use Rattle.disk_model.specs.declared.disk.Side.TheVariants.{Left, Right}
use Rattle.disk_model.specs.Disk.{TwoFiles, DiskState, IsOnDisk, file, other}
use Rattle.disk_model.specs.Moments.{LeavesOnly}
use Rattle.disk_model.proofs.RunLemmas.{joins}
use Rattle.commit_gate.specs.Log.{HasBodies}
use Rattle.commit_gate.specs.Head.{SameSynced}
use Rattle.commit_gate.specs.AtRest.{log_side, log_epoch, IsAtRest}
use Rattle.commit_gate.specs.declared.log.Log.{Log}
use Rattle.commit_gate.proofs.UniqueLemmas.{bodies_live, one_epoch}
use Rattle.log_pair.specs.Pair.{IsOlder, IsNewest, HoldsIn}
use Rattle.log_pair.specs.AtRest.{IsPairAtRest}
use Rattle.log_pair.specs.Load.{SameBothSynced}
use Rattle.log_pair.specs.declared.pair.Pair.{Pair}

module _ (side : Side) (epoch : ℕ) (log : Log) (bodies : List (List ℕ)) (files : TwoFiles) (newest : IsNewest side epoch files) (found : HasBodies (log_epoch log) bodies (file side files)) (in_side : log_side log ≡ side) (fits : log_epoch log < 2 ^ 64) where
  same_epoch : log_epoch log ≡ epoch
  same_epoch = one_epoch (log_epoch log) epoch (file side files) fits newest.fits (bodies_live (log_epoch log) bodies (file side files) found) newest.live

  older : IsOlder (log_epoch log) (file (other (log_side log)) files)
  older = subst (λ e. IsOlder e (file (other (log_side log)) files)) (sym same_epoch) (subst (λ s. IsOlder epoch (file (other s) files)) (sym in_side) newest.older)

  pub read_holds : HoldsIn (log_side log) (log_epoch log) bodies files
  read_holds = record { fits = fits; contents = subst (λ s. HasBodies (log_epoch log) bodies (file s files)) (sym in_side) found; older = older }

  pub read_rests : (pair : Pair) → pair.log ≡ log → (old new : DiskState) → old.now ≡ files → new.now ≡ old.now → ((left : TwoFiles) → new.may_leave left → old.may_leave left) → IsOnDisk Left old → IsOnDisk Right old → IsAtRest log bodies new
      → IsPairAtRest (record { log = log }) bodies new
  read_rests pair is old new was same no_more left_on right_on at_rest = record {
    fits = fits;
    at_rest = at_rest;
    older = subst (λ f. IsOlder (log_epoch log) (file (other (log_side log)) f)) (sym (same ∙ was)) older;
    durable = λ left may. on (other (log_side log)) left (no_more left may) ∙ ap (file (other (log_side log))) (sym same);
  }
    where
      on : (s : Side) → IsOnDisk s old
      on Left = left_on
      on Right = right_on

two_same : (files now : TwoFiles) → files.left ≡ now.left → files.right ≡ now.right → files ≡ now
two_same files now left right = λ i. record { left = left i; right = right i }

-- a look at the left file and then at the right one
pub both_synced : (old mid new : DiskState) → mid.moment ≤ old.moment + 3 → mid.now ≡ old.now → ((files : TwoFiles) → mid.may_leave files → old.may_leave files) → IsOnDisk Left mid
    → LeavesOnly (SameSynced Left (file Left old.now)) old mid → LeavesOnly (SameSynced Right (file Right mid.now)) mid new → LeavesOnly (SameBothSynced old.now) old new
both_synced old mid new soon same no_more left_on one two =
    joins (λ calls was files. (files ≡ was) × (calls ≤ 3)) (SameSynced Right (file Right mid.now)) (SameBothSynced old.now) old mid new
    (record {
      later = one.later;
      past = one.past;
      each = λ k files le left. let from = one.each k files le left in (from.0, from.1, (from.2.0, omega (arith, le, soon)));
    })
    two
    (λ k was files left is. (is.0, λ more. absurd (omega (arith, is.1, more))))
    (λ j k was files at some left is. (
      was,
      no_more was left,
      (
        is.0,
        λ more. two_same files old.now
            (ap (file Left) is.0 ∙ left_on was left ∙ ap (file Left) same)
            (is.1 some ∙ ap (file Right) same),
      ),
    ))
