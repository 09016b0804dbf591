-- What a crash leaves of both files while the other one is written anew.
use Rattle.std.proofs.lemmas.Result.{on_ok_weaker}
use Rattle.std.proofs.Common.{◌≡◌, ◌≢◌, ◌⊎◌, inl, inr, ℕ, ◌+◌, ◌-◌, ◌<◌, ◌≤◌, ◌^◌, List, [], ◌∷◌, length, Some, Result, Ok, OnOk, IsErr, refl, sym, ◌∙◌, ap, subst, arith}
use Rattle.disk_model.specs.declared.disk.Side.{Side}
use Rattle.disk_model.specs.declared.disk.Side.TheVariants.{Left, Right}
use Rattle.disk_model.specs.Disk.{TwoFiles, DiskState, Alone, IsHonest, IsOnDisk, file, other}
use Rattle.disk_model.specs.Moments.{LeavesOnly}
use Rattle.disk_model.proofs.RunLemmas.{weakens, joins, started}
use Rattle.commit_gate.specs.Log.{HasBodies, IsLive, IsDead}
use Rattle.commit_gate.specs.AtRest.{log_side, log_epoch, IsAtRest, LeavesFile}
use Rattle.commit_gate.specs.Fill.{IsUnfinishedOrFilled, Fills, FillsByGate, filled_end, new_log}
use Rattle.commit_gate.specs.Shut.{IsSameOrUnfinished, Shuts, shut_calls}
use Rattle.commit_gate.specs.declared.log.Log.{Log}
use Rattle.commit_gate.proofs.LoadLemmas.{log_length}
use Rattle.commit_gate.proofs.ResultLemmas.{OnOk_error}
use Rattle.commit_gate.proofs.RestLemmas.{image_of_rest, rests_on, leaves_on, shut_leaves, fill_leaves}
use Rattle.commit_gate.proofs.UniqueLemmas.{bodies_live, one_epoch}
use Rattle.log_pair.specs.Pair.{IsOlder, HoldsIn, HoldsOrBase}
use Rattle.log_pair.specs.AtRest.{pair_side, pair_epoch, IsPairAtRest}
use Rattle.log_pair.specs.Switch.{IsSwitched, Switches, SwitchesByGate, switched_end, calls_before_gate}
use Rattle.log_pair.specs.declared.pair.Pair.{Pair}

pub other_again : (side : Side) → other (other side) ≡ side
other_again Left = refl
other_again Right = refl

-- a file without a live log is older than any
dead_older : (epoch : ℕ) (bytes : List ℕ) → IsDead bytes → IsOlder epoch bytes
dead_older epoch bytes dead = λ number fits live. absurd (dead number live)

-- a log is older than the next
live_older : (epoch : ℕ) (bodies : List (List ℕ)) (bytes : List ℕ) → epoch < 2 ^ 64 → HasBodies epoch bodies bytes → IsOlder (epoch + 1) bytes
live_older epoch bodies bytes fits has = λ number small live.
    let same : number ≡ epoch = one_epoch number epoch bytes small fits live (bodies_live epoch bodies bytes has) in
    omega (arith, same)

-- what happens to the other file alone leaves this one
this_kept : (side : Side) (change : List ℕ → List ℕ → Type 0) (was files : TwoFiles) → Alone (other side) change was files → file side files ≡ file side was
this_kept side change was files alone = subst (λ s. file s files ≡ file s was) (other_again side) alone.kept

-- whatever a crash leaves of a pair at rest holds its bodies
pub image_of_pair : (pair : Pair) (bodies : List (List ℕ)) (disk : DiskState) (files : TwoFiles) → IsPairAtRest pair bodies disk → disk.may_leave files → HoldsIn (pair_side pair) (pair_epoch pair) bodies files
image_of_pair pair bodies disk files rest left = record {
  fits = rest.fits;
  contents = image_of_rest pair.log bodies disk files rest.at_rest left;
  older = subst (IsOlder (pair_epoch pair)) (sym (rest.durable files left)) rest.older;
}

module _ (side : Side) (epoch : ℕ) (bodies : List (List ℕ)) (base : List ℕ) where
  -- while the other file is made dead, the bodies stay
  shut_holds : (was files : TwoFiles) → HoldsIn side epoch bodies was → Alone (other side) IsSameOrUnfinished was files → HoldsIn side epoch bodies files
  shut_holds was files holds alone = record {
    fits = holds.fits;
    contents = subst (HasBodies epoch bodies) (sym (this_kept side IsSameOrUnfinished was files alone)) holds.contents;
    older = elim alone.changed [
      | inl same ↦ subst (IsOlder epoch) (sym same) holds.older
      | inr unfinished ↦ dead_older epoch (file (other side) files) unfinished.dead
    ];
  }

  -- while it is filled, they stay, or the base stands alone
  fill_holds : (may_be_there : Type 0) (was files : TwoFiles) → epoch + 1 < 2 ^ 64 → HoldsIn side epoch bodies was → Alone (other side) (IsUnfinishedOrFilled may_be_there (epoch + 1) (Some base)) was files
      → HoldsOrBase may_be_there side epoch bodies base files
  fill_holds may_be_there was files next holds alone =
      let kept = this_kept side (IsUnfinishedOrFilled may_be_there (epoch + 1) (Some base)) was files alone in
      let contents = subst (HasBodies epoch bodies) (sym kept) holds.contents in
      elim alone.changed [
        | inl unfinished ↦ inl (record { fits = holds.fits; contents = contents; older = dead_older epoch (file (other side) files) unfinished.dead })
        | inr filled ↦ inr (
          filled.0,
          record {
            fits = next;
            contents = filled.1;
            older = subst (λ s. IsOlder (epoch + 1) (file s files)) (sym (other_again side)) (live_older epoch bodies (file side files) holds.fits contents);
          },
        )
      ]

-- the new log has room for the byte that a shut leaves
pub some_room : (pair : Pair) (base : List ℕ) (room : ℕ) → switched_end pair base ≤ room → 18 ≤ room
some_room pair base room fits = omega (arith, fits, log_length (pair_epoch pair + 1) (base ∷ []))

module _ (pair : Pair) (bodies : List (List ℕ)) (base : List ℕ) (old : DiskState) (rest : IsPairAtRest pair bodies old) where
  abbrev side : Side
  side = pair_side pair

  abbrev epoch : ℕ
  epoch = pair_epoch pair

  -- the other file was not made dead
  module _ {T E : Type 0} (answer : Result T E) (mid : DiskState) (shuts : Shuts (other side) answer old mid) where
    after_shut : (files : TwoFiles) → mid.may_leave files → (was : TwoFiles) × old.may_leave was × HoldsIn side epoch bodies files
    after_shut files left =
        let from = shuts.crash files left in
        (from.0, from.1, shut_holds side epoch bodies base from.0 files (image_of_pair pair bodies old from.0 rest from.1) from.2)

    shut_keeps : LeavesFile side old mid
    shut_keeps = subst (λ s. LeavesFile s old mid) (other_again side) (shut_leaves (other side) answer old mid shuts)

    pub broke_early : {U F : Type 0} (later : Pair) (result : Result U F) → IsErr result → Switches pair later bodies base result old mid
    broke_early later result error = record {
      acknowledged = OnOk_error _ result error;
      written = OnOk_error _ result error;
      crash = λ files left. inl (after_shut files left).2;
      old_file = shut_keeps;
      honesty = shuts.honesty;
    }

    pub broke_early_by_gate : {U F : Type 0} (result : Result U F) → LeavesOnly (λ _. Alone (other side) IsSameOrUnfinished) old mid → IsErr result → SwitchesByGate pair bodies base result old mid
    broke_early_by_gate result run error = record {
      leaves = weakens (λ _. Alone (other side) IsSameOrUnfinished) (λ calls was files. HoldsOrBase (calls_before_gate pair old.now < calls) side epoch bodies base files) old mid run
          (λ k was files left alone. inl (shut_holds side epoch bodies base was files (image_of_pair pair bodies old was rest left) alone));
      calls = OnOk_error _ result error;
    }

    module _ {F : Type 0} (filled : Result Log F) (new : DiskState) (fills : Fills (other side) (epoch + 1) (Some base) filled mid new) (next : epoch + 1 < 2 ^ 64) where
      after_fill : (files : TwoFiles) → new.may_leave files → HoldsOrBase (Unit {0}) side epoch bodies base files
      after_fill files left =
          let from = fills.crash files left in
          fill_holds side epoch bodies base (Unit {0}) from.0 files next (after_shut from.0 from.1).2 from.2

      fill_keeps : LeavesFile side old new
      fill_keeps = leaves_on side old mid new shut_keeps (subst (λ s. LeavesFile s mid new) (other_again side) (fill_leaves (other side) (epoch + 1) (Some base) filled mid new fills))

      pub switches : {U G : Type 0} (later : Pair) (result : Result U G) → OnOk result (IsSwitched pair later base new) → OnOk result (file (other side) new.now ≡ new_log (epoch + 1) (Some base)) → Switches pair later bodies base result old new
      switches later result done written = record {
        acknowledged = done;
        written = written;
        crash = after_fill;
        old_file = fill_keeps;
        honesty = (λ was. fills.honesty.0 (shuts.honesty.0 was), λ is. shuts.honesty.1 (fills.honesty.1 is));
      }

      -- the pair whose log was filled
      pub switched : (later : Pair) → log_side later.log ≡ other side → log_epoch later.log ≡ epoch + 1 → IsAtRest later.log (base ∷ []) new → IsSwitched pair later base new
      switched later turned up at_rest = record {
        turned = turned;
        next = up;
        at_rest = record {
          fits = subst (λ e. e < 2 ^ 64) (sym up) next;
          at_rest = at_rest;
          older = subst (λ e. IsOlder e (file (other (log_side later.log)) new.now)) (sym up)
              (subst (λ s. IsOlder (epoch + 1) (file s new.now)) back
              (live_older epoch bodies (file side new.now) rest.fits (subst (HasBodies epoch bodies) (sym fill_keeps.now) rest.at_rest.contents)));
          durable = subst (λ s. IsOnDisk s new) back (rests_on pair.log bodies old new rest.at_rest fill_keeps).durable;
        };
      }
        where
          back : side ≡ other (log_side later.log)
          back = sym (other_again side) ∙ ap other (sym turned)

      pub by_gate : {U G : Type 0} (result : Result U G) → mid.moment ≡ old.moment + shut_calls (file (other side) old.now) → LeavesOnly (λ _. Alone (other side) IsSameOrUnfinished) old mid
          → FillsByGate (other side) (epoch + 1) (Some base) filled mid new → OnOk result (new.moment ≡ mid.moment + 5) → SwitchesByGate pair bodies base result old new
      by_gate result shut run fill calls = record {
        leaves = joins (λ _. Alone (other side) IsSameOrUnfinished) (λ calls. Alone (other side) (IsUnfinishedOrFilled (3 < calls) (epoch + 1) (Some base)))
            (λ calls was files. HoldsOrBase (calls_before_gate pair old.now < calls) side epoch bodies base files) old mid new run fill.leaves
            (λ k was files left alone. inl (shut_holds side epoch bodies base was files (image_of_pair pair bodies old was rest left) alone))
            (λ j k was files at some left alone.
            let first = after_shut was left in
            (first.0, first.1, late j k at files (fill_holds side epoch bodies base (3 < k) was files next first.2 alone)));
        calls = on_ok_weaker result (λ is. omega (arith, is, shut)) calls;
      }
        where
          late : (j k : ℕ) → mid.moment ≡ old.moment + j → (files : TwoFiles) → HoldsOrBase (3 < k) side epoch bodies base files → HoldsOrBase (calls_before_gate pair old.now < j + k) side epoch bodies base files
          late j k at files (inl holds) = inl holds
          late j k at files (inr base_there) = inr (omega (arith, at, shut, base_there.0), base_there.1)

  -- no call
  pub no_call : {T E : Type 0} (later : Pair) (result : Result T E) → IsErr result → Switches pair later bodies base result old old
  no_call later result error = record {
    acknowledged = OnOk_error _ result error;
    written = OnOk_error _ result error;
    crash = λ files left. inl (image_of_pair pair bodies old files rest left);
    old_file = record { now = refl; crash = λ files left. (files, left, refl) };
    honesty = (λ honest. honest, λ honest. honest);
  }

  pub no_call_by_gate : {T E : Type 0} (result : Result T E) → IsErr result → SwitchesByGate pair bodies base result old old
  no_call_by_gate result error = record {
    leaves = started (λ calls was files. HoldsOrBase (calls_before_gate pair old.now < calls) side epoch bodies base files) old (λ files left. (files, left, inl (image_of_pair pair bodies old files rest left)));
    calls = OnOk_error _ result error;
  }
