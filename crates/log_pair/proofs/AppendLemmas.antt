-- What a crash leaves of both files while one of them is appended to.
use Rattle.std.proofs.Common.{◌≡◌, ◌⊎◌, inl, inr, ℕ, ◌+◌, ◌<◌, ◌^◌, List, [], ◌∷◌, ◌++◌, Result, OnOk, refl, sym, ◌∙◌, ap, subst}
use Rattle.std.proofs.lemmas.Result.{on_ok_weaker}
use Rattle.disk_model.specs.declared.disk.Side.{Side}
use Rattle.disk_model.specs.Disk.{TwoFiles, DiskState, Alone, IsOnDisk, file, other}
use Rattle.disk_model.proofs.RunLemmas.{weakens}
use Rattle.commit_gate.specs.Log.{HasBodies, HasBodiesOrOneMore}
use Rattle.commit_gate.specs.AtRest.{log_side, log_epoch, IsAtRest, LeavesFile, Appends, AppendsByGate}
use Rattle.commit_gate.proofs.RestLemmas.{append_leaves}
use Rattle.log_pair.specs.Pair.{IsOlder, HoldsIn, HoldsOrOneMore}
use Rattle.log_pair.specs.AtRest.{pair_side, pair_epoch, IsPairAtRest, PairAppends, PairAppendsByGate}
use Rattle.log_pair.specs.declared.pair.Pair.{Pair}
use Rattle.log_pair.proofs.SwitchLemmas.{image_of_pair}

holds_more : (may_be_there : Type 0) (side : Side) (epoch : ℕ) (bodies : List (List ℕ)) (body : List ℕ) (was files : TwoFiles) → HoldsIn side epoch bodies was → Alone side (λ _ bytes. HasBodiesOrOneMore may_be_there epoch bodies body bytes) was files
    → HoldsOrOneMore may_be_there side epoch bodies body files
holds_more may_be_there side epoch bodies body was files holds alone =
    let older = subst (IsOlder epoch) (sym alone.kept) holds.older in
    elim alone.changed [
      | inl same ↦ inl (record { fits = holds.fits; contents = same; older = older })
      | inr more ↦ inr (more.0, record { fits = holds.fits; contents = more.1; older = older })
    ]

module _ (pair later : Pair) (bodies : List (List ℕ)) (body : List ℕ) (old new : DiskState) (rest : IsPairAtRest pair bodies old) {T E : Type 0} (result : Result T E) where
  module _ (appends : Appends pair.log later.log bodies body result old new) (side_is : log_side later.log ≡ log_side pair.log) (epoch_is : log_epoch later.log ≡ log_epoch pair.log) where
    other_keeps : LeavesFile (other (pair_side pair)) old new
    other_keeps = append_leaves pair.log later.log bodies body result old new appends

    durable : IsOnDisk (other (pair_side pair)) new
    durable files left = let from = other_keeps.crash files left in from.2 ∙ rest.durable from.0 from.1 ∙ sym other_keeps.now

    pub pair_appends : PairAppends pair later bodies body result old new
    pair_appends = record {
      acknowledged = on_ok_weaker result
          (λ at_rest. record {
            fits = subst (λ e. e < 2 ^ 64) (sym epoch_is) rest.fits;
            at_rest = at_rest;
            older = subst (λ e. IsOlder e (file (other (log_side later.log)) new.now)) (sym epoch_is)
                (subst (λ s. IsOlder (pair_epoch pair) (file (other s) new.now)) (sym side_is) (subst (IsOlder (pair_epoch pair)) (sym other_keeps.now) rest.older));
            durable = subst (λ s. IsOnDisk (other s) new) (sym side_is) durable;
          })
          appends.acknowledged;
      written = appends.written;
      crash = λ files left.
          let from = appends.crash files left in
          holds_more (Unit {0}) (pair_side pair) (pair_epoch pair) bodies body from.0 files (image_of_pair pair bodies old from.0 rest from.1) from.2;
      other_file = other_keeps;
      honesty = appends.honesty;
    }

  pub pair_appends_by_gate : AppendsByGate pair.log bodies body result old new → PairAppendsByGate pair bodies body result old new
  pair_appends_by_gate by_gate = record {
    leaves = weakens (λ calls. Alone (pair_side pair) (λ _ bytes. HasBodiesOrOneMore (2 < calls) (pair_epoch pair) bodies body bytes)) (λ calls was files. HoldsOrOneMore (2 < calls) (pair_side pair) (pair_epoch pair) bodies body files) old new by_gate.leaves
        (λ k was files left alone. holds_more (2 < k) (pair_side pair) (pair_epoch pair) bodies body was files (image_of_pair pair bodies old was rest left) alone);
    calls = by_gate.calls;
  }
