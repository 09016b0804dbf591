-- How the log of a pair goes on.
use Rattle.std.proofs.Common.{◌≡◌, inl, inr, ℕ, ◌<◌, List, [], ◌∷◌, ◌++◌, length, take, Result, refl, sym, ◌∙◌, ap, arith, append_assoc, length-append}
use Rattle.std.proofs.lemmas.List.{take_at}
use Rattle.disk_model.specs.declared.disk.Side.{Side}
use Rattle.disk_model.specs.Disk.{TwoFiles, DiskState, IsHonest, file}
use Rattle.disk_model.proofs.RunLemmas.{started, weakens}
use Rattle.commit_gate.specs.Log.{open_gate, framed, log_bytes, HasBodies}
use Rattle.commit_gate.proofs.GateLemmas.{log_bytes-push}
use Rattle.log_pair.specs.AtRest.{pair_side, pair_epoch, pair_end, IsPairAtRest, PairAppends, PairAppendsByGate}
use Rattle.log_pair.specs.Pair.{HoldsOrOneMore}
use Rattle.log_pair.specs.declared.pair.Pair.{Pair}
use Rattle.log_pair.proofs.SwitchLemmas.{image_of_pair}
use Rattle.pair_store.specs.GoesOn.{GoesOn, PairGoesOn}

longer_than : (at : ℕ) (start : List ℕ) (next : ℕ) (rest bytes : List ℕ) → at ≡ length start → bytes ≡ start ++ next ∷ rest → at < length bytes
longer_than at start next rest bytes is whole = omega (arith, is, ap (λ (l : List ℕ). length l) whole, length-append start (next ∷ rest))

starts_with : (at : ℕ) (start behind bytes : List ℕ) → at ≡ length start → bytes ≡ start ++ behind → take at bytes ≡ start
starts_with at start behind bytes is whole = ap (λ (l : List ℕ). take at l) whole ∙ take_at start behind at (sym is)

module _ (epoch at : ℕ) (bodies : List (List ℕ)) (is : at ≡ length (log_bytes epoch bodies)) where
  within : (bytes : List ℕ) → HasBodies epoch bodies bytes → at < length bytes
  within bytes has = longer_than at (log_bytes epoch bodies) has.gate has.rest bytes is has.whole

  front : (bytes : List ℕ) → HasBodies epoch bodies bytes → take at bytes ≡ log_bytes epoch bodies
  front bytes has = starts_with at (log_bytes epoch bodies) (has.gate ∷ has.rest) bytes is has.whole

  -- with one body more
  longer : (body bytes : List ℕ) → HasBodies epoch (bodies ++ body ∷ []) bytes → (take at bytes ≡ log_bytes epoch bodies) × (at < length bytes)
  longer body bytes has =
      let behind : List ℕ = framed body ++ has.gate ∷ has.rest in
      let whole : bytes ≡ log_bytes epoch bodies ++ open_gate ∷ behind =
      has.whole ∙ ap (λ (l : List ℕ). l ++ has.gate ∷ has.rest) (log_bytes-push epoch bodies body) ∙ append_assoc (log_bytes epoch bodies) (open_gate ∷ framed body) (has.gate ∷ has.rest) in
      (starts_with at (log_bytes epoch bodies) (open_gate ∷ behind) bytes is whole, longer_than at (log_bytes epoch bodies) open_gate behind bytes is whole)

  -- an image of an append
  image_goes_on : (may_be_there : Type 0) (side : Side) (body bytes : List ℕ) (files : TwoFiles) → HasBodies epoch bodies bytes → HoldsOrOneMore may_be_there side epoch bodies body files → GoesOn at bytes (file side files)
  image_goes_on may_be_there side body bytes files has (inl same) =
      record { front = front (file side files) same.contents ∙ sym (front bytes has); behind = within (file side files) same.contents }
  image_goes_on may_be_there side body bytes files has (inr more) =
      let both = longer body (file side files) more.1.contents in
      record { front = both.0 ∙ sym (front bytes has); behind = both.1 }

module _ (pair : Pair) (bodies : List (List ℕ)) (old : DiskState) (rest : IsPairAtRest pair bodies old) (timed : Type 0) where
  image : (may_be_there : Type 0) (body : List ℕ) (files : TwoFiles) → HoldsOrOneMore may_be_there (pair_side pair) (pair_epoch pair) bodies body files → GoesOn (pair_end pair) (file (pair_side pair) old.now) (file (pair_side pair) files)
  image may_be_there body files holds =
      image_goes_on (pair_epoch pair) (pair_end pair) bodies rest.at_rest.end may_be_there (pair_side pair) body (file (pair_side pair) old.now) files rest.at_rest.contents holds

  pub append_goes_on : {T E : Type 0} (later : Pair) (body : List ℕ) (answer : Result T E) (new : DiskState) → IsHonest old → PairAppends pair later bodies body answer old new → (timed → PairAppendsByGate pair bodies body answer old new)
      → PairGoesOn timed (pair_side pair) (pair_end pair) old new
  append_goes_on later body answer new honest appends by_gate = record {
    reads = image (Unit {0}) body new.now (appends.crash new.now (appends.honesty.0 honest));
    crash = λ files left. image (Unit {0}) body files (appends.crash files left);
    each = λ told.
        weakens (λ calls was files. HoldsOrOneMore (2 < calls) (pair_side pair) (pair_epoch pair) bodies body files)
        (λ calls was files. GoesOn (pair_end pair) (file (pair_side pair) old.now) (file (pair_side pair) files)) old new (by_gate told).leaves
        (λ k was files left holds. image (2 < k) body files holds);
  }

  -- no call
  pub still_goes_on : PairGoesOn timed (pair_side pair) (pair_end pair) old old
  still_goes_on = record {
    reads = record { front = refl; behind = within (pair_epoch pair) (pair_end pair) bodies rest.at_rest.end (file (pair_side pair) old.now) rest.at_rest.contents };
    crash = λ files left. image (Unit {0}) [] files (inl (image_of_pair pair bodies old files rest left));
    each = λ told.
        started (λ calls was files. GoesOn (pair_end pair) (file (pair_side pair) old.now) (file (pair_side pair) files)) old
        (λ files left. (files, left, image (Unit {0}) [] files (inl (image_of_pair pair bodies old files rest left))));
  }
