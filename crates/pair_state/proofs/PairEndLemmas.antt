-- Two files end at one place.
use Rattle.std.proofs.Common.{◌≡◌, inl, inr, ℕ, ◌^◌, ◌<◌, List, length, sym, ◌∙◌}
use Rattle.disk_model.specs.declared.disk.Side.{Side}
use Rattle.disk_model.specs.Disk.{TwoFiles}
use Rattle.commit_gate.specs.Log.{log_bytes}
use Rattle.log_pair.specs.Pair.{IsUnbegun}
use Rattle.log_pair.proofs.UniqueLemmas.{newest_of, newest_lives}
use Rattle.pair_state.specs.PairEnd.{IsPairEnd, PairEndsAt}
use Rattle.pair_state.proofs.PairStateLemmas.{one_held}

end_lives : (files : TwoFiles) (side : Side) (end : ℕ) → IsPairEnd side end files → IsUnbegun files → ⊥
end_lives files side end ends begun = newest_lives files side ends.epoch (newest_of files side ends.epoch ends.bodies ends.holds) begun.dead

pub one_pair_end : (files : TwoFiles) (a b : Side) (end place : ℕ) → length files.left < 2 ^ 64 → length files.right < 2 ^ 64 → PairEndsAt a end files → PairEndsAt b place files → (a ≡ b) × (end ≡ place)
one_pair_end files a b end place left right (inl one) (inl two) =
    let same = one_held files left right a b one.epoch two.epoch one.bodies two.bodies one.holds two.holds in
    (same.side, one.place ∙ (λ i. length (log_bytes (same.epochs i) (same.contents i))) ∙ sym two.place)
one_pair_end files a b end place left right (inl one) (inr two) = absurd (end_lives files a end one two.0)
one_pair_end files a b end place left right (inr one) (inl two) = absurd (end_lives files b place two one.0)
one_pair_end files a b end place left right (inr one) (inr two) = (one.1 ∙ sym two.1, one.2 ∙ sym two.2)
