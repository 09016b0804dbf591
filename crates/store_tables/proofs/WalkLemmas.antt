-- What the last step of a walk along lists shows.
use Rattle.std.proofs.Common.{◌≡◌, ℕ, ◌<◌, false, List, [], ◌∷◌, length, drop, refl, arith, length-drop}
use Rattle.value_core.specs.declared.change.Tally.{Tally}
use Rattle.state_model.specs.Follows.{counts_fit}

counts-none : (counts more : List Tally) → 0 < length counts → length more ≡ 0 → counts_fit counts more ≡ false
counts-none [] more h e = absurd (omega arith)
counts-none (kept ∷ counts) [] h e = refl
counts-none (kept ∷ counts) (tally ∷ more) h e = absurd (omega arith)

pub counts-left : (counts more : List Tally) (i : ℕ) → i < length counts → length more ≡ 0 → counts_fit (drop i counts) more ≡ false
counts-left counts more i h e = counts-none (drop i counts) more (omega (arith, length-drop i counts)) e
