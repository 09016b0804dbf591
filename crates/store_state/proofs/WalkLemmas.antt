-- What the last step of a walk along lists shows.
use Rattle.std.proofs.Common.{◌≡◌, ℕ, zero, suc, ◌<◌, Bool, false, List, [], ◌∷◌, length, drop, refl, arith, length-drop}
use Rattle.std.specs.Prelude.{find, is_none}
use Rattle.value_core.specs.declared.change.Tally.{Tally}
use Rattle.commit_records.specs.declared.definition.Definition.{Definition}
use Rattle.store_state.specs.Dataset.{is_defined}
use Rattle.store_state.specs.Follows.{are_distinct, counts_fit}
use Rattle.store_state.specs.Places.{IsFirst}

counts-none : (counts more : List Tally) → 0 < length counts → length more ≡ 0 → counts_fit counts more ≡ false
counts-none [] more h e = absurd (omega arith)
counts-none (kept ∷ counts) [] h e = refl
counts-none (kept ∷ counts) (tally ∷ more) h e = absurd (omega arith)

pub counts-left : (counts more : List Tally) (i : ℕ) → i < length counts → length more ≡ 0 → counts_fit (drop i counts) more ≡ false
counts-left counts more i h e = counts-none (drop i counts) more (omega (arith, length-drop i counts)) e

pub first-is-found : {X : Type 0} (test : X → Bool) (xs : List X) (i : ℕ) → IsFirst test xs i → is_none (find test xs) ≡ false
first-is-found test [] i first = absurd first
first-is-found test (x ∷ xs) zero first = rw first refl
first-is-found test (x ∷ xs) (suc i) first = rw first.0 (first-is-found test xs i first.1)

pub not-distinct : (definition : Definition) (list : List Definition) (i : ℕ) → IsFirst (is_defined definition.name) list i → are_distinct (definition ∷ list) ≡ false
not-distinct definition list i first = rw (first-is-found (is_defined definition.name) list i first) refl
