-- The limit of versions: it is kept, or a dataset is named that stands at it.
use Rattle.std.proofs.Common.{◌≡◌, ◌⊎◌, inl, inr, ℕ, ◌<◌, ◌≤◌, ◌^◌, Bool, true, false, List, [], ◌∷◌, Option, Some, None, refl, arith}
use Rattle.std.proofs.lemmas.Bool.{ltb-false, ltb-true}
use Rattle.std.specs.Prelude.{IfSome, IsSomeAnd, nat_lt}
use Rattle.commit_payloads.specs.declared.payload.Payload.{Payload}
use Rattle.commit_payloads.specs.declared.payload.Payload.TheVariants as payload
use Rattle.state_model.specs.Dataset.{Dataset, State, dataset_of, version_of}
use Rattle.state_model.specs.Follows.{AllHaveVersions, IsAtLimit, IsFullOf, WithinVersions}

below_or_not : (n limit : ℕ) → (n < limit) ⊎ (limit ≤ n)
below_or_not n limit = by (nat_lt n limit) refl
  where
    by : (b : Bool) → nat_lt n limit ≡ b → (n < limit) ⊎ (limit ≤ n)
    by true e = inl (ltb-true n limit e)
    by false e = inr (ltb-false n limit e)

-- a dataset has a version left, or stands at the limit
one_by : (o : Option Dataset) → IfSome o (λ d. version_of d < 2 ^ 62) ⊎ ((name : List ℕ) × IsSomeAnd o (λ d. (name ≡ d.definition.name) × (2 ^ 62 ≤ version_of d)))
one_by None = inl tt
one_by (Some d) = elim (below_or_not (version_of d) (2 ^ 62)) [ inl h ↦ inl h | inr h ↦ inr (d.definition.name, (refl, h)) ]

never_by : (o : Option Dataset) (name : List ℕ) → IfSome o (λ d. version_of d < 2 ^ 62) → IsSomeAnd o (λ d. (name ≡ d.definition.name) × (2 ^ 62 ≤ version_of d)) → ⊥
never_by None name h k = k
never_by (Some d) name h k = omega (arith, h, k.1)

all_by : (state : State) (names : List (List ℕ)) → AllHaveVersions state names ⊎ ((name : List ℕ) × IsFullOf state names name)
all_by state [] = inl tt
all_by state (name ∷ names) =
    elim (one_by (dataset_of state name)) [
      | inl h ↦ elim (all_by state names) [ inl k ↦ inl (h, k) | inr k ↦ inr (k.0, inr (h, k.1)) ]
      | inr h ↦ inr (h.0, inl h.1)
    ]

all_never : (state : State) (names : List (List ℕ)) (name : List ℕ) → AllHaveVersions state names → IsFullOf state names name → ⊥
all_never state [] full h k = k
all_never state (name ∷ names) full h k = elim k [ inl full_here ↦ never_by (dataset_of state name) full h.0 full_here | inr behind ↦ all_never state names full h.1 behind.1 ]

pub within_or_full : (state : State) (body : Payload) → WithinVersions state body ⊎ ((name : List ℕ) × IsAtLimit state body name)
within_or_full state (payload.Define is_fresh list) = inl tt
within_or_full state (payload.Take batch) = one_by (dataset_of state batch.table)
within_or_full state (payload.Refresh renewal) = one_by (dataset_of state renewal.view)
within_or_full state (payload.Reset names) = all_by state names
within_or_full state (payload.Base base) = inl tt

pub never_both : (state : State) (body : Payload) (name : List ℕ) → WithinVersions state body → IsAtLimit state body name → ⊥
never_both state (payload.Define is_fresh list) name h k = k
never_both state (payload.Take batch) name h k = never_by (dataset_of state batch.table) name h k
never_both state (payload.Refresh renewal) name h k = never_by (dataset_of state renewal.view) name h k
never_both state (payload.Reset names) name h k = all_never state names name h k
never_both state (payload.Base base) name h k = k
