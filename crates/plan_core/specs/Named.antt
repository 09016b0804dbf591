-- Datasets under their names.
use Rattle.std.specs.Prelude.{◌≡◌, ℕ, List}
use Rattle.std.specs.List.{AllByRecursion}
use Rattle.plan_core.specs.declared.plan.Dataset.{Dataset}

-- each dataset stands under a key that spells its name
abbrev pub AreNamed : {K : Type 0} → (K → List ℕ) → List (K × Dataset) → Type 0
AreNamed text entries = AllByRecursion (λ entry. text entry.0 ≡ entry.1.name) entries
