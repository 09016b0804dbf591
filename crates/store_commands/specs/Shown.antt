-- The text of a dataset at a version, and why there is none.
use Rattle.std.specs.Prelude.{◌≡◌, ◌⊎◌, ℕ, List, Option, Some, None}
use Rattle.table_versions.specs.Versions.{IsKept}
use Rattle.state_model.specs.Dataset.{Dataset, version_of}
use Rattle.message_text.specs.declared.refusal.Refusal.{Refusal}
use Rattle.message_text.specs.declared.refusal.Refusal.TheVariants.{Memory, NoVersion, UnknownTable}
use Rattle.store_commands.specs.Commands.{table_at, version_asked}

-- the text of a dataset at a version that is kept
abbrev pub IsTextAt : Dataset → ℕ → List ℕ → Type 0
IsTextAt dataset version text = IsKept dataset.table version × (text ≡ table_at dataset version)

-- the text of the dataset that was found
abbrev pub IsTextOf : Option ℕ → Option Dataset → List ℕ → Type 0
IsTextOf version None text = ⊥
IsTextOf version (Some dataset) text = IsTextAt dataset (version_asked version dataset) text

-- a version isn't kept
abbrev pub IsNoTextAt : Dataset → ℕ → Refusal → Type 0
IsNoTextAt dataset version why = (IsKept dataset.table version → ⊥) × (why ≡ NoVersion dataset.definition.name version dataset.table.base (version_of dataset))

-- there is no dataset of this name, or the version of the one that was found isn't kept
abbrev pub IsNoTextOf : List ℕ → Option ℕ → Option Dataset → Refusal → Type 0
IsNoTextOf name version None why = why ≡ UnknownTable name
IsNoTextOf name version (Some dataset) why = IsNoTextAt dataset (version_asked version dataset) why

-- this is the cause of a refusal, unless memory ran out
abbrev pub HasNoText : List ℕ → Option ℕ → Option Dataset → Refusal → Type 0
HasNoText name version found why = (why ≡ Memory) ⊎ IsNoTextOf name version found why
