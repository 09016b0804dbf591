-- When a reading is exact for a spelling.
use Rattle.std.specs.Prelude.{◌≡◌, ℕ, List, ◌++◌, ◌+◌, ◌<◌, ◌≤◌, length, drop, Option, Some, None, slice_index}

-- each is a byte
abbrev pub IsBytes : List ℕ → Type 0
IsBytes bytes = (i : ℕ) → slice_index bytes i < 256

-- a reading takes the spelling of a value in range from the front, and nothing else; and it takes each such spelling, whatever stands behind it
pub record IsExact {A : Type 0} (spelled : A → List ℕ) (InRange : A → Type 0) (reading : List ℕ → Option (A × List ℕ)) : Type 0 where
  pub taken : (bytes : List ℕ) (found : A × List ℕ) → IsBytes bytes → reading bytes ≡ Some found → InRange found.0 × (bytes ≡ spelled found.0 ++ found.1)
  pub again : (value : A) (rest : List ℕ) → InRange value → reading (spelled value ++ rest) ≡ Some (value, rest)

-- bytes are the spelling of this value, and of no other
pub record IsSpelling {A : Type 0} (spelled : A → List ℕ) (InRange : A → Type 0) (bytes : List ℕ) (value : A) : Type 0 where
  pub range : InRange value
  pub bytes_are : bytes ≡ spelled value
  pub only : (other : A) → InRange other → bytes ≡ spelled other → other ≡ value

-- what bytes spell: a value, or nothing where they are the spelling of none
abbrev pub Spells : {A : Type 0} → (A → List ℕ) → (A → Type 0) → List ℕ → Option A → Type 0
Spells spelled InRange bytes (Some value) = IsSpelling spelled InRange bytes value
Spells {A} spelled InRange bytes None = (value : A) → InRange value → bytes ≡ spelled value → ⊥

-- the spelling of this value, and of no other, stands in bytes from one place up to another
pub record StandsAt {A : Type 0} (spelled : A → List ℕ) (InRange : A → Type 0) (bytes : List ℕ) (at : ℕ) (value : A) (end : ℕ) : Type 0 where
  pub range : InRange value
  pub long : end ≡ at + length (spelled value)
  pub within : end ≤ length bytes
  pub here : drop at bytes ≡ spelled value ++ drop end bytes
  pub only : (other : A) (rest : List ℕ) → InRange other → drop at bytes ≡ spelled other ++ rest → other ≡ value

-- what begins at a place: a value and the place behind it, or nothing where no spelling begins there
abbrev pub Finds : {A : Type 0} → (A → List ℕ) → (A → Type 0) → List ℕ → ℕ → Option (A × ℕ) → Type 0
Finds spelled InRange bytes at (Some found) = StandsAt spelled InRange bytes at found.0 found.1
Finds {A} spelled InRange bytes at None = (value : A) (rest : List ℕ) → InRange value → drop at bytes ≡ spelled value ++ rest → ⊥
