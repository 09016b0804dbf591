-- How far the files of a folder were read.
use Rattle.std.specs.Prelude.{◌≤◌, ◌<◌, ℕ, List, [], ◌∷◌, if◌then◌else◌, ◌==◌}
use Rattle.std.specs.Str.{bytes_eq}
use Rattle.std.specs.Ordering.{nat_cmp, match_ordering}
use Rattle.std.specs.Cmp.Lexicographic.{slice_cmp}
use Rattle.value_core.specs.declared.cursor.FilePlace.{FilePlace}

-- the place of a file, and 0 where it was never read
abbrev pub place_of : List FilePlace → List ℕ → ℕ
place_of [] file = 0
place_of (known ∷ more) file = if bytes_eq known.file file then known.place else place_of more file

-- the places with this one of a file, in ascending order of names
abbrev pub placed : List ℕ → ℕ → List FilePlace → List FilePlace
placed file place [] = record { file = file; place = place } ∷ []
placed file place (known ∷ more) = match_ordering (slice_cmp nat_cmp file known.file) (record { file = file; place = place } ∷ known ∷ more) (record { file = file; place = place } ∷ more) (known ∷ placed file place more)

-- the same, where a place of 0 is left out
abbrev pub moved : List ℕ → ℕ → List FilePlace → List FilePlace
moved file place places = if place == 0 then places else placed file place places

-- the names of the files that have a place
abbrev pub placed_names : List FilePlace → List (List ℕ)
placed_names [] = []
placed_names (known ∷ more) = known.file ∷ placed_names more

-- a place of 0 is never kept
abbrev pub AreAboveZero : List FilePlace → Type 0
AreAboveZero [] = Unit {0}
AreAboveZero (known ∷ more) = (0 < known.place) × AreAboveZero more

-- no file's place falls
abbrev pub NoneFalls : List FilePlace → List FilePlace → Type 0
NoneFalls was now = (file : List ℕ) → place_of was file ≤ place_of now file
