-- The form of the places in files that a flow has read up to.
use Rattle.std.specs.Prelude.{◌≡◌, ⊤, ℕ, ◌<◌, List, [], ◌∷◌}
use Rattle.std.specs.declared.cmp.Ordering.{Ordering}
use Rattle.std.specs.declared.cmp.Ordering.TheVariants.{Less}
use Rattle.std.specs.Ordering.{nat_cmp}
use Rattle.std.specs.Cmp.Lexicographic.{slice_cmp}
use Rattle.value_core.specs.declared.cursor.FilePlace.{FilePlace}

-- names of files by their bytes
abbrev pub file_order : List ℕ → List ℕ → Ordering
file_order = slice_cmp nat_cmp

-- a name is below the name of each place
abbrev pub IsBelowFiles : List ℕ → List FilePlace → Type 0
IsBelowFiles file [] = ⊤
IsBelowFiles file (next ∷ places) = (file_order file next.file ≡ Less) × IsBelowFiles file places

-- names strictly ascending, and each place above 0
abbrev pub IsPlaces : List FilePlace → Type 0
IsPlaces [] = ⊤
IsPlaces (first ∷ places) = (0 < first.place) × IsBelowFiles first.file places × IsPlaces places
