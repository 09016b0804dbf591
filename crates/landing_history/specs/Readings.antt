-- Readings of a landing folder one after the other.
use Rattle.std.specs.Prelude.{◌≡◌, ℕ, ◌||◌, List, [], ◌∷◌, ◌++◌, take, Bool, true, false}
use Rattle.std.specs.Str.{bytes_eq}
use Rattle.value_core.specs.declared.cursor.Format.{Format}
use Rattle.value_core.specs.declared.cursor.FilePlace.{FilePlace}
use Rattle.landing_core.specs.declared.landing.LandingFile.{LandingFile}
use Rattle.landing_core.specs.declared.landing.Listed.{Listed}
use Rattle.landing_core.specs.Folders.{bytes_of}
use Rattle.landing_core.specs.Fresh.{heads_of, new_lines, reach}
use Rattle.landing_core.specs.Lines.{complete_len}
use Rattle.landing_core.specs.Places.{place_of}
use Rattle.landing_history.specs.Taken.{CanReadOn, HaveGrown, LandedLine, with_heads}

-- one reading: the files that were there then, all files that were ever there by then, and what was listed
pub record Reading : Type 0 where
  pub present : List LandingFile
  pub ever : List LandingFile
  pub listing : List Listed

-- how far the files are read after these readings, of which the last stands first
abbrev pub places_after : List ℕ → List Reading → List FilePlace
places_after dir [] = []
places_after dir (reading ∷ before) = reach dir reading.present (places_after dir before) reading.listing

-- the rows that these readings found, each reading from the places that the one before it reached
abbrev pub rows_found : Format → Bool → List ℕ → List Reading → List LandedLine
rows_found format header dir [] = []
rows_found format header dir (reading ∷ before) = rows_found format header dir before ++ with_heads (heads_of format header dir reading.present reading.listing) (new_lines format header dir reading.present (places_after dir before) 0 reading.listing)

-- each reading could be made where the one before it had come to, and files only grew from reading to reading and up to now
abbrev pub AreReadings : List ℕ → List Reading → List LandingFile → Type 0
AreReadings dir [] now = Unit {0}
AreReadings dir (reading ∷ before) now = CanReadOn dir reading.present reading.ever (places_after dir before) reading.listing × HaveGrown reading.ever now × AreReadings dir before reading.ever

-- a file is listed under this name
abbrev pub is_listed : List ℕ → List Listed → Bool
is_listed name [] = false
is_listed name (listed ∷ more) = bytes_eq listed.file name || is_listed name more

-- each listed file's place is the end of its last complete line within its listed size, and 0 where there is none
abbrev pub AreLastEnds : List ℕ → List LandingFile → List FilePlace → List Listed → Type 0
AreLastEnds dir ever places [] = Unit {0}
AreLastEnds dir ever places (listed ∷ more) = (place_of places listed.file ≡ complete_len (take listed.size (bytes_of dir listed.file ever))) × AreLastEnds dir ever places more

-- each file that has a place is listed: none that was read has gone
abbrev pub AreListed : List FilePlace → List Listed → Type 0
AreListed [] listing = Unit {0}
AreListed (known ∷ more) listing = (is_listed known.file listing ≡ true) × AreListed more listing
