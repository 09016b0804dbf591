-- The rows of a landing folder between two lists of places.
use Rattle.std.specs.Prelude.{ℕ, List, [], Bool, slice_range}
use Rattle.std.specs.List.{flat_map}
use Rattle.value_core.specs.declared.cursor.Format.{Format}
use Rattle.value_core.specs.declared.cursor.FilePlace.{FilePlace}
use Rattle.landing_core.specs.declared.landing.LandingFile.{LandingFile}
use Rattle.landing_core.specs.Folders.{bytes_of}
use Rattle.landing_core.specs.Lines.{head_of, lines_from}
use Rattle.landing_core.specs.Places.{place_of}
use Rattle.landing_history.specs.Taken.{LandedLine, landed_line}

-- the rows of a file with these bytes between two places: those of the lines that are cut from the first one on and end at or
-- before the second
abbrev pub between_of : Format → Bool → List ℕ → ℕ → ℕ → List LandedLine
between_of format header bytes from to = flat_map (landed_line format (head_of format header bytes)) (lines_from from [] (slice_range bytes from to))

-- the rows of a file from where it was read before up to its place
abbrev pub rows_behind : Format → Bool → List ℕ → List LandingFile → List FilePlace → FilePlace → List LandedLine
rows_behind format header dir ever old known = between_of format header (bytes_of dir known.file ever) (place_of old known.file) known.place

-- the rows of a folder between old and new places: files in the order of the new ones, which is that of their names, and
-- lines in order
abbrev pub rows_between : Format → Bool → List ℕ → List LandingFile → List FilePlace → List FilePlace → List LandedLine
rows_between format header dir ever old new = flat_map (rows_behind format header dir ever old) new
