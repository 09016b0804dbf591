-- What was taken of a landing folder, said from scratch.
use Rattle.std.specs.Prelude.{◌≡◌, ℕ, ◌+◌, ◌-◌, ◌<◌, ◌||◌, List, [], ◌∷◌, length, map, take, slice_index, slice_index_or, Bool, if◌then◌else◌, Option, None}
use Rattle.std.specs.List.{flat_map}
use Rattle.value_core.specs.declared.cursor.Format.{Format}
use Rattle.value_core.specs.declared.cursor.FilePlace.{FilePlace}
use Rattle.landing_core.specs.declared.landing.LandingFile.{LandingFile}
use Rattle.landing_core.specs.declared.landing.Listed.{Listed}
use Rattle.landing_core.specs.declared.lines.FreshLine.{FreshLine}
use Rattle.landing_core.specs.Folders.{AreThere, HoldsPresent, bytes_of, listed_names}
use Rattle.landing_core.specs.Fresh.{shrunk}
use Rattle.landing_core.specs.Lines.{CompleteLine, head_of, head_place, head_text, is_blank, is_head, lines_from, text_of}
use Rattle.landing_core.specs.Names.{AreAscending}

-- a row as it lands, before it has values: the head of its file, empty where there is none, and its text
pub record LandedLine : Type 0 where
  pub head : List ℕ
  pub text : List ℕ

-- a line of a file with this head, as a row; a blank line and the head are no rows
abbrev pub landed_line : Format → Option CompleteLine → CompleteLine → List LandedLine
landed_line format head line = if is_blank format (text_of line) || is_head (head_place head) line then [] else record { head = head_text head; text = text_of line } ∷ []

-- the place where a line ends, behind its LF
abbrev pub line_end : CompleteLine → ℕ
line_end line = line.start + length line.bytes + 1

-- the rows of a file with these bytes, from its beginning: those of its complete lines that end at or before this place
abbrev pub taken_of : Format → Bool → List ℕ → ℕ → List LandedLine
taken_of format header bytes place = flat_map (landed_line format (head_of format header bytes)) (lines_from 0 [] (take place bytes))

-- the rows of a folder up to these places, from the beginning of each file: files in the order of the places, which is that of their names, and lines in order
abbrev pub taken : Format → Bool → List ℕ → List LandingFile → List FilePlace → List LandedLine
taken format header dir ever places = flat_map (λ known. taken_of format header (bytes_of dir known.file ever) known.place) places

-- a complete line of these bytes ends at this place: the byte before it is an LF
abbrev pub IsLineEnd : List ℕ → ℕ → Type 0
IsLineEnd bytes place = (0 < place) × (slice_index bytes (place - 1) ≡ 10)

-- each place is the end of a complete line of its file
abbrev pub AreEnds : List ℕ → List LandingFile → List FilePlace → Type 0
AreEnds dir ever [] = Unit {0}
AreEnds dir ever (known ∷ more) = IsLineEnd (bytes_of dir known.file ever) known.place × AreEnds dir ever more

-- a listing by which files can be read on from these places: its names ascend, each listed file is there with its listed size or more, what is there is all that was ever there under its name, and no listed size is below its file's place
pub record CanReadOn (dir : List ℕ) (present ever : List LandingFile) (places : List FilePlace) (listing : List Listed) : Type 0 where
  pub named : AreAscending (listed_names listing)
  pub there : AreThere dir present listing
  pub held : HoldsPresent present ever
  pub unshrunk : shrunk places listing ≡ None

-- lines that were read of listed files, each beside the head of its file
abbrev pub with_heads : List (List ℕ) → List FreshLine → List LandedLine
with_heads heads lines = map (λ line. record { head = slice_index_or heads line.file []; text = line.line }) lines

-- files have only grown: the bytes that a file had are the first ones that it has now
abbrev pub HaveGrown : List LandingFile → List LandingFile → Type 0
HaveGrown was now = (dir name : List ℕ) → take (length (bytes_of dir name was)) (bytes_of dir name now) ≡ bytes_of dir name was
