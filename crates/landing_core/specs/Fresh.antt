-- What is new in the files of a folder.
use Rattle.std.specs.Prelude.{ℕ, ◌+◌, List, [], ◌∷◌, ◌++◌, take, slice_range, if◌then◌else◌, nat_lt, Bool, Option, Some, None}
use Rattle.value_core.specs.declared.cursor.Format.{Format}
use Rattle.value_core.specs.declared.cursor.FilePlace.{FilePlace}
use Rattle.landing_core.specs.declared.landing.LandingFile.{LandingFile}
use Rattle.landing_core.specs.declared.landing.Listed.{Listed}
use Rattle.landing_core.specs.declared.lines.FreshLine.{FreshLine}
use Rattle.landing_core.specs.Folders.{bytes_of}
use Rattle.landing_core.specs.Lines.{CompleteLine, complete_len, head_of, head_place, head_text, rows_from}
use Rattle.landing_core.specs.Places.{place_of, moved}

-- the bytes of a listed file behind its place and within its listed size
abbrev pub new_bytes : List ℕ → List LandingFile → List FilePlace → Listed → List ℕ
new_bytes dir files places listed = slice_range (bytes_of dir listed.file files) (place_of places listed.file) listed.size

-- the head of a listed file, within its listed size
abbrev pub head_in : Format → Bool → List ℕ → List LandingFile → Listed → Option CompleteLine
head_in format header dir files listed = head_of format header (take listed.size (bytes_of dir listed.file files))

-- the texts of the heads of the listed files, one a file, empty where there is none
abbrev pub heads_of : Format → Bool → List ℕ → List LandingFile → List Listed → List (List ℕ)
heads_of format header dir files [] = []
heads_of format header dir files (listed ∷ more) = head_text (head_in format header dir files listed) ∷ heads_of format header dir files more

-- the rows that are new in a listed file, which has this number: lines are cut from its place on
abbrev pub new_rows : Format → Bool → List ℕ → List LandingFile → List FilePlace → ℕ → Listed → List FreshLine
new_rows format header dir files places number listed = rows_from format (head_place (head_in format header dir files listed)) number (place_of places listed.file) [] (new_bytes dir files places listed)

-- the rows that are new in the listed files, which are numbered from this number
abbrev pub new_lines : Format → Bool → List ℕ → List LandingFile → List FilePlace → ℕ → List Listed → List FreshLine
new_lines format header dir files places number [] = []
new_lines format header dir files places number (listed ∷ more) = new_rows format header dir files places number listed ++ new_lines format header dir files places (number + 1) more

-- how far a listed file is read: up to its last LF within the listed size, if one stands behind its place
abbrev pub reach_of : List ℕ → List LandingFile → List FilePlace → Listed → ℕ
reach_of dir files places listed = place_of places listed.file + complete_len (new_bytes dir files places listed)

-- the places after these listed files were read as well
abbrev pub reach_from : List ℕ → List LandingFile → List FilePlace → List FilePlace → List Listed → List FilePlace
reach_from dir files places so_far [] = so_far
reach_from dir files places so_far (listed ∷ more) = reach_from dir files places (moved listed.file (reach_of dir files places listed) so_far) more

abbrev pub reach : List ℕ → List LandingFile → List FilePlace → List Listed → List FilePlace
reach dir files places listing = reach_from dir files places places listing

-- the first listed file that is shorter than its place
abbrev pub shrunk : List FilePlace → List Listed → Option Listed
shrunk places [] = None
shrunk places (listed ∷ more) = if nat_lt listed.size (place_of places listed.file) then Some listed else shrunk places more
