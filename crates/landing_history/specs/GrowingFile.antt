-- An example: a CSV file with a header that grows between two readings.
use Rattle.std.specs.Prelude.{ℕ, List, [], ◌∷◌}
use Rattle.landing_core.specs.declared.landing.LandingFile.{LandingFile}
use Rattle.landing_history.specs.Readings.{Reading}
use Rattle.landing_history.specs.Taken.{LandedLine}

-- the folder `in` and its file `a`
abbrev pub folder : List ℕ
folder = 105 ∷ 110 ∷ []

abbrev pub name : List ℕ
name = 97 ∷ []

-- the head `k` and the row `1` have ended, the row `2` has begun
abbrev pub bytes_at_first : List ℕ
bytes_at_first = 107 ∷ 10 ∷ 49 ∷ 10 ∷ 50 ∷ []

-- the row `2` has ended, and a blank line, a row `3` with a CR at its end and a row `4` follow, of which the last has only begun
abbrev pub bytes_later : List ℕ
bytes_later = 107 ∷ 10 ∷ 49 ∷ 10 ∷ 50 ∷ 10 ∷ 10 ∷ 51 ∷ 13 ∷ 10 ∷ 52 ∷ []

abbrev pub files_with : List ℕ → List LandingFile
files_with bytes = record { dir = folder; file = name; bytes = bytes } ∷ []

abbrev pub reading_of : List ℕ → ℕ → Reading
reading_of bytes size = record { present = files_with bytes; ever = files_with bytes; listing = record { file = name; size = size } ∷ [] }

-- the later reading stands first
abbrev pub two_readings : List Reading
two_readings = reading_of bytes_later 11 ∷ reading_of bytes_at_first 5 ∷ []

-- a row of one digit under the head `k`
abbrev pub row_of_digit : ℕ → LandedLine
row_of_digit digit = record { head = 107 ∷ []; text = digit ∷ [] }
