-- Bytes as hexadecimal digits.
use Rattle.std.specs.Prelude.{ℕ, ◌/◌, ◌%◌, List, [], ◌∷◌, ◌++◌, codes, slice_index}
use Rattle.std.specs.List.{flat_map}

-- the digit of a number below 16, in lower case
abbrev pub digit : ℕ → List ℕ
digit number = slice_index (codes "0123456789abcdef") number ∷ []

-- the two digits of a byte, the high four bits first
abbrev pub digits : ℕ → List ℕ
digits byte = digit (byte / 16) ++ digit (byte % 16)

-- two digits a byte
abbrev pub hex_text : List ℕ → List ℕ
hex_text bytes = flat_map digits bytes
