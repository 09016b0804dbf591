-- Numbers on a command line.
use Rattle.std.specs.Prelude.{ℕ, ◌^◌, List, [], ◌∷◌, length, Bool, false, ◌&&◌, nat_le, nat_lt, if◌then◌else◌, Option, Some, None}
use Rattle.std.specs.Char.{is_ascii_digit}
use Rattle.std.specs.List.{list_all}
use Rattle.std.specs.Str.Parse.{digits_value}

-- one or more decimal digits
abbrev pub is_numeral : List ℕ → Bool
is_numeral [] = false
is_numeral digits = list_all is_ascii_digit digits

-- the number that a word of 1 to 20 decimal digits writes, where it is below 2 ^ 64
abbrev pub number : List ℕ → Option ℕ
number word = if (is_numeral word && nat_le (length word) 20) && nat_lt (digits_value 10 word) (2 ^ 64) then Some (digits_value 10 word) else None

-- a number, if it is within these bounds
abbrev pub bounded : ℕ → ℕ → Option ℕ → Option ℕ
bounded least most None = None
bounded least most (Some n) = if nat_le least n && nat_le n most then Some n else None

-- the number that a word writes, where it is within these bounds
abbrev pub number_within : ℕ → ℕ → List ℕ → Option ℕ
number_within least most word = bounded least most (number word)
