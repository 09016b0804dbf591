-- The lines of a change feed that a number gives.
use Rattle.std.specs.Prelude.{ℕ, zero, suc, ◌*◌, ◌%◌, ◌==◌, ◌++◌, List, [], codes, if◌then◌else◌}
use Rattle.std.specs.Fmt.{decimal}
use Rattle.std.specs.Int.Bits.{bit_xor}

-- what the line at a place from 0 does to its key
abbrev pub generated_op : ℕ → List ℕ
generated_op i = if i % 11 == 0 then codes "DELETE" else codes "UPDATE"

-- the line at a place from 0: a key below 101, a city of seven, what is done to the key, and a sequence that no other line has
abbrev pub generated_line : ℕ → List ℕ
generated_line i =
    codes "{\"id\":" ++ decimal (37 * i % 101) ++ codes ",\"city\":\"c" ++ decimal (i * i % 7) ++ codes "\",\"op\":\"" ++ generated_op i ++ codes "\",\"seq\":" ++ decimal (bit_xor i 5) ++ codes "}\n"

-- that many lines, from place 0 on
abbrev pub generated_lines : ℕ → List ℕ
generated_lines zero = []
generated_lines (suc i) = generated_lines i ++ generated_line i
