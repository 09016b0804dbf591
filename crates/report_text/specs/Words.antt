-- Names and strings in a line.
use Rattle.std.specs.Prelude.{ℕ, List, [], ◌∷◌, ◌++◌, if◌then◌else◌, ◌==◌}
use Rattle.std.specs.List.{flat_map}

-- a byte of a name or string, with `\` before what would end or part a line: `\\`, `\|`, `\n`, `\r` and `\t`
abbrev pub print_byte : ℕ → List ℕ
print_byte b =
    if b == 92 then 92 ∷ 92 ∷ [] else (if b == 124 then 92 ∷ 124 ∷ [] else (if b == 10 then 92 ∷ 110 ∷ []
    else (if b == 13 then 92 ∷ 114 ∷ [] else (if b == 9 then 92 ∷ 116 ∷ [] else b ∷ []))))

-- a name or string
abbrev pub print_word : List ℕ → List ℕ
print_word word = flat_map print_byte word

-- a line ends by LF
abbrev pub print_line : List ℕ → List ℕ
print_line text = text ++ 10 ∷ []
