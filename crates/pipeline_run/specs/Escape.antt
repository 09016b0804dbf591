-- Names and texts in a line.
use Rattle.std.specs.Prelude.{ℕ, List, [], ◌∷◌, ◌++◌, if◌then◌else◌, ◌==◌}
use Rattle.std.specs.List.{flat_map}

-- a character of a name as it is printed
abbrev pub escaped_byte : ℕ → List ℕ
escaped_byte b =
    if b == 92 then 92 ∷ 92 ∷ [] else (if b == 124 then 92 ∷ 124 ∷ [] else (if b == 10 then 92 ∷ 110 ∷ []
    else (if b == 13 then 92 ∷ 114 ∷ [] else (if b == 9 then 92 ∷ 116 ∷ [] else b ∷ []))))

abbrev pub escaped : List ℕ → List ℕ
escaped name = flat_map escaped_byte name

-- a line ends by LF
abbrev pub ended : List ℕ → List ℕ
ended text = text ++ 10 ∷ []
