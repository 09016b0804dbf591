-- Which items are among others.
use Rattle.std.specs.Prelude.{◌≡◌, List, Bool, true}
use Rattle.std.specs.List.{list_any}

-- what passes a test among these does so among those
abbrev pub AreAmong : {X : Type 0} → List X → List X → Type 0
AreAmong {X} rest all = (test : X → Bool) → list_any test rest ≡ true → list_any test all ≡ true
