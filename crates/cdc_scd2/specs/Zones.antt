-- The zone behind an event, where effective columns differ.
use Rattle.std.specs.Prelude.{◌≢◌, List, [], ◌∷◌, Option, Some, None}
use Rattle.value_core.specs.Order.{Row}
use Rattle.flow_model.specs.History.{Moment}

-- no moment has this sequence
abbrev pub IsApart : Row → List Moment → Type 0
IsApart sequence [] = Unit {0}
IsApart sequence (moment ∷ moments) = (moment.sequence ≢ sequence) × IsApart sequence moments

-- no two moments have one sequence
abbrev pub AreApart : List Moment → Type 0
AreApart [] = Unit {0}
AreApart (moment ∷ moments) = IsApart moment.sequence moments × AreApart moments

-- columns that are there and are not these
abbrev pub IsOther : Option Row → Row → Type 0
IsOther None row = ⊥
IsOther (Some columns) row = columns ≢ row

-- one row a moment, and never the columns that it has
abbrev pub AreOthers : List Moment → List Row → Type 0
AreOthers [] [] = Unit {0}
AreOthers [] (row ∷ rows) = ⊥
AreOthers (moment ∷ moments) [] = ⊥
AreOthers (moment ∷ moments) (row ∷ rows) = IsOther moment.columns row × AreOthers moments rows
