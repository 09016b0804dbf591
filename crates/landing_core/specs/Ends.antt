-- Why no lines were read.
use Rattle.std.specs.Prelude.{◌≡◌, List, Option, Some, None}
use Rattle.value_core.specs.declared.cursor.FilePlace.{FilePlace}
use Rattle.landing_core.specs.declared.landing.Listed.{Listed}
use Rattle.landing_core.specs.declared.ends.LineEnd.{LineEnd}
use Rattle.landing_core.specs.declared.ends.LineEnd.TheVariants.{Shrunk, Failed, Memory}
use Rattle.landing_core.specs.Places.{place_of}

-- the end names the file that was found to be shorter than its place; where it is another, none was found
abbrev pub EndsBy : Option Listed → List FilePlace → LineEnd → Type 0
EndsBy found places (Shrunk file cursor size) = (found ≡ Some (record { file = file; size = size })) × (cursor ≡ place_of places file)
EndsBy found places Failed = found ≡ None
EndsBy found places Memory = Unit {0}

abbrev pub IsNoShrinkage : LineEnd → Type 0
IsNoShrinkage (Shrunk file cursor size) = ⊥
IsNoShrinkage Failed = Unit {0}
IsNoShrinkage Memory = Unit {0}
