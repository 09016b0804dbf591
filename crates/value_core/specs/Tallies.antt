-- Sums of counts.
use Rattle.std.specs.Prelude.{List, [], ◌∷◌, ◌+◌}
use Rattle.value_core.specs.declared.change.Tally.{Tally}

-- both counts as one
abbrev pub both_tallies : Tally → Tally → Tally
both_tallies a b = record { passed = a.passed + b.passed; failed = a.failed + b.failed }

-- the counts with further ones, expectation by expectation
abbrev pub added : List Tally → List Tally → List Tally
added [] more = []
added (kept ∷ kepts) [] = []
added (kept ∷ kepts) (next ∷ more) = both_tallies kept next ∷ added kepts more
