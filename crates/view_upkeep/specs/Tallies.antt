-- Counts after a change.
use Rattle.std.specs.Prelude.{List, [], ◌∷◌, ◌+◌, ◌-◌}
use Rattle.value_core.specs.declared.change.Tally.{Tally}

-- the counts of an expectation, with those of what comes and without those of what goes
abbrev pub turned_tally : Tally → Tally → Tally → Tally
turned_tally kept out more = record { passed = kept.passed + more.passed - out.passed; failed = kept.failed + more.failed - out.failed }

-- the same of each expectation
abbrev pub turned_counts : List Tally → List Tally → List Tally → List Tally
turned_counts (kept ∷ kepts) (out ∷ outs) (more ∷ mores) = turned_tally kept out more ∷ turned_counts kepts outs mores
turned_counts kepts outs mores = []
