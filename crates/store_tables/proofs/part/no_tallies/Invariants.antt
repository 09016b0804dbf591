use Rattle.std.proofs.Common.{◌≡◌, map, take}
use Rattle.state_model.specs.After.{no_tally}
use Rattle.store_tables.proofs.part.no_tallies.Given as goal

abbrev pub invariant-loop-expectation : goal.invariant-loop-expectation
invariant-loop-expectation l = l.counts ≡ map no_tally (take l._expectation-index l.expectations)
