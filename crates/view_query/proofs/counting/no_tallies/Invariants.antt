use Rattle.std.proofs.Common.{◌≡◌, ◌++◌, [], drop}
use Rattle.flow_model.specs.Admission.{counts}
use Rattle.view_query.proofs.counting.no_tallies.Given as goal

abbrev pub invariant-loop-expectation : goal.invariant-loop-expectation
invariant-loop-expectation l = l.tallies.items ++ counts (drop l._expectation-index l.expectations) [] ≡ counts l.expectations []
