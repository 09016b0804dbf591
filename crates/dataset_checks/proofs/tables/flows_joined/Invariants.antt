use Rattle.std.proofs.Common.{◌≡◌, [], drop}
use Rattle.dataset_checks.specs.Tables as spec
use Rattle.dataset_checks.proofs.tables.flows_joined.Given as goal

-- the flows that are left, behind those so far, make what all make
abbrev pub invariant-loop-place : goal.invariant-loop-place
invariant-loop-place l = spec.flows_joined l.statements l.resolved l.sofar l.mixed (drop l.place-index l.places) l.table l.flows ≡ spec.flows_joined l.statements l.resolved l.sofar l.mixed l.places l.fn.table []
