use Rattle.std.proofs.Common.{◌≡◌, drop}
use Rattle.stream_closure.specs.Streams.{place_from}
use Rattle.update_plan.proofs.edges.place_of.Given as goal

-- the first among the datasets that are left is the first of all
abbrev pub invariant-loop-place : goal.invariant-loop-place
invariant-loop-place l = place_from l.place (drop l.place l.plan) l.name ≡ place_from 0 l.plan l.name
