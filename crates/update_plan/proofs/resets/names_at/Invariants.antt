use Rattle.std.proofs.Common.{◌≡◌, ◌++◌, drop}
use Rattle.stream_closure.specs.Streams.{names_at}
use Rattle.update_plan.proofs.resets.names_at.Given as goal

-- the names so far and those at the places that are left are all
abbrev pub invariant-loop-place : goal.invariant-loop-place
invariant-loop-place l = l.names ++ names_at l.plan (drop l.place-index l.places) ≡ names_at l.plan l.places
