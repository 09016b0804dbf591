use Rattle.std.proofs.Common.{◌≡◌, take}
use Rattle.plan_definitions.proofs.parts.numbers_of.Given as goal

abbrev pub invariant-loop-place : goal.invariant-loop-place
invariant-loop-place l = l.numbers ≡ take l.place-index l.places
