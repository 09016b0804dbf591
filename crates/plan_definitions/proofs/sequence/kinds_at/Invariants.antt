use Rattle.std.proofs.Common.{◌≡◌, ◌++◌, drop}
use Rattle.std.specs.Prelude.{option_map}
use Rattle.plan_core.specs.Sound.{kinds_at, kinds_of}
use Rattle.plan_definitions.proofs.sequence.kinds_at.Given as goal

-- the kinds so far, and those of the places that are left
abbrev pub invariant-loop-place : goal.invariant-loop-place
invariant-loop-place l = option_map (λ more. l.kinds ++ more) (kinds_at (kinds_of l.columns) (drop l.place-index l.places)) ≡ kinds_at (kinds_of l.columns) l.places
