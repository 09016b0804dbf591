use Rattle.std.proofs.Common.{◌≡◌, ◌++◌, drop}
use Rattle.std.specs.Prelude.{filter_map, slice_get}
use Rattle.payload_parts.proofs.events.kinds_at.Given as goal

-- the kinds so far, and those that are left
abbrev pub invariant-loop-at : goal.invariant-loop-at
invariant-loop-at l = l.found.items ++ filter_map (λ at. slice_get l.kinds at) (drop l.at-index l.places) ≡ filter_map (λ at. slice_get l.kinds at) l.places
