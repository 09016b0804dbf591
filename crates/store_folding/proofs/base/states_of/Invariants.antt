use Rattle.std.proofs.Common.{◌≡◌, take}
use Rattle.store_folding.specs.Folding.{folded_states}
use Rattle.store_folding.proofs.base.states_of.Given as goal

abbrev pub invariant-loop-place : goal.invariant-loop-place
invariant-loop-place g l = l.states ≡ take l.place (folded_states l.contents)
