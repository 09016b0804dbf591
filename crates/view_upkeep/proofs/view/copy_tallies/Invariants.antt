use Rattle.std.specs.Prelude.{◌≡◌, take}
use Rattle.view_upkeep.proofs.view.copy_tallies.Given as goal

abbrev pub invariant-loop-tally : goal.invariant-loop-tally
invariant-loop-tally l = l.copy ≡ take l.tally-index l.tallies
