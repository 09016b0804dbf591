use Rattle.std.proofs.Common.{◌≡◌, ◌++◌, take, drop}
use Rattle.landing_core.specs.Folders.{entered}
use Rattle.landing_core.proofs.sure_landing.enter.Given as goal

abbrev pub invariant-loop-i : goal.invariant-loop-i
invariant-loop-i l =
    take l.i l.listing.items ++ entered l.listed (drop l.i l.listing.items) ≡ entered l.listed l.initial.listing.items
