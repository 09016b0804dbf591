use Rattle.std.proofs.Common.{drop}
use Rattle.std.specs.Prelude.{◌↔◌}
use Rattle.landing_core.specs.Folders.{listed_names}
use Rattle.landing_core.specs.Names.{AreAscending}
use Rattle.landing_core.proofs.names.is_ascending.Given as goal

abbrev pub invariant-loop-i : goal.invariant-loop-i
invariant-loop-i l = AreAscending (listed_names l.listing) ↔ AreAscending (listed_names (drop l.i l.listing))
