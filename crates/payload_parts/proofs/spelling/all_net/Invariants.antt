use Rattle.std.proofs.Common.{◌↔◌, drop}
use Rattle.std.specs.List.{AllByRecursion}
use Rattle.value_core.specs.Changes.{IsChange}
use Rattle.payload_parts.proofs.spelling.all_net.Given as goal

abbrev pub invariant-loop-change : goal.invariant-loop-change
invariant-loop-change l = AllByRecursion IsChange (drop l.change-index l.changes) ↔ AllByRecursion IsChange l.changes
