use Rattle.std.proofs.Common.{◌≡◌, take}
use Rattle.select_checks.specs.Views.{grouped_outputs, group_kinds}
use Rattle.select_checks.proofs.items.grouped_outputs.Given as goal

-- what the outputs so far give
abbrev pub invariant-loop-given : goal.invariant-loop-given
invariant-loop-given l = l.outputs ≡ grouped_outputs l.source l.table (group_kinds l.groups) (take l.given-index l.outs)
