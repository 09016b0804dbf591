use Rattle.std.specs.Prelude.{◌++◌, List, map, drop}
use Rattle.plan_core.specs.declared.query.Item.{Item}
use Rattle.flow_model.specs.Views.{Share}
use Rattle.view_groups.specs.Groups.{KeepsGroup}
use Rattle.view_groups.specs.Shares.{seen}
use Rattle.view_groups.proofs.group.take_all.Given as goal

abbrev pub invariant-loop-share : goal.invariant-loop-share
invariant-loop-share l = (items : List Item) (rest : List Share) → KeepsGroup items l.initial.group (map seen l.out ++ rest) → KeepsGroup items l.group (map seen (drop l.share-index l.out) ++ rest)
