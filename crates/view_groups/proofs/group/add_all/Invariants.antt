use Rattle.std.specs.Prelude.{List, map, take}
use Rattle.plan_core.specs.declared.query.Item.{Item}
use Rattle.flow_model.specs.Views.{Share}
use Rattle.view_groups.specs.Groups.{KeepsGroup, joined_by}
use Rattle.view_groups.specs.Shares.{seen}
use Rattle.view_groups.proofs.group.add_all.Given as goal

abbrev pub invariant-loop-share : goal.invariant-loop-share
invariant-loop-share l = (items : List Item) (members : List Share) → KeepsGroup items l.initial.group members → KeepsGroup items l.group (joined_by (map seen (take l.share-index l.more)) members)
