use Rattle.std.proofs.Common.{◌≡◌, ◌++◌, take}
use Rattle.std.specs.List.{flat_map, AllByRecursion}
use Rattle.segment_rows.proofs.list.put_items.Given as goal

abbrev pub invariant-loop-item : goal.invariant-loop-item
invariant-loop-item g l = record {
  bytes : l.out.items ≡ l.initial.out.items ++ flat_map g.T.Field.spelled (take l.item-index l.items);
  range : AllByRecursion g.T.Field.in_range (take l.item-index l.items);
}
