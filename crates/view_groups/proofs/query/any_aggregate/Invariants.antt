use Rattle.std.specs.Prelude.{◌≡◌, drop}
use Rattle.std.specs.List.{list_any}
use Rattle.plan_core.specs.Sound.{is_aggregate}
use Rattle.view_groups.proofs.query.any_aggregate.Given as goal

abbrev pub invariant-loop-item : goal.invariant-loop-item
invariant-loop-item l = list_any is_aggregate (drop l.item-index l.items) ≡ list_any is_aggregate l.items
