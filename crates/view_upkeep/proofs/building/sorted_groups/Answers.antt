use Rattle.std.proofs.Common.{subst, ◌∙◌, refl}
use Rattle.std.specs.Prelude.{IfOk}
use Rattle.flow_model.specs.Views.{shares_of}
use Rattle.view_groups.specs.AllGroups.{KeepsShares}
use Rattle.view_query.proofs.AskLemmas.{ordered_is}
use Rattle.view_upkeep.proofs.building.sorted_groups.Goals as goal

pub returns-then-is_in_order : goal.returns-then-is_in_order
returns-then-is_in_order c = subst (λ rows. IfOk c.fill.result (λ groups. KeepsShares c.args.query.now groups (shares_of c.args.query.now rows)))
    (c.as_slice.ensures ∙ ordered_is c.args.rows.now (c.if-is_in_order.ensures.0 refl)) c.fill.ensures
