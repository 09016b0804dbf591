use Rattle.std.proofs.Common.{◌++◌, subst, sym, ap, ◌∙◌, take}
use Rattle.flow_model.specs.Views.{share, shares_of, fault_stop, first_of}
use Rattle.view_groups.specs.AllGroups.{KeepsShares}
use Rattle.view_groups.proofs.AllGroupLemmas.{shares_longer, no_stop_more, none_of}
use Rattle.view_groups.proofs.groups.Groups.fill.Goals as goal

pub loop-row-preserved : goal.loop-row-preserved
loop-row-preserved c = record {
  stop = ap first_of (sym (no_stop_more (λ row. fault_stop row (share c.args.query.now row)) c.args.rows.now c.loop-row.row-index c.row-item.result c.loop-row-test.true c.row-item.is
      (sym c.in_ok-stop.ensures.stop ∙ none_of c.in_ok-stop.stop c.if-is_some.ensures))) ∙ c.loop-row.invariant.stop;
  groups = λ shares keeps. subst (KeepsShares c.args.query.now c.take_in.new.self)
      (shares_longer c.args.query.now c.args.rows.now c.loop-row.row-index c.row-item.result shares c.loop-row-test.true c.row-item.is)
      (c.in_ok-stop.ensures.groups (shares ++ shares_of c.args.query.now (take c.loop-row.row-index c.args.rows.now)) (c.loop-row.invariant.groups shares keeps));
}
