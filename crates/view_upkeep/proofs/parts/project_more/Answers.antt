use Rattle.std.proofs.Common.{sym, ap, ◌∙◌, arith}
use Rattle.flow_model.specs.Views.{share, fault_stop, first_of}
use Rattle.view_query.proofs.AskLemmas.{no_stop_more, none_of, projected_more}
use Rattle.view_upkeep.proofs.parts.project_more.Goals as goal

pub loop-row-preserved : goal.loop-row-preserved
loop-row-preserved g c = record {
  looks = omega (arith, c.loop-row.invariant.looks, c.tick.ensures);
  stop = ap first_of (sym (no_stop_more (λ row. fault_stop row (share c.args.query.now row)) c.args.rows.now c.loop-row.row-index c.row-item.result c.loop-row-test.true c.row-item.is
      (sym c.in_ok-stop.ensures.stop ∙ none_of c.in_ok-stop.stop c.if-is_some.ensures))) ∙ c.loop-row.invariant.stop;
  rows = projected_more c.args.query.now c.args.rows.now c.loop-row.row-index c.row-item.result c.args.out.now c.loop-row.out c.project.new.out c.loop-row-test.true c.row-item.is c.loop-row.invariant.rows c.in_ok-stop.ensures.rows;
}
