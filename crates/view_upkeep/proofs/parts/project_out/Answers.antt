use Rattle.std.proofs.Common.{[], arith}
use Rattle.view_query.proofs.AskLemmas.{projected_more}
use Rattle.view_upkeep.proofs.parts.project_out.Goals as goal

pub loop-row-preserved : goal.loop-row-preserved
loop-row-preserved g c = record {
  looks = omega (arith, c.loop-row.invariant.looks, c.tick.ensures);
  rows = projected_more c.args.query.now c.args.rows.now c.loop-row.row-index c.row-item.result [] c.loop-row.out c.project.new.out c.loop-row-test.true c.row-item.is c.loop-row.invariant.rows c.in_ok-project.ensures.rows;
}
