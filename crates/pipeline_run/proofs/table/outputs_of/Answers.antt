use Rattle.pipeline_run.proofs.TableLemmas.{all_given}
use Rattle.pipeline_run.proofs.table.outputs_of.Goals as goal

pub returns : goal.returns
returns c = all_given c.args.exprs.now c.loop-expr.left.now c.args.columns.now c.loop-expr.outputs c.loop-expr.expr-index c.loop-expr-test.false c.loop-expr.invariant
