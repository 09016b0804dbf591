use Rattle.std.proofs.Common.{◌≡◌, ◌++◌, drop}
use Rattle.pipeline_run.specs.Table.{outputs_of}
use Rattle.pipeline_run.proofs.table.outputs_of.Given as goal

abbrev pub invariant-loop-expr : goal.invariant-loop-expr
invariant-loop-expr l = l.outputs ++ outputs_of (drop l.expr-index l.exprs) l.left ≡ outputs_of l.exprs l.columns
