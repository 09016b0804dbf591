use Rattle.expr_typing.proofs.TypedTrees.{answer_kind, answer_formed, answer_reads, answer_mismatch}
use Rattle.expr_typing.proofs.typing.typed.Goals as goal

pub returns-clause-kind : goal.returns-clause-kind
returns-clause-kind c = answer_kind c.args.columns.now c.args.tree.now c.answered.result c.answered.ensures

pub returns-clause-formed : goal.returns-clause-formed
returns-clause-formed c = answer_formed c.args.columns.now c.args.tree.now c.answered.result c.answered.ensures

pub returns-clause-reads : goal.returns-clause-reads
returns-clause-reads c = answer_reads c.args.columns.now c.args.tree.now c.answered.result c.answered.ensures

pub returns-clause-mismatch : goal.returns-clause-mismatch
returns-clause-mismatch c = answer_mismatch c.args.columns.now c.args.tree.now c.answered.result c.answered.ensures
