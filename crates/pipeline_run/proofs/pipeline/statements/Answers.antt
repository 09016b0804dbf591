use Rattle.std.proofs.Common.{ℕ, List, IfOk, subst}
use Rattle.pipeline_run.specs.Pipeline.{HasStatements}
use Rattle.pipeline_run.proofs.RunLemmas.{statements_known, nothing_known}
use Rattle.pipeline_run.proofs.pipeline.statements.Goals as goal

pub returns-in-Some-clause-statements : goal.returns-in-Some-clause-statements
returns-in-Some-clause-statements g c tells text knows =
    statements_known text c.args.known (g.T.Source.left c.args.source.now) c.in-Some.statements c.in-Some.is knows

pub returns-in-None-clause-statements : goal.returns-in-None-clause-statements
returns-in-None-clause-statements g c tells text knows =
    subst (λ (left : List ℕ). IfOk c.read_statements.result (HasStatements left))
    (nothing_known text c.args.known (g.T.Source.left c.args.source.now) c.in-None.is knows)
    (c.read_statements.ensures.statements tells)
