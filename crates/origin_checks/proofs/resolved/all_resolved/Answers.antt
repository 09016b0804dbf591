use Rattle.std.proofs.Common.{◌+◌, List, take, sym, subst}
use Rattle.sql_tree.specs.declared.statement.Statement.{Statement}
use Rattle.origin_checks.specs.declared.resolved.Resolved.{Resolved}
use Rattle.origin_checks.specs.Resolving.{AreResolved, IsResolved}
use Rattle.origin_checks.proofs.Pushing.{one_more_resolved}
use Rattle.origin_checks.proofs.resolved.all_resolved.Goals as goal

pub loop-statement-preserved : goal.loop-statement-preserved
loop-statement-preserved c =
    let here = subst (λ (statement : Statement). IsResolved statement c.in_ok-resolved_of.field-0) c.statement-item.is c.in_ok-resolved_of.ensures in
    subst (λ (all : List Resolved). AreResolved (take (c.loop-statement.statement-index + 1) c.args.statements.now) all) (sym c.in_ok-push.ensures.ok)
    (one_more_resolved c.args.statements.now c.loop-statement.resolved c.loop-statement.statement-index c.statement-item.result c.in_ok-resolved_of.field-0 c.loop-statement-test.true here c.loop-statement.invariant)
