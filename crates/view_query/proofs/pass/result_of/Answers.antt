use Rattle.std.proofs.Common.{sym}
use Rattle.view_query.proofs.AskLemmas.{pass_grouped, pass_plain}
use Rattle.view_query.proofs.pass.result_of.Goals as goal

pub returns-then-is_grouped : goal.returns-then-is_grouped
returns-then-is_grouped c = pass_grouped c.args.query.now c.args.rows.now c.group_rows.result (sym c.if-is_grouped.ensures) c.group_rows.ensures

pub returns : goal.returns
returns c = pass_plain c.args.query.now c.args.rows.now c.projections.result (sym c.if-is_grouped.ensures) c.projections.ensures
