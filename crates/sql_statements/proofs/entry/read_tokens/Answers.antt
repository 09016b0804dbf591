use Rattle.sql_statements.proofs.Answers.{answer_ok, answer_only}
use Rattle.sql_statements.proofs.Refusals.{answer_refused, answer_only_refused}
use Rattle.sql_statements.proofs.entry.read_tokens.Goals as goal

pub returns-clause-ok : goal.returns-clause-ok
returns-clause-ok c = answer_ok c.args.tokens.now c.whole.result c.whole.ensures

pub returns-clause-only : goal.returns-clause-only
returns-clause-only c = answer_only c.args.tokens.now c.whole.result c.whole.ensures

pub returns-clause-refused : goal.returns-clause-refused
returns-clause-refused c = answer_refused c.args.tokens.now c.whole.result c.whole.ensures

pub returns-clause-only_refused : goal.returns-clause-only_refused
returns-clause-only_refused c = answer_only_refused c.args.tokens.now c.whole.result c.whole.ensures
