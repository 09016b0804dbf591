use Rattle.sql_statements.proofs.Answers.{wide}
use Rattle.sql_statements.proofs.Refusals.{one_refusal, refusals_apart}
use Rattle.sql_statements.proofs.laws.answers_are_one.Goals as goal

pub returns-clause-short : goal.returns-clause-short
returns-clause-short c = wide

pub returns-clause-refused : goal.returns-clause-refused
returns-clause-refused c = one_refusal

pub returns-clause-apart : goal.returns-clause-apart
returns-clause-apart c = refusals_apart
