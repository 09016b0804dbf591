use Rattle.sql_statements.proofs.Answers.{one_pipeline}
use Rattle.sql_statements.proofs.Prints.{pipeline_reads, prints_apart}
use Rattle.sql_statements.proofs.laws.print_is_read.Goals as goal

pub returns-clause-one : goal.returns-clause-one
returns-clause-one c = one_pipeline

pub returns-clause-read : goal.returns-clause-read
returns-clause-read c = pipeline_reads

pub returns-clause-apart : goal.returns-clause-apart
returns-clause-apart c = prints_apart
