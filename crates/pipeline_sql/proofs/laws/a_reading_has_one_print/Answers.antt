use Rattle.pipeline_sql.proofs.PrintLaws.{read_again, readings_apart}
use Rattle.pipeline_sql.proofs.laws.a_reading_has_one_print.Goals as goal

pub returns-clause-back : goal.returns-clause-back
returns-clause-back c = read_again

pub returns-clause-apart : goal.returns-clause-apart
returns-clause-apart c = readings_apart
