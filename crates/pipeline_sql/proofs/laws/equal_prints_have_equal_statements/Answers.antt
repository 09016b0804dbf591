use Rattle.pipeline_sql.proofs.PrintLaws.{texts_apart}
use Rattle.pipeline_sql.proofs.laws.equal_prints_have_equal_statements.Goals as goal

pub returns : goal.returns
returns c = texts_apart
