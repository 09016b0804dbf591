use Rattle.pipeline_sql.proofs.PrintLaws.{print_reads}
use Rattle.pipeline_sql.proofs.laws.print_reads_back.Goals as goal

pub returns : goal.returns
returns c = print_reads
