use Rattle.pipeline_run.proofs.TableLemmas.{updatable_if}
use Rattle.pipeline_run.proofs.program.checked.Goals as goal

pub returns-clause-updatable : goal.returns-clause-updatable
returns-clause-updatable c = updatable_if c.args.statements.now c.check.result c.check.ensures.plan c.check.ensures.sound (c.checked_tables_keep_text.ensures c.args.statements.now)
