use Rattle.std.proofs.Common.{ℕ, List, subst, sym}
use Rattle.pipeline_sql.specs.Read.{IsRead}
use Rattle.pipeline_text.specs.Pipelines.{HasStatements}
use Rattle.pipeline_text.proofs.reading.statements_of.Goals as goal

pub returns-in-Ok-clause-reads : goal.returns-in-Ok-clause-reads
unfolding HasStatements
returns-in-Ok-clause-reads c text is = subst (λ (bytes : List ℕ). IsRead bytes c.in-Ok.statements) (sym is) c.in-Ok.ensures.read
