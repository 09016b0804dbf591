use Rattle.pipeline_text.proofs.checked.pipeline_of.Goals as goal

pub returns-in-None-clause-reads : goal.returns-in-None-clause-reads
returns-in-None-clause-reads g c text = rw c.in-None.is (λ left. c.read_pipeline.ensures.reads text left)
