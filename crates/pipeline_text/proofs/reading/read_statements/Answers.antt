use Rattle.std.proofs.Common.{◌∙◌, sym}
use Rattle.std.proofs.lemmas.List.{take_all}
use Rattle.pipeline_text.specs.Pipelines.{text_limit}
use Rattle.pipeline_text.proofs.reading.read_statements.Goals as goal

-- what was read is some text
pub returns-clause-some : goal.returns-clause-some
returns-clause-some g c =
    let read = c.in-Ok.text.items in
    (read, c.statements_of.ensures.reads read (take_all text_limit read c.in-Ok.ensures.limit ∙ sym c.as_slice.ensures.value))

pub returns-clause-told : goal.returns-clause-told
returns-clause-told g c tells =
    c.statements_of.ensures.reads (g.T.Source.left c.args.source.now) (sym (c.as_slice.ensures.value ∙ c.in-Ok.ensures.text tells))
