use Rattle.std.proofs.Common.{◌∙◌, sym}
use Rattle.pipeline_text.proofs.BuiltLemmas.{append_tables}
use Rattle.pipeline_text.proofs.laws.built_pipelines_are_append_tables.Goals as goal

pub returns : goal.returns
returns c text pipeline is none =
    append_tables is.statements pipeline.plan (c.plans_have_the_declared_names.ensures is.statements pipeline.plan is.checked) (sym is.unbuilt_is ∙ none)
