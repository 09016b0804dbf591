-- Tables where what is rescued has a column.
use Rattle.std.specs.Prelude.{IsTrue, All}
use Rattle.plan_core.specs.declared.flow.Origin.{Origin}
use Rattle.plan_core.specs.declared.flow.Origin.TheVariants as origin
use Rattle.plan_core.specs.declared.plan.Body.{Body}
use Rattle.plan_core.specs.declared.plan.Body.TheVariants as body
use Rattle.plan_core.specs.declared.plan.Dataset.{Dataset}
use Rattle.file_options.specs.Rules.{EndsInText}

-- the columns of the lines of files end in a STRING column where something is rescued
abbrev pub OriginKeepsText : Origin → Type 0
OriginKeepsText (origin.Files dir shape) = IsTrue shape.rescued → EndsInText shape.columns
OriginKeepsText (origin.Table name) = Unit {0}

-- a flow that appends rows or applies a change feed may read files; a view reads a dataset
abbrev pub BodyKeepsText : Body → Type 0
BodyKeepsText (body.Append flows) = All (λ flow. OriginKeepsText flow.origin) flows
BodyKeepsText (body.Cdc cdc) = OriginKeepsText cdc.origin
BodyKeepsText (body.View query) = Unit {0}

-- it is so of each flow of a dataset
abbrev pub KeepsText : Dataset → Type 0
KeepsText dataset = BodyKeepsText dataset.body
