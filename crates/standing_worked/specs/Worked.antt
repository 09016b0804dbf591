-- A small store that was worked by hand: files into `bronze`, the rows of it where `a` is TRUE into `silver`, which fails where
-- `b` isn't TRUE, and a view `shown` of `silver`.
use Rattle.std.specs.Prelude.{ℕ, List, [], ◌∷◌, ◌++◌, Bool, true, false, Some, None, codes, map}
use Rattle.value_core.specs.declared.change.Tally.{Tally}
use Rattle.value_core.specs.declared.cursor.Cursor.{Cursor}
use Rattle.value_core.specs.declared.cursor.Cursor.TheVariants.{Files, At, Never}
use Rattle.value_core.specs.declared.cursor.Format.TheVariants.{Csv}
use Rattle.value_core.specs.declared.schema.Column.{Column}
use Rattle.value_core.specs.declared.shape.Shape.{Shape}
use Rattle.value_core.specs.declared.value.Kind.TheVariants as kind
use Rattle.value_core.specs.declared.value.Value.TheVariants.{Bool as Truth}
use Rattle.value_core.specs.Changes.{change_of}
use Rattle.value_core.specs.Order.{Row}
use Rattle.landing_core.specs.declared.landing.LandingFile.{LandingFile}
use Rattle.table_versions.specs.Versions.{versions_of}
use Rattle.row_expr.specs.declared.expr.Expr.{Expr}
use Rattle.row_expr.specs.declared.expr.Expr.TheVariants as expr
use Rattle.plan_core.specs.declared.expectation.Action.TheVariants.{FailUpdate}
use Rattle.plan_core.specs.declared.expectation.Expectation.{Expectation}
use Rattle.plan_core.specs.declared.flow.AppendFlow.{AppendFlow}
use Rattle.plan_core.specs.declared.flow.Origin.TheVariants as origin
use Rattle.plan_core.specs.declared.plan.Body.TheVariants as body
use Rattle.plan_core.specs.declared.plan.Dataset.{Dataset as Part}
use Rattle.plan_core.specs.declared.query.Item.TheVariants as item
use Rattle.plan_core.specs.declared.query.Query.{Query}
use Rattle.commit_payloads.specs.declared.payload.Payload.{Payload}
use Rattle.commit_payloads.specs.declared.payload.Payload.TheVariants as payload
use Rattle.state_model.specs.Dataset.{Dataset, State}
use Rattle.state_steps.specs.Parts.{definition_of}

-- ---- the plan

abbrev pub flag : List ℕ → Column
flag name = record { name = name; kind = kind.Bool }

-- the columns of each dataset
abbrev pub flags : List Column
flags = flag (codes "a") ∷ flag (codes "b") ∷ []

abbrev pub lines_in : Shape
lines_in = record { format = Csv; columns = flags; rescued = false; header = false; sep = 44 }

abbrev pub a_is : Expr
a_is = expr.Column 0 kind.Bool

abbrev pub b_is : Expr
b_is = expr.Column 1 kind.Bool

abbrev pub from_files : AppendFlow
from_files = record { name = codes "bronze"; origin = origin.Files (codes "in") lines_in; filter = None; outputs = a_is ∷ b_is ∷ [] }

abbrev pub from_bronze : AppendFlow
from_bronze = record { name = codes "silver"; origin = origin.Table (codes "bronze"); filter = Some a_is; outputs = a_is ∷ b_is ∷ [] }

abbrev pub must_be_b : Expectation
must_be_b = record { name = codes "b is true"; test = b_is; action = FailUpdate }

abbrev pub from_silver : Query
from_silver = record { origin = codes "silver"; filter = None; groups = []; items = item.Plain a_is ∷ item.Plain b_is ∷ [] }

abbrev pub bronze : Part
bronze = record { name = codes "bronze"; text = []; body = body.Append (from_files ∷ []); columns = flags; expectations = []; level = 0 }

abbrev pub silver : Part
silver = record { name = codes "silver"; text = []; body = body.Append (from_bronze ∷ []); columns = flags; expectations = must_be_b ∷ []; level = 1 }

abbrev pub shown : Part
shown = record { name = codes "shown"; text = []; body = body.View from_silver; columns = flags; expectations = []; level = 2 }

abbrev pub plan : List Part
plan = bronze ∷ silver ∷ shown ∷ []

-- ---- files and rows

-- the row of two flags
abbrev pub row : Bool → Bool → Row
row a b = Truth a ∷ Truth b ∷ []

-- the folder with its one file
abbrev pub files : List ℕ → List LandingFile
files bytes = record { dir = codes "in"; file = codes "x"; bytes = bytes } ∷ []

-- two lines
abbrev pub two_lines : List ℕ
two_lines = codes "f,t" ++ 10 ∷ codes "t,t" ++ 10 ∷ []

-- and a third one
abbrev pub three_lines : List ℕ
three_lines = codes "f,t" ++ 10 ∷ codes "t,t" ++ 10 ∷ codes "t,f" ++ 10 ∷ []

-- the file is read up to a place
abbrev pub read_to : ℕ → Cursor
read_to place = Files (record { file = codes "x"; place = place } ∷ [])

abbrev pub tally : ℕ → ℕ → Tally
tally passed failed = record { passed = passed; failed = failed }

-- ---- a first update

abbrev pub first_payloads : List Payload
first_payloads =
    payload.Define false (map (definition_of plan) plan)
    ∷ payload.Take (record { table = codes "bronze"; flow = codes "bronze"; cursor = read_to 8; change = change_of [] (row false true ∷ row true true ∷ []); counts = []; events = [] })
    ∷ payload.Take (record { table = codes "silver"; flow = codes "silver"; cursor = At 1; change = change_of [] (row true true ∷ []); counts = tally 1 0 ∷ []; events = [] })
    ∷ payload.Refresh (record { view = codes "shown"; cursor = At 1; change = change_of [] (row true true ∷ []); counts = [] })
    ∷ []

abbrev pub bronze_at_first : Dataset
bronze_at_first = record { definition = definition_of plan bronze; table = versions_of 0 [] (change_of [] (row false true ∷ row true true ∷ []) ∷ []); cursors = read_to 8 ∷ []; counts = []; events = [] }

abbrev pub silver_at_first : Dataset
silver_at_first = record { definition = definition_of plan silver; table = versions_of 0 [] (change_of [] (row true true ∷ []) ∷ []); cursors = At 1 ∷ []; counts = tally 1 0 ∷ []; events = [] }

abbrev pub shown_at_first : Dataset
shown_at_first = record { definition = definition_of plan shown; table = versions_of 0 [] (change_of [] (row true true ∷ []) ∷ []); cursors = At 1 ∷ []; counts = []; events = [] }

abbrev pub at_first : State
at_first = bronze_at_first ∷ silver_at_first ∷ shown_at_first ∷ []

-- ---- a reset of `bronze` and of `silver`, which streams from it; the view stays as it is

abbrev pub reset_payload : Payload
reset_payload = payload.Reset (codes "bronze" ∷ codes "silver" ∷ [])

abbrev pub bronze_reset : Dataset
bronze_reset = record bronze_at_first { table = versions_of 0 [] (change_of [] (row false true ∷ row true true ∷ []) ∷ change_of (row false true ∷ row true true ∷ []) [] ∷ []); cursors = Files [] ∷ [] }

abbrev pub silver_reset : Dataset
silver_reset = record silver_at_first { table = versions_of 0 [] (change_of [] (row true true ∷ []) ∷ change_of (row true true ∷ []) [] ∷ []); cursors = Never ∷ []; counts = tally 0 0 ∷ [] }

abbrev pub once_reset : State
once_reset = bronze_reset ∷ silver_reset ∷ shown_at_first ∷ []

-- ---- a third line comes, which `bronze` takes and `silver` fails at

abbrev pub third_payload : Payload
third_payload = payload.Take (record { table = codes "bronze"; flow = codes "bronze"; cursor = read_to 12; change = change_of [] (row true false ∷ []); counts = []; events = [] })

abbrev pub bronze_later : Dataset
bronze_later = record bronze_at_first { table = versions_of 0 [] (change_of [] (row false true ∷ row true true ∷ []) ∷ change_of [] (row true false ∷ []) ∷ []); cursors = read_to 12 ∷ [] }

abbrev pub left_behind : State
left_behind = bronze_later ∷ silver_at_first ∷ shown_at_first ∷ []
