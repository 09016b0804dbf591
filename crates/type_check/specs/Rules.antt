-- The checks of statements, in their order, and the plan where none is broken.
use Rattle.std.specs.Prelude.{◌≡◌, ℕ, nat_lt, Bool, if◌then◌else◌, List, [], ◌∷◌, ◌++◌, length, codes, Option, Some, None, option_map, Result, Ok, Err}
use Rattle.sql_tree.specs.declared.expr.SqlExpr.{SqlExpr}
use Rattle.sql_tree.specs.declared.statement.Out.{Out}
use Rattle.sql_tree.specs.declared.statement.Statement.{Statement}
use Rattle.sql_tree.specs.Print.{print}
use Rattle.sql_tree.specs.Spelling.{spelled}
use Rattle.value_core.specs.declared.schema.Column.{Column}
use Rattle.expr_typing.specs.Typing.{first_of}
use Rattle.plan_core.specs.declared.flow.AppendFlow.{AppendFlow}
use Rattle.plan_core.specs.declared.flow.Origin.TheVariants.{Files}
use Rattle.plan_core.specs.declared.plan.Body.TheVariants.{Append}
use Rattle.plan_core.specs.declared.plan.Dataset.{Dataset}
use Rattle.plan_core.specs.Sound.{is_empty}
use Rattle.file_options.specs.declared.files.FilesRead.{FilesRead}
use Rattle.file_options.specs.Rules.{By, FilesBy}
use Rattle.type_check.specs.declared.fault.CheckFault.{CheckFault}
use Rattle.type_check.specs.declared.fault.CheckFault.TheVariants.{NotYet, Duplicate, TooMany, NotStreaming, BadOption, AggregateInStream, UnknownName, SchemaDiffers}
use Rattle.type_check.specs.declared.fault.CheckRefusal.{CheckRefusal}
use Rattle.type_check.specs.declared.fault.CheckRefusal.TheVariants as refusal
use Rattle.type_check.specs.declared.fault.TableEnd.{TableEnd}
use Rattle.type_check.specs.declared.fault.TableEnd.TheVariants as end
use Rattle.type_check.specs.declared.outputs.Output.{Output}
use Rattle.type_check.specs.Form.{Form, form_of, is_there}
use Rattle.type_check.specs.Outputs.{outputs_seen, columns_of, exprs_of, looked_at, first_unknown, first_repeat, first_difference}

-- ---- the checks one by one: nothing, or how one is broken

abbrev pub Check : Type 0
Check = Option CheckFault

-- no column, as far as they are looked at, has the name of an earlier one, but for the case of ASCII letters; the fault spells the later one
abbrev pub names_differ : List Column → Check
names_differ columns = option_map Duplicate (first_repeat (looked_at columns))

-- there are at most 256 columns
abbrev pub few_columns : List Column → Check
few_columns columns = if nat_lt 256 (length columns) then Some (TooMany 257) else None

-- the files are read as a stream
abbrev pub is_streaming : Bool → Check
is_streaming stream = if stream then None else Some (NotStreaming (codes "read_files"))

-- a stream is not grouped
abbrev pub not_grouped : List SqlExpr → Check
not_grouped groups = if is_empty groups then None else Some AggregateInStream

-- each output is a column of what is read, but for the case of ASCII letters; the fault spells the output
abbrev pub names_known : List Column → List Out → Check
names_known source outs = option_map UnknownName (first_unknown source outs)

-- the table has the declared columns in order, where some are declared
abbrev pub as_declared : List Column → List Column → Check
as_declared [] table = None
as_declared (first ∷ more) table = option_map SchemaDiffers (first_difference (first ∷ more) table)

-- ---- the checks in their order

-- what is declared
abbrev pub declared_checks : List Column → List Check
declared_checks declared =
    names_differ declared ∷
    few_columns declared ∷ []

-- how a table reads what its options say
abbrev pub select_checks : Bool → List SqlExpr → List Out → List Column → List Check
select_checks stream groups outs source =
    is_streaming stream ∷
    not_grouped groups ∷
    names_known source outs ∷ []

-- the columns of the table
abbrev pub column_checks : List Column → List Column → List Check
column_checks declared table =
    names_differ table ∷
    few_columns table ∷
    as_declared declared table ∷ []

-- the first that is broken
abbrev pub first_break : List Check → Option CheckFault
first_break = first_of

-- ---- the plan

-- the flow of a table, which has its name
abbrev pub flow_with : List ℕ → FilesRead → List Output → AppendFlow
flow_with name files outputs = record { name = name; origin = Files files.dir files.shape; filter = None; outputs = exprs_of outputs }

abbrev pub dataset_with : List ℕ → List ℕ → List AppendFlow → List Column → Dataset
dataset_with name text flows columns = record { name = name; text = text; body = Append flows; columns = columns; expectations = []; level = 0 }

-- a table of this text over what its options say, with these outputs
abbrev pub dataset_over : List ℕ → List ℕ → FilesRead → List Output → Dataset
dataset_over name text files outputs = dataset_with name text (flow_with name files outputs ∷ []) (columns_of outputs)

-- ---- the first break, or else the plan

abbrev pub unless : {A : Type 0} → Option CheckFault → A → Result A CheckFault
unless None given = Ok given
unless (Some fault) given = Err fault

-- what a query gives over these columns, where no check of it is broken
abbrev pub outputs_over : List Column → Bool → List SqlExpr → List Out → List Column → Result (List Output) CheckFault
outputs_over declared stream groups outs source = let outputs = outputs_seen source outs in
    unless (first_break (select_checks stream groups outs source ++ column_checks declared (columns_of outputs))) outputs

abbrev pub over_outputs : List ℕ → Form → FilesRead → Result (List Output) CheckFault → Result Dataset CheckFault
over_outputs text form files (Ok outputs) = Ok (dataset_over form.name text files outputs)
over_outputs text form files (Err fault) = Err fault

-- over what its options say, or a rule that they break
abbrev pub table_by : List ℕ → Form → By FilesRead → Result Dataset CheckFault
table_by text form (Ok files) = over_outputs text form files (outputs_over form.declared form.stream form.groups form.outs files.shape.columns)
table_by text form (Err word) = Err (BadOption word)

-- the checks of the options and those behind them stand behind those of what is declared
abbrev pub JudgedBehind : List ℕ → Form → Option CheckFault → Result Dataset CheckFault → Type 0
JudgedBehind text form (Some fault) answer = answer ≡ Err fault
JudgedBehind text form None answer = (files : By FilesRead) × FilesBy form.path form.options files × (answer ≡ table_by text form files)

-- what a table of this text is found to be
abbrev pub Judged : List ℕ → Option Form → Result Dataset CheckFault → Type 0
Judged text None answer = answer ≡ Err NotYet
Judged text (Some form) answer = JudgedBehind text form (first_break (declared_checks form.declared)) answer

abbrev pub text_of : List Statement → List ℕ
text_of statements = spelled (print statements)

-- a fault, and the number of its statement from 1
pub record Break : Type 0 where
  pub statement : ℕ
  pub fault : CheckFault

abbrev pub broken_at : ℕ → CheckFault → Result (List Dataset) Break
broken_at statement fault = Err (record { statement = statement; fault = fault })

abbrev pub as_plan : Result Dataset CheckFault → Result (List Dataset) Break
as_plan (Ok dataset) = Ok (dataset ∷ [])
as_plan (Err fault) = broken_at 1 fault

abbrev pub IsOne : List ℕ → Option Form → Result (List Dataset) Break → Type 0
IsOne text form answer = (table : Result Dataset CheckFault) × Judged text form table × (answer ≡ as_plan table)

-- No statement is an empty plan. One statement is judged. Of more, the first that is not of the built form is refused.
abbrev pub Comes : List Statement → Result (List Dataset) Break → Type 0
Comes [] answer = answer ≡ Ok []
Comes (first ∷ []) answer = IsOne (text_of (first ∷ [])) (form_of first) answer
Comes (first ∷ next ∷ more) answer = answer ≡ broken_at (if is_there (form_of first) then 2 else 1) NotYet

-- what `check` answers: a plan, or the first check that is broken
pub record Checked (statements : List Statement) (answer : Result (List Dataset) Break) : Type 0 where
  pub comes : Comes statements answer

-- ---- clauses

-- of the fault, where there is one
abbrev pub OnRefused : CheckRefusal → (ℕ → CheckFault → Type 0) → Type 0
OnRefused (refusal.Refused statement fault) P = P statement fault
OnRefused refusal.Memory P = Unit {0}

-- what is so, but for want of memory
abbrev pub Told : {A : Type 0} → (Result A CheckFault → Type 0) → Result A TableEnd → Type 0
Told P (Ok a) = P (Ok a)
Told P (Err (end.Fault fault)) = P (Err fault)
Told P (Err end.Memory) = Unit {0}
