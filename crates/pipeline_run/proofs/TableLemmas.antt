-- A plan and its table.
use Rattle.std.proofs.Common.{◌≡◌, ℕ, List, [], ◌∷◌, ◌++◌, ◌≤◌, length, drop, append-nil, ◌==◌, map, Bool, true, false, ◌&&◌, ◌||◌, not, if◌then◌else◌, slice_get, Option, Some, None, option_map, Result, Ok, Err, IfOk, IsTrue, All, refl, sym, ap, subst, ◌∙◌}
use Rattle.std.specs.List.{list_all}
use Rattle.std.proofs.lemmas.List.{drop_all}
use Rattle.std.proofs.lemmas.List.Elements.{All-head}
use Rattle.std.proofs.lemmas.Option.{slice_get-map}
use Rattle.value_core.specs.declared.schema.Column.{Column}
use Rattle.value_core.specs.declared.value.Kind.{Kind}
use Rattle.value_core.specs.declared.value.Kind.TheVariants as kind
use Rattle.line_rows.specs.Lines.{ends_in_text, keeps_text}
use Rattle.row_expr.specs.declared.expr.Expr.{Expr, fold-roll-Expr}
use Rattle.row_expr.specs.declared.expr.Expr.TheOpen as form
use Rattle.row_expr.specs.declared.expr.Expr.TheVariants as expr
use Rattle.row_expr.specs.declared.expr.Expr.TheVariants.{rolls-Column}
use Rattle.row_expr.specs.Columns.{is_kind, reads_at, arm_reads_at, reads_within}
use Rattle.row_expr.specs.Kinds as rows
use Rattle.sql_tree.specs.declared.statement.Statement.{Statement}
use Rattle.plan_core.specs.declared.plan.Dataset.{Dataset}
use Rattle.plan_core.specs.Sound.{all_there, kind_over, kinds_of, kinds_over, IsSoundBody, IsSoundFlow, IsSoundPlan}
use Rattle.file_options.specs.declared.files.FilesRead.{FilesRead}
use Rattle.file_options.specs.Schemas.{column}
use Rattle.file_options.specs.Rules.{By, EndsInText}
use Rattle.type_check.specs.declared.fault.CheckFault.{CheckFault}
use Rattle.type_check.specs.declared.outputs.Output as checked
use Rattle.type_check.specs.Form.{Form, form_of}
use Rattle.type_check.specs.Outputs as outputs
use Rattle.type_check.specs.Rules.{Comes, Checked, Judged, JudgedBehind, first_break, declared_checks, select_checks, column_checks, unless, over_outputs, table_by, dataset_over, text_of, as_plan}
use Rattle.type_check.specs.Texts.{OriginKeepsText, KeepsText}
use Rattle.table_update.specs.declared.table.AppendTable.{AppendTable}
use Rattle.table_update.specs.declared.table.Output.{Output}
use Rattle.table_update.specs.Table as tables
use Rattle.table_update.specs.Table.{columns_of, is_column_of, is_of_kind, is_sound, is_sound_plan}
use Rattle.pipeline_run.specs.Table.{expr_of, flow_of, dataset_of, plan_of, place_at, place_of, output_of, outputs_of, table_in, IsUpdatable}

-- ---- the way back is exact

place_back : (place : ℕ) (held : Kind) → place_of (expr.Column place held) ≡ place
place_back place held = ap place_of (sym (rolls-Column place held)) ∙ fold-roll-Expr ℕ ℕ place_at (λ arm. 0) (form.Column place held)

abbrev at_place : Column → ℕ → Output
at_place column place = record { place = place; column = column }

output_back : (output : Output) → output_of (expr_of output) output.column ≡ output
output_back output = ap (at_place output.column) (place_back output.place output.column.kind)

outputs_back : (outputs : List Output) → outputs_of (map expr_of outputs) (columns_of outputs) ≡ outputs
outputs_back [] = refl
outputs_back (output ∷ more) =
    ap (λ (first : Output). first ∷ outputs_of (map expr_of more) (columns_of more)) (output_back output) ∙ ap (λ (rest : List Output). output ∷ rest) (outputs_back more)

abbrev with_outputs : AppendTable → List Output → AppendTable
with_outputs table outputs = record { name = table.name; text = table.text; folder = table.folder; shape = table.shape; outputs = outputs }

pub table_back : (asked : Option AppendTable) → table_in (plan_of asked) ≡ asked
table_back None = refl
table_back (Some table) = ap (λ (outputs : List Output). Some (with_outputs table outputs)) (outputs_back table.outputs)

-- a plan is that of one table, or of none
pub one_asked : (asked other : Option AppendTable) → plan_of asked ≡ plan_of other → asked ≡ other
one_asked asked other same = sym (table_back asked) ∙ ap table_in same ∙ table_back other

table_is : (plan : List Dataset) (table : Option AppendTable) → (updatable : IsUpdatable plan) → table ≡ table_in plan → table ≡ updatable.asked
table_is plan table updatable is = is ∙ ap table_in updatable.is ∙ table_back updatable.asked

-- the table that is read from a plan is the one that it asks for, and can be kept
pub plan_is : (plan : List Dataset) (table : Option AppendTable) → IsUpdatable plan → table ≡ table_in plan → plan ≡ plan_of table
plan_is plan table updatable is = updatable.is ∙ ap plan_of (sym (table_is plan table updatable is))

pub table_keeps : (plan : List Dataset) (table : Option AppendTable) → IsUpdatable plan → table ≡ table_in plan → is_sound_plan table ≡ true
table_keeps plan table updatable is = ap is_sound_plan (table_is plan table updatable is) ∙ updatable.sound

-- ---- checked statements have a plan of a table

abbrev output_over : checked.Output → Output
output_over output = record { place = output.place; column = output.column }

abbrev table_for : List ℕ → List ℕ → FilesRead → List checked.Output → AppendTable
table_for name text files given = record { name = name; text = text; folder = files.dir; shape = files.shape; outputs = map output_over given }

exprs_over : (given : List checked.Output) → outputs.exprs_of given ≡ map expr_of (map output_over given)
exprs_over [] = refl
exprs_over (first ∷ more) = ap (λ rest. expr_of (output_over first) ∷ rest) (exprs_over more)

columns_over : (given : List checked.Output) → outputs.columns_of given ≡ columns_of (map output_over given)
columns_over [] = refl
columns_over (first ∷ more) = ap (λ rest. first.column ∷ rest) (columns_over more)

dataset_for : (name text : List ℕ) (files : FilesRead) (given : List checked.Output) → dataset_over name text files given ≡ dataset_of (table_for name text files given)
dataset_for name text files given = rw (exprs_over given, columns_over given) refl

-- a dataset of what is given is a table of this text
abbrev HasTable : List ℕ → Result Dataset CheckFault → Type 0
HasTable text given = (dataset : Dataset) → given ≡ Ok dataset → (table : AppendTable) × (dataset ≡ dataset_of table) × (table.text ≡ text)

given_table : (text : List ℕ) (form : Form) (files : FilesRead) (broken : Option CheckFault) → HasTable text (over_outputs text form files (unless broken (outputs.outputs_seen files.shape.columns form.outs)))
given_table text form files (Some fault) dataset is = absurd (cc is)
given_table text form files None dataset is =
    let given = outputs.outputs_seen files.shape.columns form.outs in
    let same : dataset_over form.name text files given ≡ dataset = cc is in
    (table_for form.name text files given, sym same ∙ dataset_for form.name text files given, refl)

by_table : (text : List ℕ) (form : Form) (files : By FilesRead) → HasTable text (table_by text form files)
by_table text form (Err word) dataset is = absurd (cc is)
by_table text form (Ok files) dataset is =
    given_table text form files (first_break (select_checks form.stream form.groups form.outs files.shape.columns ++ column_checks form.declared (outputs.columns_of (outputs.outputs_seen files.shape.columns form.outs)))) dataset is

behind_table : (text : List ℕ) (form : Form) (fault : Option CheckFault) (table : Result Dataset CheckFault) → JudgedBehind text form fault table → HasTable text table
behind_table text form (Some fault) table f dataset is = absurd (cc (sym is ∙ f))
behind_table text form None table f dataset is = by_table text form f.0 dataset (sym f.2 ∙ is)

judged_table : (text : List ℕ) (form : Option Form) (table : Result Dataset CheckFault) → Judged text form table → HasTable text table
judged_table text None table f dataset is = absurd (cc (sym is ∙ f))
judged_table text (Some form) table f dataset is = behind_table text form (first_break (declared_checks form.declared)) table f dataset is

-- a table has this text, where there is one
abbrev IsOfText : List ℕ → Option AppendTable → Type 0
IsOfText text None = Unit {0}
IsOfText text (Some table) = table.text ≡ text

abbrev PlanHasTable : List ℕ → List Dataset → Type 0
PlanHasTable text plan = (asked : Option AppendTable) × (plan ≡ plan_of asked) × IsOfText text asked

one_table : (text : List ℕ) (form : Option Form) (table : Result Dataset CheckFault) (plan : List Dataset) → Judged text form table → Ok plan ≡ as_plan table → PlanHasTable text plan
one_table text form (Err fault) plan f is = absurd (cc is)
one_table text form (Ok dataset) plan f is =
    let same : plan ≡ dataset ∷ [] = cc is in
    let has = judged_table text form (Ok dataset) f dataset refl in
    (Some has.0, same ∙ ap (λ (first : Dataset). first ∷ []) has.1, has.2)

comes_table : (statements : List Statement) (plan : List Dataset) → Comes statements (Ok plan) → PlanHasTable (text_of statements) plan
comes_table [] plan f = let same : plan ≡ [] = cc f in (None, same, tt)
comes_table (first ∷ []) plan f = one_table (text_of (first ∷ [])) (form_of first) f.0 plan f.1 f.2
comes_table (first ∷ next ∷ more) plan f = absurd (cc f)

-- the table of checked statements has their text
pub checked_text : (statements : List Statement) (table : AppendTable) → Checked statements (Ok (plan_of (Some table))) → table.text ≡ text_of statements
checked_text statements table f =
    let has = comes_table statements (plan_of (Some table)) f.comes in
    subst (IsOfText (text_of statements)) (sym (one_asked (Some table) has.0 has.1)) has.2

-- ---- a sound one

both_true : (a b : Bool) → a ≡ true → b ≡ true → (a && b) ≡ true
both_true a b p q = rw (p, q) refl

there_first : {A : Type 0} (first : Option A) (more : List (Option A)) (all : List A) → all_there (first ∷ more) ≡ Some all → (a : A) × (first ≡ Some a)
there_first None more all is = absurd (cc is)
there_first (Some a) more all is = (a, refl)

there_mapped : {A : Type 0} (a : A) (others : Option (List A)) (all : List A) → option_map (λ (rest : List A). a ∷ rest) others ≡ Some all → (rest : List A) × (others ≡ Some rest)
there_mapped a None all is = absurd (cc is)
there_mapped a (Some rest) all is = (rest, refl)

there_more : {A : Type 0} (first : Option A) (more : List (Option A)) (all : List A) → all_there (first ∷ more) ≡ Some all → (rest : List A) × (all_there more ≡ Some rest)
there_more None more all is = absurd (cc is)
there_more (Some a) more all is = there_mapped a (all_there more) all is

guarded : {A : Type 0} (test : Bool) (given : Option A) (a : A) → (if test then given else None) ≡ Some a → test ≡ true
guarded true given a is = refl
guarded false given a is = absurd (cc is)

same_kinds : (one other : Kind) → rows.same_kind one other ≡ tables.same_kind other one
same_kinds kind.Bool kind.Bool = refl
same_kinds kind.Bool kind.Int = refl
same_kinds kind.Bool kind.Big = refl
same_kinds kind.Bool kind.Str = refl
same_kinds kind.Int kind.Bool = refl
same_kinds kind.Int kind.Int = refl
same_kinds kind.Int kind.Big = refl
same_kinds kind.Int kind.Str = refl
same_kinds kind.Big kind.Bool = refl
same_kinds kind.Big kind.Int = refl
same_kinds kind.Big kind.Big = refl
same_kinds kind.Big kind.Str = refl
same_kinds kind.Str kind.Bool = refl
same_kinds kind.Str kind.Int = refl
same_kinds kind.Str kind.Big = refl
same_kinds kind.Str kind.Str = refl

kind_found : (wanted : Kind) (found : Option Column) → is_kind wanted (option_map (λ (column : Column). column.kind) found) ≡ is_of_kind found wanted
kind_found wanted None = refl
kind_found wanted (Some column) = same_kinds wanted column.kind

column_found : (source : List Column) (output : Output) (held : Kind) → kind_over (kinds_of source) (expr_of output) ≡ Some held → is_column_of source output ≡ true
column_found source output held is =
    let wanted = output.column.kind in
    let within : reads_within (kinds_of source) (expr_of output) ≡ is_kind wanted (slice_get (kinds_of source) output.place) =
    ap (reads_within (kinds_of source)) (sym (rolls-Column output.place wanted)) ∙ fold-roll-Expr Bool Bool (reads_at (kinds_of source)) arm_reads_at (form.Column output.place wanted) in
    let reads : reads_within (kinds_of source) (expr_of output) ≡ true = guarded (reads_within (kinds_of source) (expr_of output)) (rows.kind_in (rows.sort_of (expr_of output))) held is in
    sym (kind_found wanted (slice_get source output.place))
    ∙ ap (is_kind wanted) (sym (slice_get-map (λ (column : Column). column.kind) source output.place))
    ∙ (sym within ∙ reads)

columns_found : (source : List Column) (given : List Output) (all : List Kind) → kinds_over (kinds_of source) (map expr_of given) ≡ Some all → list_all (is_column_of source) given ≡ true
columns_found source [] all is = refl
columns_found source (output ∷ more) all is =
    let kinds = map (kind_over (kinds_of source)) (map expr_of more) in
    let first = there_first (kind_over (kinds_of source) (expr_of output)) kinds all is in
    let rest = there_more (kind_over (kinds_of source) (expr_of output)) kinds all is in
    both_true (is_column_of source output) (list_all (is_column_of source) more) (column_found source output first.0 first.1) (columns_found source more rest.0 rest.1)

flow_sound : (table : AppendTable) → IsSoundFlow (dataset_of table ∷ []) (dataset_of table) (flow_of table) → list_all (is_column_of table.shape.columns) table.outputs ≡ true
flow_sound table flow =
    let same : table.shape.columns ≡ flow.source = cc flow.reads in
    rw same (columns_found flow.source table.outputs (kinds_of (columns_of table.outputs)) flow.gives.outputs)

outputs_sound : (table : AppendTable) → IsSoundPlan (dataset_of table ∷ []) → list_all (is_column_of table.shape.columns) table.outputs ≡ true
outputs_sound table plan =
    let dataset = dataset_of table in
    let body = All-head (λ (each : Dataset). IsSoundBody (dataset ∷ []) each each.body) dataset [] plan.each_dataset in
    flow_sound table (All-head (IsSoundFlow (dataset ∷ []) dataset) (flow_of table) [] body.each_flow)

ends_so : (front : List Column) (name : List ℕ) → ends_in_text (front ++ column name kind.Str ∷ []) ≡ true
ends_so [] name = refl
ends_so (first ∷ []) name = refl
ends_so (first ∷ next ∷ more) name = ends_so (next ∷ more) name

or_true : (a b : Bool) → b ≡ true → (a || b) ≡ true
or_true true b is = refl
or_true false b is = is

keeps_so : (rescued : Bool) (columns : List Column) → (IsTrue rescued → EndsInText columns) → (not (rescued && not (length columns == 0)) || ends_in_text columns) ≡ true
keeps_so false columns ends = refl
keeps_so true columns ends =
    let text = ends refl in
    or_true (not (not (length columns == 0))) (ends_in_text columns) (ap ends_in_text text.2 ∙ ends_so text.0 text.1)

pub table_sound : (table : AppendTable) → IsSoundPlan (dataset_of table ∷ []) → All KeepsText (dataset_of table ∷ []) → is_sound table ≡ true
table_sound table plan keeps =
    let flows = All-head KeepsText (dataset_of table) [] keeps in
    let text = All-head (λ flow. OriginKeepsText flow.origin) (flow_of table) [] flows in
    both_true (keeps_text table.shape) (list_all (is_column_of table.shape.columns) table.outputs) (keeps_so table.shape.rescued table.shape.columns text) (outputs_sound table plan)

asked_sound : (plan : List Dataset) (asked : Option AppendTable) → plan ≡ plan_of asked → IsSoundPlan plan → All KeepsText plan → is_sound_plan asked ≡ true
asked_sound plan None is sound keeps = refl
asked_sound plan (Some table) is sound keeps = table_sound table (subst IsSoundPlan is sound) (subst (All KeepsText) is keeps)

-- a plan of checked statements can be kept
pub checked_updatable : (statements : List Statement) (plan : List Dataset) → Checked statements (Ok plan) → IsSoundPlan plan → All KeepsText plan → IsUpdatable plan
checked_updatable statements plan f sound keeps =
    let has = comes_table statements plan f.comes in
    record { asked = has.0; is = has.1; sound = asked_sound plan has.0 has.1 sound keeps }

pub updatable_if : {E : Type 0} (statements : List Statement) (result : Result (List Dataset) E) → IfOk result (λ plan. Checked statements (Ok plan)) → IfOk result (λ plan. IsSoundPlan plan)
    → ((plan : List Dataset) → Checked statements (Ok plan) → All KeepsText plan) → IfOk result (λ plan. IsUpdatable plan)
updatable_if statements (Err e) checks sound keeps = tt
updatable_if statements (Ok plan) checks sound keeps = checked_updatable statements plan checks sound (keeps plan checks)

-- ---- a loop over expressions and columns

none_left : (columns : List Column) → outputs_of [] columns ≡ []
none_left [] = refl
none_left (first ∷ more) = refl

pub all_given : (exprs : List Expr) (left columns : List Column) (outputs : List Output) (i : ℕ) → length exprs ≤ i → outputs ++ outputs_of (drop i exprs) left ≡ outputs_of exprs columns → outputs ≡ outputs_of exprs columns
all_given exprs left columns outputs i past keeps =
    let rest : outputs_of (drop i exprs) left ≡ [] = ap (λ (behind : List Expr). outputs_of behind left) (drop_all i exprs past) ∙ none_left left in
    sym (append-nil outputs) ∙ ap (λ (behind : List Output). outputs ++ behind) (sym rest) ∙ keeps
