-- The names of declared columns differ, and so do those of the columns that a flow gives.
use Rattle.std.proofs.Common.{◌≡◌, ℕ, zero, suc, ◌+◌, Bool, true, false, List, [], ◌∷◌, ◌++◌, map, length, filter, Option, Some, None, Ok, refl, ap, subst, ◌∙◌}
use Rattle.std.specs.Prelude.{◌&&◌, if◌then◌else◌, slice_get, option_map, option_and_then, option_to_list, is_some}
use Rattle.std.specs.List.{AllByRecursion, list_all}
use Rattle.value_core.specs.declared.schema.Column.{Column}
use Rattle.sql_tree.specs.declared.expr.SqlExpr.{SqlExpr}
use Rattle.sql_tree.specs.declared.expr.SqlType.{SqlType}
use Rattle.sql_tree.specs.declared.statement.Out.{Out}
use Rattle.sql_tree.specs.declared.statement.Out.TheVariants as out
use Rattle.sql_tree.specs.declared.statement.Select.{Select}
use Rattle.sql_tree.specs.declared.statement.SqlItem.{SqlItem}
use Rattle.sql_tree.specs.declared.statement.SqlItem.TheVariants as item
use Rattle.sql_tree.specs.declared.statement.Statement.{Statement}
use Rattle.statement_checks.specs.declared.fault.CheckFault.{CheckFault}
use Rattle.statement_checks.specs.declared.fault.CheckFault.TheVariants.{Duplicate, TypeMismatch}
use Rattle.statement_checks.specs.Breaks.{break_behind, broken, first_break, statement_fault}
use Rattle.statement_checks.specs.Declares.{item_name, items_of}
use Rattle.statement_checks.specs.Duplicates.{clauses_differ, datasets_differ, flows_differ, item_repeat, items_differ, name_checks, same_item}
use Rattle.statement_checks.specs.Limits.{limit_checks}
use Rattle.statement_checks.specs.Repeats.{first_of, first_repeat, repeat_behind}
use Rattle.row_expr.specs.declared.expr.Expr.{Expr}
use Rattle.row_expr.specs.declared.expr.Expr.TheVariants as expr
use Rattle.expr_typing.specs.Typing.{kind_of_type}
use Rattle.column_checks.specs.Tables.{columns_declared, typed_column}
use Rattle.select_names.specs.SelectNames.{is_left, names_are_columns, out_name, out_names, outputs_are_named, outputs_differ, select_names}
use Rattle.select_checks.specs.declared.kinded.KindedExpr.{KindedExpr}
use Rattle.select_checks.specs.declared.outputs.SelectOutput.{SelectOutput}
use Rattle.select_checks.specs.declared.stream.StreamSelect.{StreamSelect}
use Rattle.select_checks.specs.Kinded.{filter_over, is_filter, kinded_tree}
use Rattle.select_checks.specs.Outputs.{column_of, columns_given, columns_left, has_kind, named_output, out_outputs, select_output, select_outputs}
use Rattle.select_checks.specs.Streams.{given_unless, is_not_grouped, outputs_have_kinds, stream_checks, stream_select, stream_with}
use Rattle.plan_laws.proofs.Apart.{AreApart, columns_apart, none_twice, same_column}
use Rattle.plan_laws.proofs.Binding.{both_hold, neither, passes, unmapped}

-- ---- declared columns

unlike_declared : (name : List ℕ) (type : SqlType) (items : List SqlItem) → AllByRecursion (λ other. same_item other (item.Column name type) ≡ false) items →
    AllByRecursion (λ other. same_column other (typed_column name (kind_of_type type)) ≡ false) (columns_declared items)
unlike_declared name type [] all = tt
unlike_declared name type (item.Column other kind ∷ items) all = (all.0, unlike_declared name type items all.1)
unlike_declared name type (item.Expect other test said ∷ items) all = unlike_declared name type items all.1

declared_apart : (items : List SqlItem) → AreApart same_item items → AreApart same_column (columns_declared items)
declared_apart [] apart = tt
declared_apart (item.Column name type ∷ items) apart = (unlike_declared name type items apart.0, declared_apart items apart.1)
declared_apart (item.Expect name test said ∷ items) apart = declared_apart items apart.1

-- the items that a statement declares differ
abbrev pub HasNewItems : Statement → Type 0
HasNewItems one = item_repeat (items_of one) ≡ None

new_items : (before : List Statement) (one : Statement) → statement_fault before one ≡ None → HasNewItems one
new_items before one none =
    let names = (neither (first_of (limit_checks before one)) (first_of (name_checks before one)) none).1 in
    let flows = (neither (datasets_differ before one) (first_of (flows_differ before one ∷ items_differ one ∷ clauses_differ one ∷ [])) names).1 in
    let items = (neither (flows_differ before one) (first_of (items_differ one ∷ clauses_differ one ∷ [])) flows).1 in
    unmapped Duplicate (item_repeat (items_of one)) (neither (items_differ one) (first_of (clauses_differ one ∷ [])) items).0

new_items_at : (before statements : List Statement) (place : ℕ) (one : Statement) → break_behind before statements ≡ None → slice_get statements place ≡ Some one → HasNewItems one
new_items_at before [] place one none at = absurd (cc)
new_items_at before (first ∷ more) zero one none at =
    let here = (neither (option_map (broken (length before + 1)) (statement_fault before first)) (break_behind (before ++ first ∷ []) more) none).0 in
    let same : first ≡ one = cc in
    subst HasNewItems same (new_items before first (unmapped (broken (length before + 1)) (statement_fault before first) here))
new_items_at before (first ∷ more) (suc place) one none at =
    new_items_at (before ++ first ∷ []) more place one (neither (option_map (broken (length before + 1)) (statement_fault before first)) (break_behind (before ++ first ∷ []) more) none).1 at

pub items_at : (statements : List Statement) (place : ℕ) (one : Statement) → first_break statements ≡ None → slice_get statements place ≡ Some one → HasNewItems one
items_at statements place one none at = new_items_at [] statements place one none at

-- columns that are declared differ in name
pub columns_differ : (items : List SqlItem) → item_repeat items ≡ None → AreApart same_column (columns_declared items)
columns_differ items none = declared_apart items (none_twice same_item [] items (unmapped item_name (repeat_behind same_item [] items) none)).1

-- ---- the columns of a select

abbrev names_of : List SelectOutput → List (List ℕ)
names_of outputs = map (λ (column : Column). column.name) (columns_given outputs)

names_join : (xs ys : List SelectOutput) → names_of (xs ++ ys) ≡ names_of xs ++ names_of ys
names_join [] ys = refl
names_join (x ∷ xs) ys = ap (λ (names : List (List ℕ)). x.column.name ∷ names) (names_join xs ys)

left_if : (left : Bool) (first : Column) (made : Expr) (outputs : List SelectOutput) (columns : List Column) → names_of outputs ≡ map (λ (column : Column). column.name) columns →
    names_of (if left then select_output first made ∷ outputs else outputs) ≡ map (λ (column : Column). column.name) (if left then first ∷ columns else columns)
left_if true first made outputs columns rest = ap (λ (names : List (List ℕ)). first.name ∷ names) rest
left_if false first made outputs columns rest = rest

left_names : (except : List (List ℕ)) (place : ℕ) (columns : List Column) → names_of (columns_left except place columns) ≡ map (λ (column : Column). column.name) (filter (is_left except) columns)
left_names except place [] = refl
left_names except place (first ∷ more) =
    left_if (is_left except first) first (expr.Column place first.kind) (columns_left except (place + 1) more) (filter (is_left except) more) (left_names except (place + 1) more)

named_names : (made : KindedExpr) (name : Option (List ℕ)) → names_of (option_to_list (option_map (λ (given : List ℕ). select_output (column_of made.kind given) made.expr) name)) ≡ option_to_list name
named_names made None = refl
named_names made (Some name) = refl

kinded_names : (source : List Column) (tree : SqlExpr) (own : Option (List ℕ)) (made : Option KindedExpr) → is_some made ≡ true →
    names_of (option_to_list (option_and_then (named_output source tree own) made)) ≡ option_to_list (out_name source tree own)
kinded_names source tree own None there = absurd (cc)
kinded_names source tree own (Some made) there = named_names made (out_name source tree own)

output_names : (source : List Column) (given : Out) → has_kind source given ≡ true → names_of (out_outputs source given) ≡ out_names source given
output_names source (out.Star except) has = left_names except 0 source
output_names source (out.One tree own) has = kinded_names source tree own (kinded_tree source tree) has

all_names : (source : List Column) (outs : List Out) → list_all (has_kind source) outs ≡ true → names_of (select_outputs source outs) ≡ select_names source outs
all_names source [] all = refl
all_names source (first ∷ more) all =
    let both = both_hold (has_kind source first) (list_all (has_kind source) more) all in
    names_join (out_outputs source first) (select_outputs source more)
    ∙ ap (λ (names : List (List ℕ)). names ++ names_of (select_outputs source more)) (output_names source first both.0)
    ∙ ap (λ (names : List (List ℕ)). out_names source first ++ names) (all_names source more both.1)

unless_parts : {A : Type 0} (fault : Option CheckFault) (made given : A) → given_unless fault made ≡ Ok given → (fault ≡ None) × (made ≡ given)
unless_parts None made given is = (refl, cc)
unless_parts (Some fault) made given is = absurd (cc)

-- the columns that a flow gives differ in name
pub stream_apart : (select : Select) (source : List Column) (given : StreamSelect) → stream_select select source ≡ Ok given → AreApart same_column given.columns
stream_apart select source given is =
    let outputs = select_outputs source select.outs in
    let parts = unless_parts (first_of (stream_checks select source)) (stream_with (filter_over source select.filter) outputs) given is in
    let kinds = neither (outputs_have_kinds source select) (first_of (outputs_are_named select.outs ∷ outputs_differ source select.outs ∷ []))
    (neither (names_are_columns source select) (first_of (outputs_have_kinds source select ∷ outputs_are_named select.outs ∷ outputs_differ source select.outs ∷ []))
    (neither (is_not_grouped select) (first_of (names_are_columns source select ∷ outputs_have_kinds source select ∷ outputs_are_named select.outs ∷ outputs_differ source select.outs ∷ [])) parts.0).1).1 in
    let differ = (neither (outputs_differ source select.outs) None (neither (outputs_are_named select.outs) (first_of (outputs_differ source select.outs ∷ [])) kinds.1).1).0 in
    let has = (both_hold (is_filter source select.filter) (list_all (has_kind source) select.outs) (passes (is_filter source select.filter && list_all (has_kind source) select.outs) None TypeMismatch kinds.0).0).1 in
    subst (λ (made : StreamSelect). AreApart same_column made.columns) parts.1
    (columns_apart (columns_given outputs) (ap first_repeat (all_names source select.outs has) ∙ unmapped Duplicate (first_repeat (select_names source select.outs)) differ))
