-- The names that a select reads, and those that it gives.
use Rattle.std.specs.Prelude.{ℕ, ◌+◌, Bool, true, false, not, ◌&&◌, List, map, filter, flat_map, find, position, Option, Some, None, is_none, option_map, option_and_then, option_to_list}
use Rattle.std.specs.List.{list_any}
use Rattle.std.specs.Option.{option_or}
use Rattle.sql_tree.specs.declared.expr.SqlArm.{SqlArm}
use Rattle.sql_tree.specs.declared.expr.SqlExpr.{SqlExpr}
use Rattle.sql_tree.specs.declared.expr.SqlExpr.TheOpen.{SqlExpr-F}
use Rattle.sql_tree.specs.declared.expr.SqlExpr.TheOpen as form
use Rattle.sql_tree.specs.declared.expr.SqlExpr.TheViews.{out-SqlExpr}
use Rattle.sql_tree.specs.declared.statement.Out.{Out}
use Rattle.sql_tree.specs.declared.statement.Out.TheVariants as out
use Rattle.sql_tree.specs.declared.statement.Select.{Select}
use Rattle.value_core.specs.declared.schema.Column.{Column}
use Rattle.value_core.specs.NameFold.{same_name}
use Rattle.expr_typing.specs.Typing.{if_unknown, first_unknown}
use Rattle.statement_checks.specs.declared.fault.CheckFault.TheVariants.{UnknownName, NoName, Duplicate}
use Rattle.statement_checks.specs.Limits.{Check}
use Rattle.statement_checks.specs.Repeats.{first_of, first_repeat}

-- ---- the names that are read

abbrev pub unknown_in_out : List Column → Out → Option (List ℕ)
unknown_in_out source (out.Star except) = first_of (map (if_unknown source) except)
unknown_in_out source (out.One tree own) = first_unknown source tree

abbrev pub unknown_in_filter : List Column → Option SqlExpr → Option (List ℕ)
unknown_in_filter source None = None
unknown_in_filter source (Some tree) = first_unknown source tree

-- the first name in the text that no column has: in the outputs and behind EXCEPT, then in WHERE, then in GROUP BY
abbrev pub unknown_in_select : List Column → Select → Option (List ℕ)
unknown_in_select source select = option_or (first_of (map (unknown_in_out source) select.outs)) (option_or (unknown_in_filter source select.filter) (first_of (map (first_unknown source) select.groups)))

-- each name is that of a column
abbrev pub names_are_columns : List Column → Select → Check
names_are_columns source select = option_map UnknownName (unknown_in_select source select)

-- ---- the names of outputs

abbrev pub column_name_at : SqlExpr-F SqlExpr SqlArm → Option (List ℕ)
column_name_at (form.Name name) = Some name
column_name_at other = None

-- the name, where an expression is a plain column
abbrev pub column_name : SqlExpr → Option (List ℕ)
column_name tree = column_name_at (out-SqlExpr tree)

-- the name of a column as the source spells it
abbrev pub source_spelling : List Column → List ℕ → Option (List ℕ)
source_spelling source name = option_map (λ found. found.name) (find (λ found. same_name found.name name) source)

-- the name of an output: its own, or else that of the column that it is
abbrev pub out_name : List Column → SqlExpr → Option (List ℕ) → Option (List ℕ)
out_name source tree (Some own) = Some own
out_name source tree None = option_and_then (source_spelling source) (column_name tree)

-- whether `* EXCEPT` leaves a column
abbrev pub is_left : List (List ℕ) → Column → Bool
is_left except column = not (list_any (same_name column.name) except)

abbrev pub out_names : List Column → Out → List (List ℕ)
out_names source (out.Star except) = map (λ column. column.name) (filter (is_left except) source)
out_names source (out.One tree own) = option_to_list (out_name source tree own)

-- the names of all outputs in order
abbrev pub select_names : List Column → List Out → List (List ℕ)
select_names source outs = flat_map (out_names source) outs

-- an expression that is no plain column and has no name
abbrev pub is_unnamed : Out → Bool
is_unnamed (out.Star except) = false
is_unnamed (out.One tree own) = is_none own && is_none (column_name tree)

-- each output has a name; the fault numbers outputs from 1, where `*` is one
abbrev pub outputs_are_named : List Out → Check
outputs_are_named outs = option_map (λ place. NoName (place + 1)) (position is_unnamed outs)

-- no two outputs have one name; the fault spells the first that an earlier one has
abbrev pub outputs_differ : List Column → List Out → Check
outputs_differ source outs = option_map Duplicate (first_repeat (select_names source outs))
