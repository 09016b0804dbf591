-- What the select of a streaming flow gives, or the first check that it breaks.
use Rattle.std.specs.Prelude.{Bool, ◌&&◌, if◌then◌else◌, List, [], ◌∷◌, Option, Some, None, Result, Ok, Err}
use Rattle.std.specs.List.{list_all}
use Rattle.value_core.specs.declared.schema.Column.{Column}
use Rattle.sql_tree.specs.declared.statement.Select.{Select}
use Rattle.row_expr.specs.declared.expr.Expr.{Expr}
use Rattle.statement_checks.specs.declared.fault.CheckFault.{CheckFault}
use Rattle.statement_checks.specs.declared.fault.CheckFault.TheVariants.{AggregateInStream, TypeMismatch}
use Rattle.statement_checks.specs.Limits.{Check}
use Rattle.statement_checks.specs.Repeats.{first_of}
use Rattle.select_names.specs.Aggregates.{is_grouped_select}
use Rattle.select_names.specs.SelectNames.{names_are_columns, outputs_are_named, outputs_differ}
use Rattle.select_checks.specs.declared.outputs.SelectOutput.{SelectOutput}
use Rattle.select_checks.specs.declared.stream.StreamSelect.{StreamSelect}
use Rattle.select_checks.specs.Kinded.{filter_over, is_filter}
use Rattle.select_checks.specs.Outputs.{select_outputs, exprs_given, columns_given, has_kind}

-- that, where nothing is broken
abbrev pub given_unless : {A : Type 0} → Check → A → Result A CheckFault
given_unless None given = Ok given
given_unless (Some fault) given = Err fault

-- it has no GROUP BY and no aggregate
abbrev pub is_not_grouped : Select → Check
is_not_grouped select = if is_grouped_select select then Some AggregateInStream else None

-- WHERE is a condition, and each output has a kind
abbrev pub outputs_have_kinds : List Column → Select → Check
outputs_have_kinds source select = if is_filter source select.filter && list_all (has_kind source) select.outs then None else Some TypeMismatch

-- in their order
abbrev pub stream_checks : Select → List Column → List Check
stream_checks select source =
    is_not_grouped select ∷
    names_are_columns source select ∷
    outputs_have_kinds source select ∷
    outputs_are_named select.outs ∷
    outputs_differ source select.outs ∷ []

abbrev pub stream_with : Option Expr → List SelectOutput → StreamSelect
stream_with filter outputs = record { filter = filter; outputs = exprs_given outputs; columns = columns_given outputs }

-- what the select of a streaming flow gives over the columns that it reads, or else the fault of the first check that it breaks
abbrev pub stream_select : Select → List Column → Result StreamSelect CheckFault
stream_select select source = given_unless (first_of (stream_checks select source)) (stream_with (filter_over source select.filter) (select_outputs source select.outs))
