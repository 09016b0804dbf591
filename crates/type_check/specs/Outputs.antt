-- The columns that outputs give, over the columns that are read.
use Rattle.std.specs.Prelude.{ℕ, ◌+◌, Bool, ◌&&◌, if◌then◌else◌, List, [], ◌∷◌, ◌++◌, map, flat_map, position, slice_get, take, Option, Some, None, unwrap_or, option_map, option_and_then, option_to_list}
use Rattle.sql_tree.specs.declared.statement.Out.{Out}
use Rattle.sql_tree.specs.declared.statement.Out.TheVariants as out
use Rattle.value_core.specs.declared.schema.Column.{Column}
use Rattle.value_core.specs.NameFold.{same_name}
use Rattle.row_expr.specs.declared.expr.Expr.{Expr}
use Rattle.row_expr.specs.declared.expr.Expr.TheVariants as expr
use Rattle.row_expr.specs.Kinds.{same_kind}
use Rattle.expr_typing.specs.Typing.{first_of, first_unknown as unknown_in, has_column}
use Rattle.type_check.specs.declared.outputs.Output.{Output}
use Rattle.type_check.specs.Form.{column, plain_name}

-- ---- the outputs of a query

abbrev pub output : ℕ → Column → Output
output place gives = record { place = place; column = gives }

-- each column, from this place on
abbrev pub every_from : ℕ → List Column → List Output
every_from place [] = []
every_from place (first ∷ more) = output place first ∷ every_from (place + 1) more

-- the first column of that name but for the case of ASCII letters
abbrev pub place_of : List Column → List ℕ → Option ℕ
place_of source name = position (λ found. same_name found.name name) source

-- a column under a name of its own, or else in the spelling of what is read
abbrev pub under : Option (List ℕ) → Column → Column
under own found = column (unwrap_or own found.name) found.kind

abbrev pub output_named : List Column → Option (List ℕ) → List ℕ → Option Output
output_named source own name = option_and_then (λ place. option_map (λ found. output place (under own found)) (slice_get source place)) (place_of source name)

-- all columns for `*`, else the column that is named
abbrev pub outputs_by : List Column → Out → List Output
outputs_by source (out.Star except) = every_from 0 source
outputs_by source (out.One tree own) = option_to_list (option_and_then (output_named source own) (plain_name tree))

abbrev pub outputs_of : List Column → List Out → List Output
outputs_of source outs = flat_map (outputs_by source) outs

-- as many of a list as are looked at: the most that a table may have, and one more
abbrev pub looked_at : {A : Type 0} → List A → List A
looked_at list = take 257 list

-- all of them, where they are not too many
abbrev pub outputs_seen : List Column → List Out → List Output
outputs_seen source outs = looked_at (outputs_of source outs)

abbrev pub columns_of : List Output → List Column
columns_of outputs = map (λ each. each.column) outputs

-- by place and kind
abbrev pub expr_of : Output → Expr
expr_of each = expr.Column each.place each.column.kind

abbrev pub exprs_of : List Output → List Expr
exprs_of outputs = map expr_of outputs

-- ---- names

-- the first name in an output that no column has
abbrev pub unknown_by : List Column → Out → Option (List ℕ)
unknown_by source (out.Star except) = None
unknown_by source (out.One tree own) = unknown_in source tree

abbrev pub first_unknown : List Column → List Out → Option (List ℕ)
first_unknown source outs = first_of (map (unknown_by source) outs)

-- among columns behind others, the name of the first whose name an earlier one has
abbrev pub repeat_behind : List Column → List Column → Option (List ℕ)
repeat_behind before [] = None
repeat_behind before (first ∷ more) = if has_column before first.name then Some first.name else repeat_behind (before ++ first ∷ []) more

abbrev pub first_repeat : List Column → Option (List ℕ)
first_repeat = repeat_behind []

-- ---- whether a table has the columns that are declared

abbrev pub same_column : Column → Column → Bool
same_column a b = same_name a.name b.name && same_kind a.kind b.kind

-- the name of the first column of the table that is not the declared one, or of the first one too many on either side
abbrev pub first_difference : List Column → List Column → Option (List ℕ)
first_difference [] [] = None
first_difference [] (found ∷ table) = Some found.name
first_difference (wanted ∷ declared) [] = Some wanted.name
first_difference (wanted ∷ declared) (found ∷ table) = if same_column wanted found then first_difference declared table else Some found.name
