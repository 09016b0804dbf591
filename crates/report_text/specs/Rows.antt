-- The rows of a table as they are printed.
use Rattle.std.specs.Prelude.{ℕ, List, [], ◌∷◌, ◌++◌, Bool, true, false, codes}
use Rattle.std.specs.Fmt.{signed_decimal}
use Rattle.std.specs.List.{flat_map}
use Rattle.value_core.specs.declared.schema.Column.{Column}
use Rattle.value_core.specs.declared.value.Value.{Value}
use Rattle.value_core.specs.declared.value.Value.TheVariants.{Null, Bool as Truth, Int, Big, Str}
use Rattle.value_core.specs.Order.{Row}
use Rattle.report_text.specs.Words.{print_line, print_word}

abbrev pub truth_word : Bool → List ℕ
truth_word true = codes "true"
truth_word false = codes "false"

-- `\N` for NULL, a truth, decimal digits with a leading `-`, or the string
abbrev pub print_value : Value → List ℕ
print_value Null = 92 ∷ 78 ∷ []
print_value (Truth truth) = truth_word truth
print_value (Int number) = signed_decimal number
print_value (Big number) = signed_decimal number
print_value (Str text) = print_word text

-- values behind another one, each behind a `|`
abbrev pub more_values : List Value → List ℕ
more_values values = flat_map (λ value. codes "|" ++ print_value value) values

-- the values of a row, joined by `|`
abbrev pub print_row : Row → List ℕ
print_row [] = []
print_row (first ∷ more) = print_value first ++ more_values more

-- names of columns behind another one
abbrev pub more_names : List Column → List ℕ
more_names columns = flat_map (λ column. codes "|" ++ print_word column.name) columns

-- the names of columns as a row
abbrev pub print_names : List Column → List ℕ
print_names [] = []
print_names (first ∷ more) = print_word first.name ++ more_names more

-- rows, one a line
abbrev pub print_rows : List Row → List ℕ
print_rows rows = flat_map (λ row. print_line (print_row row)) rows

-- a table: the names of its columns as a row, and then its rows
abbrev pub print_table : List Column → List Row → List ℕ
print_table columns rows = print_line (print_names columns) ++ print_rows rows
