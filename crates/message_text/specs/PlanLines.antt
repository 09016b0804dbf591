-- What is printed of a checked plan.
use Rattle.std.specs.Prelude.{ℕ, ◌+◌, max, nat_eq, List, [], ◌∷◌, ◌++◌, codes}
use Rattle.std.specs.Fmt.{decimal}
use Rattle.std.specs.List.{filter, flat_map, fold, range_with_len}
use Rattle.value_core.specs.declared.schema.Column.{Column}
use Rattle.value_core.specs.declared.value.Kind.{Kind}
use Rattle.value_core.specs.declared.value.Kind.TheVariants as kind
use Rattle.plan_core.specs.declared.plan.Body.{Body}
use Rattle.plan_core.specs.declared.plan.Body.TheVariants as body
use Rattle.plan_core.specs.declared.plan.Dataset.{Dataset}
use Rattle.report_text.specs.Words.{print_line, print_word}

-- ---- a dataset

abbrev pub kind_word : Kind → List ℕ
kind_word kind.Bool = codes "BOOLEAN"
kind_word kind.Int = codes "INT"
kind_word kind.Big = codes "BIGINT"
kind_word kind.Str = codes "STRING"

abbrev pub column_text : Column → List ℕ
column_text column = print_word column.name ++ (codes " " ++ kind_word column.kind)

-- columns behind another one
abbrev pub more_columns : List Column → List ℕ
more_columns columns = flat_map (λ column. codes ", " ++ column_text column) columns

abbrev pub columns_text : List Column → List ℕ
columns_text [] = []
columns_text (first ∷ more) = column_text first ++ more_columns more

abbrev pub body_word : Body → List ℕ
body_word (body.Append flows) = codes "streaming table "
body_word (body.Cdc feed) = codes "streaming table "
body_word (body.View query) = codes "materialized view "

-- what a dataset is, its name and its level
abbrev pub dataset_head : Dataset → List ℕ
dataset_head dataset = (body_word dataset.body ++ print_word dataset.name) ++ (codes " level " ++ decimal dataset.level)

abbrev pub dataset_line : Dataset → List ℕ
dataset_line dataset = print_line (dataset_head dataset ++ (codes ": " ++ columns_text dataset.columns))

-- ---- the datasets of a plan

-- the datasets of one level, in declared order
abbrev pub of_level : List Dataset → ℕ → List Dataset
of_level plan level = filter (λ (dataset : Dataset). nat_eq dataset.level level) plan

abbrev pub greatest_level : List Dataset → ℕ
greatest_level plan = fold (λ greatest (dataset : Dataset). max greatest dataset.level) 0 plan

-- the lines of the datasets of one level
abbrev pub level_lines : List Dataset → ℕ → List ℕ
level_lines plan level = flat_map dataset_line (of_level plan level)

-- a line a dataset, by level from 0 to the greatest, and of one level in declared order
abbrev pub plan_lines : List Dataset → List ℕ
plan_lines plan = flat_map (level_lines plan) (range_with_len 0 (greatest_level plan + 1))
