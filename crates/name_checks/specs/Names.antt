-- Names that statements use, judged by the datasets that statements declare.
use Rattle.std.specs.Prelude.{ℕ, ◌+◌, Bool, if◌then◌else◌, List, [], ◌∷◌, Option, Some, None, option_map}
use Rattle.std.specs.List.{list_any}
use Rattle.std.specs.Option.{option_or}
use Rattle.sql_tree.specs.declared.statement.Statement.{Statement}
use Rattle.statement_checks.specs.declared.fault.Break.{Break}
use Rattle.statement_checks.specs.declared.fault.CheckFault.TheVariants.{UnknownName, NotStreaming}
use Rattle.statement_checks.specs.Breaks.{broken}
use Rattle.statement_checks.specs.Declares.{dataset_name}
use Rattle.statement_checks.specs.Duplicates.{is_named}
use Rattle.statement_checks.specs.Limits.{Check}
use Rattle.statement_checks.specs.Repeats.{first_of}
use Rattle.name_checks.specs.Sources.{view_name, target_name, source_name}

-- a dataset has the name
abbrev pub has_dataset : List Statement → List ℕ → Bool
has_dataset statements name = list_any (λ other. is_named name (dataset_name other)) statements

-- a view has the name
abbrev pub has_view : List Statement → List ℕ → Bool
has_view statements name = list_any (λ other. is_named name (view_name other)) statements

-- a name, if there is one, is that of a dataset
abbrev pub dataset_known : List Statement → Option (List ℕ) → Check
dataset_known statements None = None
dataset_known statements (Some name) = if has_dataset statements name then None else Some (UnknownName name)

-- a name, if there is one, is not that of a view
abbrev pub target_streams : List Statement → Option (List ℕ) → Check
target_streams statements None = None
target_streams statements (Some name) = if has_view statements name then Some (NotStreaming name) else None

-- the names of a statement, in their order: the target, and then the source
abbrev pub use_checks : List Statement → Statement → List Check
use_checks statements statement =
    dataset_known statements (target_name statement) ∷
    target_streams statements (target_name statement) ∷
    dataset_known statements (source_name statement) ∷ []

abbrev pub name_fault : List Statement → Statement → Check
name_fault statements statement = first_of (use_checks statements statement)

-- the first break in statements that are numbered from here
abbrev pub break_from : List Statement → ℕ → List Statement → Option Break
break_from statements number [] = None
break_from statements number (first ∷ more) = option_or (option_map (broken number) (name_fault statements first)) (break_from statements (number + 1) more)

-- the first break in statements
abbrev pub first_name_break : List Statement → Option Break
first_name_break statements = break_from statements 1 statements
