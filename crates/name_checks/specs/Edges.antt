-- The graph of datasets that read one another.
use Rattle.std.specs.Prelude.{◌≡◌, ℕ, List, [], slice_index_or, flat_map, map, position, Option, option_and_then, option_map, option_to_list}
use Rattle.sql_tree.specs.declared.statement.Statement.{Statement}
use Rattle.value_core.specs.NameFold.{same_name}
use Rattle.graph_check.specs.Paths.{IsCyclePath}
use Rattle.statement_checks.specs.Declares.{dataset_name}
use Rattle.name_checks.specs.declared.edges.LevelEnd.{LevelEnd}
use Rattle.name_checks.specs.declared.edges.LevelEnd.TheVariants.{Cycle, Memory}
use Rattle.name_checks.specs.Sources.{reader_name, source_name}

-- the names of the datasets, in declared order
abbrev pub dataset_names : List Statement → List (List ℕ)
dataset_names statements = flat_map (λ statement. option_to_list (dataset_name statement)) statements

-- the place of the dataset of a name
abbrev pub dataset_place : List (List ℕ) → List ℕ → Option ℕ
dataset_place names name = position (same_name name) names

-- a reader and its source, by their places
abbrev pub reading_edge : List (List ℕ) → Statement → Option (ℕ × ℕ)
reading_edge names statement =
    option_and_then (λ reader. option_map (λ source. (reader, source)) (option_and_then (dataset_place names) (source_name statement))) (option_and_then (dataset_place names) (reader_name statement))

-- what reads what, in declared order
abbrev pub edges_among : List (List ℕ) → List Statement → List (ℕ × ℕ)
edges_among names statements = flat_map (λ statement. option_to_list (reading_edge names statement)) statements

-- what reads what among the datasets of statements
abbrev pub reading_edges : List Statement → List (ℕ × ℕ)
reading_edges statements = edges_among (dataset_names statements) statements

abbrev pub dataset_name_at : List (List ℕ) → ℕ → List ℕ
dataset_name_at names place = slice_index_or names place []

-- the names of the datasets in the path of a cycle
abbrev pub IsNamedPath : List Statement → List (List ℕ) → Type 0
IsNamedPath statements path = (places : List ℕ) × IsCyclePath (reading_edges statements) places × (path ≡ map (dataset_name_at (dataset_names statements)) places)

-- a fact of the path of a cycle
abbrev pub IfNamedCycle : LevelEnd → (List (List ℕ) → Type 0) → Type 0
IfNamedCycle (Cycle path) P = P path
IfNamedCycle Memory P = Unit {0}
