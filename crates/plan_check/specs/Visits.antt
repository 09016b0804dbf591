-- The order in which the datasets of a pipeline are checked.
use Rattle.std.specs.Prelude.{ℕ, ◌+◌, max, nat_eq, if◌then◌else◌, List, [], ◌∷◌, flat_map, position, Option, option_to_list}
use Rattle.std.specs.List.{filter, fold, range_with_len}
use Rattle.sql_tree.specs.declared.statement.Statement.{Statement}
use Rattle.statement_checks.specs.Limits.{is_dataset}
use Rattle.plan_check.specs.declared.visits.Visit.{Visit}

-- the places, from this one on, of the statements that declare datasets
abbrev pub declared_from : ℕ → List Statement → List ℕ
declared_from place [] = []
declared_from place (first ∷ more) = if is_dataset first then place ∷ declared_from (place + 1) more else declared_from (place + 1) more

-- the datasets, by the places of their statements, in declared order
abbrev pub declared_places : List Statement → List ℕ
declared_places statements = declared_from 0 statements

abbrev pub visit_to : ℕ → ℕ → Visit
visit_to place level = record { place = place; level = level }

-- each dataset with its level
abbrev pub visits_with : List ℕ → List ℕ → List Visit
visits_with [] levels = []
visits_with (place ∷ places) [] = []
visits_with (place ∷ places) (level ∷ levels) = visit_to place level ∷ visits_with places levels

-- the datasets of one level, in declared order
abbrev pub of_level : List Visit → ℕ → List Visit
of_level visits level = filter (λ (visit : Visit). nat_eq visit.level level) visits

abbrev pub greatest_level : List Visit → ℕ
greatest_level visits = fold (λ greatest (visit : Visit). max greatest visit.level) 0 visits

-- the levels from 0 to the greatest
abbrev pub levels_in : List Visit → List ℕ
levels_in visits = range_with_len 0 (greatest_level visits + 1)

-- the order in which datasets are checked: by level, and of one level in declared order
abbrev pub by_level : List Visit → List Visit
by_level visits = flat_map (of_level visits) (levels_in visits)

-- the datasets of statements, each with its level, in declared order
abbrev pub visits_of : List Statement → List ℕ → List Visit
visits_of statements levels = visits_with (declared_places statements) levels

-- ---- back to declared order

-- which visit is to the dataset at a place
abbrev pub visit_of : List Visit → ℕ → Option ℕ
visit_of visits place = position (λ (visit : Visit). nat_eq visit.place place) visits

-- which visits are to the datasets at places, in their order
abbrev pub visits_at : List Visit → List ℕ → List ℕ
visits_at visits places = flat_map (λ place. option_to_list (visit_of visits place)) places
