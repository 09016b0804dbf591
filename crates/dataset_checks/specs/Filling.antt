-- The flows that fill a table, by the places of their statements.
use Rattle.std.specs.Prelude.{ℕ, ◌+◌, ◌&&◌, nat_lt, Bool, true, false, if◌then◌else◌, List, [], ◌∷◌, ◌++◌, length, slice_get, Option, Some, None}
use Rattle.std.specs.List.{list_any}
use Rattle.value_core.specs.NameFold.{same_name}
use Rattle.sql_tree.specs.declared.statement.Select.{Select}
use Rattle.sql_tree.specs.declared.statement.Statement.{Statement}
use Rattle.sql_tree.specs.declared.statement.Statement.TheVariants as statement

-- whether a statement is a flow of its own into the table of that name
abbrev pub fills : List ℕ → Statement → Bool
fills table (statement.Table name items select) = false
fills table (statement.View name items select) = false
fills table (statement.Insert flow target select) = same_name target table
fills table (statement.Cdc flow feed) = same_name feed.target table

-- the places, from this one on, of such flows
abbrev pub fillers_from : List ℕ → ℕ → List Statement → List ℕ
fillers_from table place [] = []
fillers_from table place (first ∷ more) = if fills table first then place ∷ fillers_from table (place + 1) more else fillers_from table (place + 1) more

-- the statement of the dataset of that name at this place, and those of the flows of their own into it
abbrev pub dataset_places : List Statement → ℕ → List ℕ → List ℕ
dataset_places statements place name = place ∷ fillers_from name 0 statements

-- the own AS of the table at this place
abbrev pub own_places : ℕ → Option Select → List ℕ
own_places place None = []
own_places place (Some select) = place ∷ []

-- the flows that fill the table of that name at this place: its own AS, and then the flows of their own in declared order
abbrev pub flow_places : List Statement → ℕ → List ℕ → Option Select → List ℕ
flow_places statements place table select = own_places place select ++ fillers_from table 0 statements

abbrev pub is_feed : Statement → Bool
is_feed (statement.Table name items select) = false
is_feed (statement.View name items select) = false
is_feed (statement.Insert flow target select) = false
is_feed (statement.Cdc flow feed) = true

abbrev pub is_feed_there : Option Statement → Bool
is_feed_there None = false
is_feed_there (Some flow) = is_feed flow

-- whether one of the flows at places is a change feed
abbrev pub has_feed : List Statement → List ℕ → Bool
has_feed statements places = list_any (λ place. is_feed_there (slice_get statements place)) places

-- whether one of these flows is a change feed, and there is another one
abbrev pub are_mixed : List Statement → List ℕ → Bool
are_mixed statements places = nat_lt 1 (length places) && has_feed statements places
