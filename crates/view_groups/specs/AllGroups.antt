-- The groups of a query by their keys.
use Rattle.std.specs.Prelude.{◌≡◌, ◌==◌, ◌++◌, ◌||◌, Bool, true, false, not, if◌then◌else◌, None, List, [], cond, IfSome, is_some, Option, Some, ⊤, map, filter_map, flat_map, Result, Ok, Err, ◌∷◌}
use Rattle.std.specs.Option.{option_or}
use Rattle.std.specs.BTreeMap.{is_at}
use Rattle.std.specs.Map.{lookup}
use Rattle.value_core.specs.Order.{Row, row_order, same_row}
use Rattle.plan_core.specs.Sound.{is_empty}
use Rattle.plan_core.specs.declared.query.Item.{Item}
use Rattle.plan_core.specs.declared.query.Query.{Query}
use Rattle.plan_core.specs.declared.stop.Stop.{Stop}
use Rattle.plan_core.specs.declared.stop.Stop.TheVariants.{SumOverflow}
use Rattle.plan_core.specs.declared.stop.StopOr.{StopOr}
use Rattle.plan_core.specs.declared.stop.StopOr.TheVariants as either
use Rattle.flow_model.specs.Views.{Share, share, shares_of, fault_stop, members_of, first_of, group_row, groups_of, sum_stops}
use Rattle.view_laws.specs.Weights.{IsOneBag}
use Rattle.view_groups.specs.declared.group.Group.{Group}
use Rattle.view_groups.specs.declared.cell.GroupEnd.{GroupEnd}
use Rattle.view_groups.specs.declared.cell.GroupEnd.TheVariants as end
use Rattle.view_groups.specs.declared.groups.Gives.{Gives}
use Rattle.view_groups.specs.declared.groups.Groups.{Groups}
use Rattle.view_groups.specs.declared.groups.Turned.{Turned}
use Rattle.view_groups.specs.declared.groups.Gives.TheVariants as gives
use Rattle.view_groups.specs.Groups.{KeepsGroup, row_of_members, stops_of_members}

-- the group of a key, if the map has one
abbrev pub group_at : Row → List (Row × Group) → Option Group
group_at key entries = lookup (is_at (row_order key)) entries

-- whether a group with these members has a result row
abbrev pub has_row : Query → Row → List Share → Bool
has_row query key members = if is_empty query.groups then same_row key [] else not (is_empty members)

-- the map has the groups that have a result row, and keeps of each what its members give it
pub record GroupsBy (query : Query) (entries : List (Row × Group)) (members : Row → List Share) : Type 0 where
  pub there : (key : Row) → is_some (group_at key entries) ≡ has_row query key (members key)
  pub keeps : (key : Row) → IfSome (group_at key entries) (λ group. KeepsGroup query.items group (members key))

-- the same of the groups of a list of shares
abbrev pub GroupsFor : Query → List (Row × Group) → List Share → Type 0
GroupsFor query entries shares = GroupsBy query entries (λ key. members_of key shares)

-- the groups keep what these shares give
abbrev pub KeepsShares : Query → Groups → List Share → Type 0
KeepsShares query groups shares = GroupsFor query groups.map.entries shares

-- one map is the other without this key
pub record IsWithout (key : Row) (old new : List (Row × Group)) : Type 0 where
  pub at : (other : Row) → group_at other new ≡ cond (is_at (row_order key) other) None (group_at other old)

abbrev pub FromOption : List Item → Option Group → Group → Type 0
FromOption items None group = KeepsGroup items group []
FromOption items (Some old) group = group ≡ old

-- the group that the map had, or one of no row
abbrev pub GroupFrom : List Item → Row → List (Row × Group) → Group → Type 0
GroupFrom items key entries group = FromOption items (group_at key entries) group

-- a query without GROUP BY has the empty row for its one group
abbrev pub IsKeyed : Query → Share → Type 0
IsKeyed query share = is_empty query.groups ≡ true → share.group ≡ []

-- what a group gives to the result
abbrev pub GivesRow : List Item → Row → List Share → Bool → Gives → Type 0
GivesRow items key members there gives.Nothing = there ≡ false
GivesRow items key members there (gives.OneRow row) = (there ≡ true) × (row ≡ row_of_members items key members) × (stops_of_members items key members ≡ [])
GivesRow items key members there (gives.NoBig sum) = (there ≡ true) × (first_of (stops_of_members items key members) ≡ Some (SumOverflow key sum))

-- a group without GROUP BY, or one with a row, stands under its key again
pub record PutsBack (alone : Bool) (key : Row) (group : Group) (old new : List (Row × Group)) : Type 0 where
  pub at : (other : Row) → group_at other new ≡ cond (is_at (row_order key) other) (if alone || not (group.rows == 0) then Some group else group_at other old) (group_at other old)

-- some shares of a group leave and others join; the other groups stay
pub record MovesMembers (key : Row) (out more : List Share) (old new : Row → List Share) : Type 0 where
  pub rest : List Share
  pub left : IsOneBag (old key) (out ++ rest)
  pub joined : IsOneBag (new key) (more ++ rest)
  pub others : (other : Row) → same_row key other ≡ false → new other ≡ old other

-- what the change of one group does to the groups and to the result
pub record Touches (query : Query) (key : Row) (out more : List Share) (old new : List (Row × Group)) (before after : Gives) : Type 0 where
  pub groups : (members members' : Row → List Share) → (is_empty query.groups ≡ true → key ≡ []) → MovesMembers key out more members members' → GroupsBy query old members → GroupsBy query new members'
  pub row_before : (members members' : Row → List Share) → (is_empty query.groups ≡ true → key ≡ []) → MovesMembers key out more members members' → GroupsBy query old members
      → GivesRow query.items key (members key) (has_row query key (members key)) before
  pub row_after : (members members' : Row → List Share) → (is_empty query.groups ≡ true → key ≡ []) → MovesMembers key out more members members' → GroupsBy query old members
      → GivesRow query.items key (members' key) (has_row query key (members' key)) after

abbrev pub TouchesGroup : Query → Row → List Share → List Share → Groups → Groups → Turned → Type 0
TouchesGroup query key out more old new turned = Touches query key out more old.map.entries new.map.entries turned.before turned.after

-- ---- all groups in the order of their keys

-- each group keeps what these members give it
abbrev pub EachKeeps : Query → (Row → List Share) → List (Row × Group) → Type 0
EachKeeps query members [] = ⊤
EachKeeps query members (e ∷ entries) = KeepsGroup query.items e.1 (members e.0) × EachKeeps query members entries

-- the rows of groups by their keys, and their sums that are no BIGINT
abbrev pub rows_by : Query → (Row → List Share) → List (Row × Group) → List Row
rows_by query members entries = map (λ e. row_of_members query.items e.0 (members e.0)) entries

abbrev pub stops_by : Query → (Row → List Share) → List (Row × Group) → List Stop
stops_by query members entries = flat_map (λ e. stops_of_members query.items e.0 (members e.0)) entries

-- what is answered for all groups: their rows, or the first sum of the least group that is no BIGINT
abbrev pub AllAnswers : List (Row × Group) → Result (List Row) StopOr → Type 0
AllAnswers entries (Ok rows) = (query : Query) (members : Row → List Share) → EachKeeps query members entries → (rows ≡ rows_by query members entries) × (stops_by query members entries ≡ [])
AllAnswers entries (Err (either.Stop stop)) = (query : Query) (members : Row → List Share) → EachKeeps query members entries → first_of (stops_by query members entries) ≡ Some stop
AllAnswers entries (Err either.Memory) = ⊤

-- the stop by what a group has in place of a row
abbrev pub StopFor : Row → GroupEnd → StopOr → Type 0
StopFor key (end.NoBig sum) (either.Stop stop) = stop ≡ SumOverflow key sum
StopFor key end.Memory (either.Stop stop) = ⊥
StopFor key stop either.Memory = ⊤

-- what is answered for all groups of these shares: their rows, or the first sum of the least group that is no BIGINT
abbrev pub ResultAnswers : Query → List Share → Result (List Row) StopOr → Type 0
ResultAnswers query shares (Ok rows) = (rows ≡ map (group_row query shares) (groups_of query shares)) × (flat_map (sum_stops query shares) (groups_of query shares) ≡ [])
ResultAnswers query shares (Err (either.Stop stop)) = first_of (flat_map (sum_stops query shares) (groups_of query shares)) ≡ Some stop
ResultAnswers query shares (Err either.Memory) = ⊤

-- the fault of the first row that has one
abbrev pub first_fault : Query → List Row → Option Stop
first_fault query rows = first_of (filter_map (λ row. fault_stop row (share query row)) rows)

-- the first sum of the least group that is no BIGINT
abbrev pub first_sum : Query → List Share → Option Stop
first_sum query shares = first_of (flat_map (sum_stops query shares) (groups_of query shares))

-- what is answered for all groups of source rows: their rows, or the first fault, else that sum
abbrev pub RowsAnswers : Query → List Row → Result (List Row) StopOr → Type 0
RowsAnswers query rows (Ok result) = (first_fault query rows ≡ None) × (first_sum query (shares_of query rows) ≡ None) × (result ≡ map (group_row query (shares_of query rows)) (groups_of query (shares_of query rows)))
RowsAnswers query rows (Err (either.Stop stop)) = option_or (first_fault query rows) (first_sum query (shares_of query rows)) ≡ Some stop
RowsAnswers query rows (Err either.Memory) = ⊤
