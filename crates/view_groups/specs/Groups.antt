-- What is kept of the rows of a group.
use Rattle.std.specs.Prelude.{◌≡◌, ◌<◌, ⊤, ℕ, List, [], ◌∷◌, ◌++◌, length, map, filter_map, slice_index_or, Some, Result, Ok, Err}
use Rattle.std.specs.List.{enumerate_from}
use Rattle.value_core.specs.declared.value.Value.TheVariants.{Null}
use Rattle.value_core.specs.Order.{Row}
use Rattle.plan_core.specs.declared.query.Item.{Item}
use Rattle.plan_core.specs.declared.stop.Stop.{Stop}
use Rattle.plan_core.specs.declared.stop.Stop.TheVariants.{SumOverflow}
use Rattle.view_groups.specs.declared.cell.GroupEnd.{GroupEnd}
use Rattle.view_groups.specs.declared.cell.GroupEnd.TheVariants as end
use Rattle.flow_model.specs.Views.{Share, known_values, total, item_value, sum_stop, first_of}
use Rattle.view_groups.specs.declared.cell.Cell.{Cell}
use Rattle.view_groups.specs.declared.group.Group.{Group}
use Rattle.view_groups.specs.Cells.{KeepsCell, AddsValue, TakesValue}

-- a cell for each item keeps the values that the members give it
pub record KeepsCells (items : List Item) (cells : List Cell) (members : List Share) : Type 0 where
  pub long : length cells ≡ length items
  pub each : (at : ℕ) (it : Item) (kept : Cell) → at < length items → KeepsCell (slice_index_or items at it) (slice_index_or cells at kept) (known_values at members)

pub record KeepsGroup (items : List Item) (group : Group) (members : List Share) : Type 0 where
  pub rows : group.rows ≡ length members
  pub cells : KeepsCells items group.cells.items members

-- each cell takes the value at its place in
pub record AddsValues (values : Row) (old new : List Cell) : Type 0 where
  pub long : length new ≡ length old
  pub each : (at : ℕ) (kept : Cell) → at < length old → AddsValue (slice_index_or values at Null) (slice_index_or old at kept) (slice_index_or new at kept)

pub record TakesValues (values : Row) (old new : List Cell) : Type 0 where
  pub long : length new ≡ length old
  pub each : (at : ℕ) (kept : Cell) → at < length old → TakesValue (slice_index_or values at Null) (slice_index_or old at kept) (slice_index_or new at kept)

-- the group has one member more, which gives these values
pub record AddsShare (values : Row) (old new : Group) : Type 0 where
  pub keeps : (items : List Item) (members : List Share) (group : Row) → KeepsGroup items old members → KeepsGroup items new (record { group = group; values = values } ∷ members)

-- the group is without a member that it has, which gives these values
pub record TakesShare (values : Row) (old new : Group) : Type 0 where
  pub keeps : (items : List Item) (members : List Share) (group : Row) → KeepsGroup items old (record { group = group; values = values } ∷ members) → KeepsGroup items new members

-- the result row of a group with these members, and its sums that are no BIGINT
abbrev pub row_of_members : List Item → Row → List Share → Row
row_of_members items key members = map (λ placed. item_value placed.1 key (length members) (known_values placed.0 members)) (enumerate_from 0 items)

abbrev pub stops_of_members : List Item → Row → List Share → List Stop
stops_of_members items key members = filter_map (λ placed. sum_stop key placed.1 (total (known_values placed.0 members))) (enumerate_from 0 items)

-- what is answered for a group: its row, or its first sum that is no BIGINT
abbrev pub GroupAnswers : Row → Group → Result Row GroupEnd → Type 0
GroupAnswers key group (Ok row) = (items : List Item) (members : List Share) → KeepsGroup items group members → (row ≡ row_of_members items key members) × (stops_of_members items key members ≡ [])
GroupAnswers key group (Err (end.NoBig sum)) = (items : List Item) (members : List Share) → KeepsGroup items group members → first_of (stops_of_members items key members) ≡ Some (SumOverflow key sum)
GroupAnswers key group (Err end.Memory) = ⊤

-- members after others joined, one after another
abbrev pub joined_by : List Share → List Share → List Share
joined_by [] members = members
joined_by (share ∷ more) members = joined_by more (share ∷ members)

-- a change of the members that some leave and others join
pub record Patches (old new : Group) (out more : List Share) : Type 0 where
  pub keeps : (items : List Item) (rest : List Share) → KeepsGroup items old (out ++ rest) → KeepsGroup items new (joined_by more rest)

pub record Leaves (old new : Group) (out : List Share) : Type 0 where
  pub keeps : (items : List Item) (rest : List Share) → KeepsGroup items old (out ++ rest) → KeepsGroup items new rest

pub record Joins (old new : Group) (more : List Share) : Type 0 where
  pub keeps : (items : List Item) (members : List Share) → KeepsGroup items old members → KeepsGroup items new (joined_by more members)
