-- The result rows of some of a query's groups.
use Rattle.std.specs.Prelude.{◌≡◌, List, [], Bool, not, if◌then◌else◌, map, filter}
use Rattle.value_core.specs.Bags.{count_of, IsInOrder}
use Rattle.value_core.specs.Order.{Row, same_row}
use Rattle.plan_core.specs.declared.query.Query.{Query}
use Rattle.plan_core.specs.Sound.{is_empty}
use Rattle.flow_model.specs.Views.{Share, members_of, group_row}
use Rattle.std.specs.Prelude.{◌≤◌}

-- whether a group has a result row: it has a member, or it is the one group of a query without GROUP BY
abbrev pub is_there : Query → List Share → Row → Bool
is_there query shares group = if is_empty query.groups then same_row group [] else not (is_empty (members_of group shares))

-- the result rows of these groups
abbrev pub rows_of_groups : Query → List Share → List Row → List Row
rows_of_groups query shares groups = map (group_row query shares) (filter (is_there query shares) groups)

-- these groups, each once and in row order, are all that have a member among the shares that go or come
pub record Touches (touched : List Row) (out more : List Share) : Type 0 where
  pub sorted : IsInOrder touched
  pub once : (group : Row) → count_of group touched ≤ 1
  pub none_out : (group : Row) → count_of group touched ≡ 0 → members_of group out ≡ []
  pub none_more : (group : Row) → count_of group touched ≡ 0 → members_of group more ≡ []
