-- Groups that are touched one after another, by the members of each.
use Rattle.std.specs.Prelude.{◌≡◌, ◌++◌, Bool, true, List, [], None, Option, Some, filter, flat_map, is_some, map}
use Rattle.std.specs.List.Sorted.{IsStrictlySortedBy}
use Rattle.std.specs.Map.{keys_of}
use Rattle.std.specs.Option.{option_or}
use Rattle.value_core.specs.Order.{Row, row_order}
use Rattle.plan_core.specs.Sound.{is_empty}
use Rattle.plan_core.specs.declared.query.Query.{Query}
use Rattle.plan_core.specs.declared.stop.Stop.{Stop}
use Rattle.flow_model.specs.Views.{Share, first_of}
use Rattle.view_laws.specs.Weights.{IsOneBag}
use Rattle.view_groups.specs.AllGroups.{GroupsBy, has_row}
use Rattle.view_groups.specs.Groups.{row_of_members, stops_of_members}
use Rattle.view_groups.specs.declared.groups.Groups.{Groups}
use Rattle.view_patches.specs.declared.patch.Patch.{Patch}
use Rattle.view_patches.specs.declared.sides.Side.{Side}
use Rattle.view_patches.specs.declared.sides.Sides.{Sides}
use Rattle.view_patches.specs.Patches.{patch_at, goers, comers}
use Rattle.view_patches.specs.Sides.{ChangesBag}

-- the members of a group change by its patch, and those of a group without one are the same bag
abbrev pub MovesBy : Bool → Option Patch → List Share → List Share → Type 0
MovesBy back None old new = IsOneBag old new
MovesBy back (Some patch) old new = ChangesBag old (goers back patch) (comers back patch) new

-- the members of all groups, and without GROUP BY a patch of the one group alone
pub record MovesAll (query : Query) (back : Bool) (entries : List (Row × Patch)) (old new : Row → List Share) : Type 0 where
  pub at : (key : Row) → MovesBy back (patch_at key entries) (old key) (new key)
  pub keyed : (key : Row) → is_some (patch_at key entries) ≡ true → is_empty query.groups ≡ true → key ≡ []

-- the rows and the sums that are no BIGINT of those of some groups that have a row
abbrev pub rows_of_keys : Query → (Row → List Share) → List Row → List Row
rows_of_keys query members keys = map (λ key. row_of_members query.items key (members key)) (filter (λ key. has_row query key (members key)) keys)

abbrev pub stops_of_keys : Query → (Row → List Share) → List Row → List Stop
stops_of_keys query members keys = flat_map (λ key. stops_of_members query.items key (members key)) (filter (λ key. has_row query key (members key)) keys)

-- a side has what the groups gave that aren't left any more
pub record Collects (query : Query) (members : Row → List Share) (all left : List Row) (side : Side) : Type 0 where
  pub stop : option_or side.stop (first_of (stops_of_keys query members left)) ≡ first_of (stops_of_keys query members all)
  pub rows : first_of (stops_of_keys query members all) ≡ None → side.rows ++ rows_of_keys query members left ≡ rows_of_keys query members all

-- where the members of all groups change by the patches, the groups keep the new ones, and the sides are theirs
pub record Walked (query : Query) (keys : List Row) (old new : Row → List Share) (kept : Groups) (sides : Sides) : Type 0 where
  pub groups : GroupsBy query kept.map.entries new
  pub before : Collects query old keys [] sides.before
  pub after : Collects query new keys [] sides.after

abbrev pub WalksAll : Query → Bool → List (Row × Patch) → Groups → Groups → Sides → Type 0
WalksAll query back entries before after sides = IsStrictlySortedBy row_order (keys_of entries) → (old new : Row → List Share) → MovesAll query back entries old new → GroupsBy query before.map.entries old
    → Walked query (keys_of entries) old new after sides

-- no group gave anything
abbrev pub IsNothing : Sides → Type 0
IsNothing sides = (sides.before.rows ≡ []) × (sides.before.stop ≡ None) × (sides.after.rows ≡ []) × (sides.after.stop ≡ None)
