-- What groups give to the result before and after they are touched.
use Rattle.std.specs.Prelude.{◌≡◌, ◌++◌, List, [], ◌∷◌, None, Some, filter, flat_map}
use Rattle.std.specs.Option.{option_or}
use Rattle.value_core.specs.Order.{Row}
use Rattle.plan_core.specs.declared.query.Query.{Query}
use Rattle.plan_core.specs.declared.stop.Stop.TheVariants.{SumOverflow}
use Rattle.flow_model.specs.Views.{Share, first_of, sum_stops}
use Rattle.view_laws.specs.Touched.{is_there, rows_of_groups}
use Rattle.view_laws.specs.Weights.{IsOneBag}
use Rattle.view_groups.specs.declared.groups.Gives.{Gives}
use Rattle.view_groups.specs.declared.groups.Gives.TheVariants as gives
use Rattle.view_groups.specs.declared.groups.Groups.{Groups}
use Rattle.view_groups.specs.declared.groups.Turned.{Turned}
use Rattle.view_groups.specs.AllGroups.{KeepsShares, TouchesGroup}
use Rattle.view_patches.specs.declared.sides.Side.{Side}
use Rattle.view_patches.specs.declared.sides.Sides.{Sides}

-- a side with what one more group gives
abbrev pub Collected : Row → Gives → Side → Side → Type 0
Collected key gives.Nothing old new = (new.rows ≡ old.rows) × (new.stop ≡ old.stop)
Collected key (gives.OneRow row) old new = (new.rows ≡ old.rows ++ row ∷ []) × (new.stop ≡ old.stop)
Collected key (gives.NoBig sum) old new = (new.rows ≡ old.rows) × (new.stop ≡ option_or old.stop (Some (SumOverflow key sum)))

-- one group is touched, and what it gave and gives is put to the two sides
pub record TouchesOne (query : Query) (key : Row) (out more : List Share) (old new : Groups) (sides sides' : Sides) : Type 0 where
  pub turned : Turned
  pub touches : TouchesGroup query key out more old new turned
  pub before : Collected key turned.before sides.before sides'.before
  pub after : Collected key turned.after sides.after sides'.after

-- the shares are those that were there, without those that leave and with those that join
pub record ChangesBag (old outs mores new : List Share) : Type 0 where
  pub rest : List Share
  pub left : IsOneBag old (outs ++ rest)
  pub joined : IsOneBag new (mores ++ rest)

-- a side is what these groups of the shares give
pub record IsSide (query : Query) (shares : List Share) (groups : List Row) (side : Side) : Type 0 where
  pub stop : side.stop ≡ first_of (flat_map (sum_stops query shares) (filter (is_there query shares) groups))
  pub rows : side.stop ≡ None → side.rows ≡ rows_of_groups query shares groups

-- groups that kept some shares keep others, and the sides are what these groups gave and give
pub record TurnsGroups (query : Query) (groups : List Row) (old new : List Share) (kept : Groups) (sides : Sides) : Type 0 where
  pub keeps : KeepsShares query kept new
  pub before : IsSide query old groups sides.before
  pub after : IsSide query new groups sides.after

abbrev pub TurnsAll : Query → List Row → List Share → List Share → Groups → Groups → Sides → Type 0
TurnsAll query groups outs mores before after sides = (old new : List Share) → ChangesBag old outs mores new → KeepsShares query before old → TurnsGroups query groups old new after sides
