-- What a view stands for, and what a turn of it answers.
use Rattle.std.specs.Prelude.{◌≡◌, ⊤, ◌++◌, Bool, true, false, if◌then◌else◌, IfOk, List, [], None, Option, Some, Result, Ok, Err}
use Rattle.value_core.specs.declared.change.Change.{Change}
use Rattle.value_core.specs.Bags.{changed, in_row_order, net_change}
use Rattle.value_core.specs.Changes.{Holds, IsChange}
use Rattle.value_core.specs.Order.{Row}
use Rattle.plan_core.specs.Sound.{is_grouped}
use Rattle.plan_core.specs.declared.expectation.Expectation.{Expectation}
use Rattle.plan_core.specs.declared.query.Query.{Query}
use Rattle.plan_core.specs.declared.stop.StopOr.{StopOr}
use Rattle.plan_core.specs.declared.stop.StopOr.TheVariants as either
use Rattle.flow_model.specs.Views.{Share, Viewed, shares_of, viewed}
use Rattle.view_groups.specs.declared.groups.Groups.{Groups}
use Rattle.view_groups.specs.AllGroups.{KeepsShares}
use Rattle.view_patches.specs.Patches.{groups_with}
use Rattle.view_upkeep.specs.declared.settling.Turn.{Turn}
use Rattle.view_upkeep.specs.declared.view.View.{View}

-- a query that groups has its groups, and another has none
abbrev pub KeepsBy : Bool → Option Groups → Query → List Share → Type 0
KeepsBy true (Some groups) query shares = KeepsShares query groups shares
KeepsBy false None query shares = ⊤
KeepsBy grouped groups query shares = ⊥

-- a view is kept for these source rows: it has their groups, and where nothing stops it the counts of its result
pub record StandsFor (query : Query) (xs : List Expectation) (view : View) (rows : List Row) : Type 0 where
  pub groups : KeepsBy (is_grouped query) view.groups query (shares_of query (in_row_order rows))
  pub counts : IfOk (viewed query xs rows) (λ held. view.counts ≡ held.counts)

-- a view without a stop over some rows, and a change of rows that are there
pub record MayTurn (query : Query) (xs : List Expectation) (rows : List Row) (change : Change) (before : Viewed) : Type 0 where
  pub stands : viewed query xs rows ≡ Ok before
  pub form : IsChange change
  pub held : Holds rows change.removed

-- the rows and the counts of a turn are those that the view's definition gives after the change
pub record TurnsTo (query : Query) (xs : List Expectation) (rows : List Row) (delta : Change) (before : Viewed) (turn : Turn) : Type 0 where
  pub after : Viewed
  pub is : viewed query xs (changed rows delta) ≡ Ok after
  pub change : turn.change ≡ net_change before.rows after.rows
  pub tallies : turn.tallies ≡ after.counts

-- a turn answers so and leaves a view of the rows after, or it answers the stop and leaves a view of the rows before
abbrev pub TurnAnswers : Query → List Expectation → List Row → Change → Viewed → View → Result Turn StopOr → Type 0
TurnAnswers query xs rows change before view (Ok turn) = TurnsTo query xs rows change before turn × StandsFor query xs view (changed rows change)
TurnAnswers query xs rows change before view (Err (either.Stop stop)) = (viewed query xs (changed rows change) ≡ Err stop) × StandsFor query xs view rows
TurnAnswers query xs rows change before view (Err either.Memory) = ⊤

-- the same of the groups alone, of a query that groups
abbrev pub GroupsAnswer : Query → List Expectation → List Row → Change → Viewed → Groups → Result Turn StopOr → Type 0
GroupsAnswer query xs rows change before groups (Ok turn) = TurnsTo query xs rows change before turn × KeepsShares query groups (shares_of query (in_row_order (changed rows change)))
GroupsAnswer query xs rows change before groups (Err (either.Stop stop)) = (viewed query xs (changed rows change) ≡ Err stop) × KeepsShares query groups (shares_of query (in_row_order rows))
GroupsAnswer query xs rows change before groups (Err either.Memory) = ⊤

-- the same without groups, of a query that doesn't
abbrev pub PlainAnswer : Query → List Expectation → List Row → Change → Viewed → Result Turn StopOr → Type 0
PlainAnswer query xs rows change before (Ok turn) = TurnsTo query xs rows change before turn
PlainAnswer query xs rows change before (Err (either.Stop stop)) = viewed query xs (changed rows change) ≡ Err stop
PlainAnswer query xs rows change before (Err either.Memory) = ⊤

-- the same of what is kept of a view
abbrev pub KeptAnswer : Query → List Expectation → List Row → Change → Viewed → Option Groups → Result Turn StopOr → Type 0
KeptAnswer query xs rows change before groups (Ok turn) = TurnsTo query xs rows change before turn × KeepsBy (is_grouped query) groups query (shares_of query (in_row_order (changed rows change)))
KeptAnswer query xs rows change before groups (Err (either.Stop stop)) = (viewed query xs (changed rows change) ≡ Err stop) × KeepsBy (is_grouped query) groups query (shares_of query (in_row_order rows))
KeptAnswer query xs rows change before groups (Err either.Memory) = ⊤

-- the groups that a row of the change is in, each once
abbrev pub groups_of_change : Query → Change → List Row
groups_of_change query change = groups_with (shares_of query change.removed ++ shares_of query change.added)

-- those that a change touches: a query without GROUP BY and aggregates has none
abbrev pub touched_groups : Query → Change → List Row
touched_groups query change = if is_grouped query then groups_of_change query change else []
