-- A view after a turn.
use Rattle.std.proofs.Common.{◌≡◌, true, false, if◌then◌else◌, List, [], Option, Some, None, Result, Ok, Err, sym, ap, ◌∙◌, subst}
use Rattle.std.specs.Prelude.{IfOk}
use Rattle.value_core.specs.declared.change.Change.{Change}
use Rattle.value_core.specs.declared.change.Tally.{Tally}
use Rattle.value_core.specs.Bags.{changed, in_row_order}
use Rattle.value_core.specs.Order.{Row}
use Rattle.plan_core.specs.Sound.{is_grouped}
use Rattle.plan_core.specs.declared.expectation.Expectation.{Expectation}
use Rattle.plan_core.specs.declared.query.Query.{Query}
use Rattle.plan_core.specs.declared.stop.StopOr.{StopOr}
use Rattle.plan_core.specs.declared.stop.StopOr.TheVariants as either
use Rattle.flow_model.specs.Views.{Share, Viewed, shares_of, viewed}
use Rattle.view_groups.specs.declared.groups.Groups.{Groups}
use Rattle.view_groups.specs.AllGroups.{KeepsShares}
use Rattle.view_upkeep.specs.Stands.{GroupsAnswer, KeepsBy, KeptAnswer, MayTurn, PlainAnswer, StandsFor, TurnAnswers, groups_of_change, touched_groups}
use Rattle.view_upkeep.specs.declared.settling.Turn.{Turn}
use Rattle.view_upkeep.specs.declared.view.View.{View}

-- the counts of a view that nothing stops
pub counts_before : (query : Query) (xs : List Expectation) (view : View) (rows : List Row) (change : Change) (before : Viewed) → StandsFor query xs view rows → MayTurn query xs rows change before → view.counts ≡ before.counts
counts_before query xs view rows change before stands may = subst (λ o. IfOk o (λ held. view.counts ≡ held.counts)) may.stands stands.counts

pub grouped_answer : (query : Query) (xs : List Expectation) (rows : List Row) (change : Change) (before : Viewed) (groups : Groups) (result : Result Turn StopOr) → is_grouped query ≡ true → GroupsAnswer query xs rows change before groups result
    → KeptAnswer query xs rows change before (Some groups) result
grouped_answer query xs rows change before groups (Ok turn) e answers = (answers.0, subst (λ t. KeepsBy t (Some groups) query (shares_of query (in_row_order (changed rows change)))) (sym e) answers.1)
grouped_answer query xs rows change before groups (Err (either.Stop stop)) e answers = (answers.0, subst (λ t. KeepsBy t (Some groups) query (shares_of query (in_row_order rows))) (sym e) answers.1)
grouped_answer query xs rows change before groups (Err either.Memory) e answers = tt

-- of a query that doesn't group nothing is kept, whatever the shares
kept-anyway : (query : Query) (groups : Option Groups) (old new : List Share) → KeepsBy false groups query old → KeepsBy false groups query new
kept-anyway query None old new keeps = tt
kept-anyway query (Some groups) old new keeps = absurd keeps

plain-kept : (query : Query) (groups : Option Groups) (old new : List Share) → is_grouped query ≡ false → KeepsBy (is_grouped query) groups query old → KeepsBy (is_grouped query) groups query new
plain-kept query groups old new e keeps = subst (λ t. KeepsBy t groups query new) (sym e) (kept-anyway query groups old new (subst (λ t. KeepsBy t groups query old) e keeps))

pub plain_answer : (query : Query) (xs : List Expectation) (rows : List Row) (change : Change) (before : Viewed) (groups : Option Groups) (result : Result Turn StopOr) → is_grouped query ≡ false
    → KeepsBy (is_grouped query) groups query (shares_of query (in_row_order rows)) → PlainAnswer query xs rows change before result → KeptAnswer query xs rows change before groups result
plain_answer query xs rows change before groups (Ok turn) e keeps answers =
    (answers, plain-kept query groups (shares_of query (in_row_order rows)) (shares_of query (in_row_order (changed rows change))) e keeps)
plain_answer query xs rows change before groups (Err (either.Stop stop)) e keeps answers = (answers, keeps)
plain_answer query xs rows change before groups (Err either.Memory) e keeps answers = tt

-- a query that groups has its groups
pub kept_groups : (query : Query) (groups : Groups) (shares : List Share) → is_grouped query ≡ true → KeepsShares query groups shares → KeepsBy (is_grouped query) (Some groups) query shares
kept_groups query groups shares e keeps = subst (λ t. KeepsBy t (Some groups) query shares) (sym e) keeps

pub some_keeps : (query : Query) (groups : Groups) (shares : List Share) → is_grouped query ≡ true → KeepsBy (is_grouped query) (Some groups) query shares → KeepsShares query groups shares
some_keeps query groups shares e keeps = subst (λ t. KeepsBy t (Some groups) query shares) e keeps

pub none_keeps : (query : Query) (shares : List Share) → is_grouped query ≡ true → KeepsBy (is_grouped query) None query shares → ⊥
none_keeps query shares e keeps = subst (λ t. KeepsBy t None query shares) e keeps

-- the looks at a view's groups
pub looks_grouped : (query : Query) (change : Change) → is_grouped query ≡ true → touched_groups query change ≡ groups_of_change query change
looks_grouped query change e = ap (λ t. if t then groups_of_change query change else []) e

-- the view after a turn that nothing stopped, and after one that something did
pub turned : (query : Query) (xs : List Expectation) (rows : List Row) (change : Change) (before : Viewed) (view : View) (turn : Turn) → KeptAnswer query xs rows change before view.groups (Ok turn) → view.counts ≡ turn.tallies
    → TurnAnswers query xs rows change before view (Ok turn)
turned query xs rows change before view turn answers counted = (
  answers.0,
  record {
    groups = answers.1;
    counts = subst (λ o. IfOk o (λ held. view.counts ≡ held.counts)) (sym answers.0.is) (counted ∙ answers.0.tallies);
  },
)

pub stopped : (query : Query) (xs : List Expectation) (rows : List Row) (change : Change) (before : Viewed) (old view : View) (end : StopOr) → StandsFor query xs old rows → KeptAnswer query xs rows change before view.groups (Err end) → view.counts ≡ old.counts
    → TurnAnswers query xs rows change before view (Err end)
stopped query xs rows change before old view (either.Stop stop) stands answers same = (
  answers.0,
  record {
    groups = answers.1;
    counts = subst (λ (c : List Tally). IfOk (viewed query xs rows) (λ held. c ≡ held.counts)) (sym same) stands.counts;
  },
)
stopped query xs rows change before old view either.Memory stands answers same = tt
