-- What a turn answers by the result rows that may go and come.
use Rattle.std.specs.Prelude.{◌≡◌, ⊤, List, None, Option, Some, Result, Ok, Err}
use Rattle.std.specs.Option.{option_or}
use Rattle.value_core.specs.declared.change.Tally.{Tally}
use Rattle.value_core.specs.Bags.{in_row_order, net_change}
use Rattle.value_core.specs.Order.{Row}
use Rattle.plan_core.specs.declared.expectation.Expectation.{Expectation}
use Rattle.plan_core.specs.declared.stop.Stop.{Stop}
use Rattle.plan_core.specs.declared.stop.StopOr.{StopOr}
use Rattle.plan_core.specs.declared.stop.StopOr.TheVariants as either
use Rattle.flow_model.specs.Admission.{counts}
use Rattle.view_laws.specs.Turned.{kept_of, row_stop}
use Rattle.view_patches.specs.declared.sides.Sides.{Sides}
use Rattle.view_upkeep.specs.declared.settling.Turn.{Turn}
use Rattle.view_upkeep.specs.Tallies.{turned_counts}

-- the turn by rows that may go and rows that may come, none of which stops the view
pub record Settles (xs : List Expectation) (kept : List Tally) (before after : List Row) (turn : Turn) : Type 0 where
  pub stood : row_stop xs before ≡ None
  pub goes_on : row_stop xs after ≡ None
  pub change : turn.change ≡ net_change (kept_of xs (in_row_order before)) (kept_of xs (in_row_order after))
  pub tallies : turn.tallies ≡ turned_counts kept (counts xs (in_row_order before)) (counts xs (in_row_order after))

-- a call answers with that turn, or with the first stop of those that may come, else of those that may go
abbrev pub SettleAnswers : List Expectation → List Tally → List Row → List Row → Result Turn StopOr → Type 0
SettleAnswers xs kept before after (Ok turn) = Settles xs kept before after turn
SettleAnswers xs kept before after (Err (either.Stop stop)) = option_or (row_stop xs after) (row_stop xs before) ≡ Some stop
SettleAnswers xs kept before after (Err either.Memory) = ⊤

abbrev pub SidesBy : List Expectation → List Tally → List Row → List Row → Option Stop → Result Turn StopOr → Type 0
SidesBy xs kept before after (Some sum) (Err (either.Stop stop)) = stop ≡ sum
SidesBy xs kept before after (Some sum) (Ok turn) = ⊥
SidesBy xs kept before after None result = SettleAnswers xs kept before after result
SidesBy xs kept before after stop (Err either.Memory) = ⊤

-- a call answers with the sum that stops the side that may come, else with the turn by both sides
abbrev pub SidesAnswer : List Expectation → List Tally → Sides → Result Turn StopOr → Type 0
SidesAnswer xs kept sides result = SidesBy xs kept sides.before.rows sides.after.rows sides.after.stop result
