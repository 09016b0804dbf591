-- The turn by the result rows that may go and come.
use Rattle.std.proofs.Common.{◌≡◌, List, Option, Some, None, Result, Ok, Err, refl, ap, ◌∙◌}
use Rattle.std.specs.Prelude.{IfErr, IfOk}
use Rattle.std.specs.Option.{option_or}
use Rattle.value_core.specs.declared.change.Tally.{Tally}
use Rattle.value_core.specs.Bags.{in_row_order, net_change}
use Rattle.value_core.specs.Order.{Row}
use Rattle.plan_core.specs.declared.expectation.Expectation.{Expectation}
use Rattle.plan_core.specs.declared.stop.Stop.{Stop}
use Rattle.plan_core.specs.declared.stop.StopOr.{StopOr}
use Rattle.plan_core.specs.declared.stop.StopOr.TheVariants as either
use Rattle.flow_model.specs.Admission.{counts}
use Rattle.flow_model.specs.Views.{Viewed, judged_view, unless}
use Rattle.view_laws.specs.Turned.{kept_of, judged_rows, row_stop}
use Rattle.view_query.specs.declared.judging.Judged.{Judged}
use Rattle.view_query.specs.Judging.{JudgeAnswers}
use Rattle.view_upkeep.specs.Settled.{SettleAnswers}
use Rattle.view_upkeep.specs.Tallies.{turned_counts}
use Rattle.view_upkeep.specs.declared.settling.Turn.{Turn}

unstopped : (stop : Option Stop) (a b : Viewed) → unless stop a ≡ Ok b → (stop ≡ None) × (b ≡ a)
unstopped None a b e = (refl, cc)
unstopped (Some stop) a b e = cc

stopped : (stop : Option Stop) (a : Viewed) (why : Stop) → unless stop a ≡ Err why → stop ≡ Some why
stopped None a why e = cc
stopped (Some stop) a why e = cc

-- what is kept of a part that nothing stops
pub record Keeps (xs : List Expectation) (rows : List Row) (judged : Judged) : Type 0 where
  pub goes_on : row_stop xs rows ≡ None
  pub rows_are : judged.rows ≡ kept_of xs (in_row_order rows)
  pub counts_are : judged.counts ≡ counts xs (in_row_order rows)

keeps_of : (xs : List Expectation) (rows : List Row) (judged : Judged) → JudgeAnswers (judged_view xs (in_row_order rows)) (Ok judged) → Keeps xs rows judged
keeps_of xs rows judged answers =
    let held : Viewed = record { rows = judged.rows; counts = judged.counts } in
    let both = unstopped (row_stop xs rows) (judged_rows xs (in_row_order rows)) held answers in
    record { goes_on = both.0; rows_are = ap (λ (v : Viewed). v.rows) both.1; counts_are = ap (λ (v : Viewed). v.counts) both.1 }

settled-by : (xs : List Expectation) (kept : List Tally) (before after : List Row) (old new : Judged) (result : Result Turn StopOr) → Keeps xs before old → Keeps xs after new → IfOk result (λ turn. turn.change ≡ net_change old.rows new.rows)
    → IfOk result (λ turn. turn.tallies ≡ turned_counts kept old.counts new.counts) → IfErr result (λ e. e ≡ either.Memory) → SettleAnswers xs kept before after result
settled-by xs kept before after old new (Ok turn) goes comes change tallies memory = record {
  stood = goes.goes_on;
  goes_on = comes.goes_on;
  change = change ∙ (λ i. net_change (goes.rows_are i) (comes.rows_are i));
  tallies = tallies ∙ (λ i. turned_counts kept (goes.counts_are i) (comes.counts_are i));
}
settled-by xs kept before after old new (Err (either.Stop stop)) goes comes change tallies memory = cc
settled-by xs kept before after old new (Err either.Memory) goes comes change tallies memory = tt

pub settled : (xs : List Expectation) (kept : List Tally) (before after : List Row) (old new : Judged) (result : Result Turn StopOr) → JudgeAnswers (judged_view xs (in_row_order before)) (Ok old) → JudgeAnswers (judged_view xs (in_row_order after)) (Ok new)
    → IfOk result (λ turn. turn.change ≡ net_change old.rows new.rows) → IfOk result (λ turn. turn.tallies ≡ turned_counts kept old.counts new.counts) → IfErr result (λ e. e ≡ either.Memory) → SettleAnswers xs kept before after result
settled xs kept before after old new result goes comes change tallies memory = settled-by xs kept before after old new result (keeps_of xs before old goes) (keeps_of xs after new comes) change tallies memory

pub settle_old : (xs : List Expectation) (kept : List Tally) (before after : List Row) (new : Judged) (end : StopOr) → JudgeAnswers (judged_view xs (in_row_order before)) (Err end) → JudgeAnswers (judged_view xs (in_row_order after)) (Ok new)
    → SettleAnswers xs kept before after (Err end)
settle_old xs kept before after new (either.Stop stop) goes comes =
    ap (λ o. option_or o (row_stop xs before)) (keeps_of xs after new comes).goes_on ∙ stopped (row_stop xs before) (judged_rows xs (in_row_order before)) stop goes
settle_old xs kept before after new either.Memory goes comes = tt

pub settle_new : (xs : List Expectation) (kept : List Tally) (before after : List Row) (end : StopOr) → JudgeAnswers (judged_view xs (in_row_order after)) (Err end) → SettleAnswers xs kept before after (Err end)
settle_new xs kept before after (either.Stop stop) comes = ap (λ o. option_or o (row_stop xs before)) (stopped (row_stop xs after) (judged_rows xs (in_row_order after)) stop comes)
settle_new xs kept before after either.Memory comes = tt
