-- The batches of flows, from what was gathered of their rows.
use Rattle.std.proofs.Common.{◌≡◌, ◌∙◌, sym, ap, ℕ, List, length, Option, None, Result, Ok, Err, IfOk, IfErr, OnOk}
use Rattle.std.specs.Prelude.{filter_map}
use Rattle.value_core.specs.Bags.{in_row_order}
use Rattle.value_core.specs.declared.change.Tally.{Tally}
use Rattle.value_core.specs.declared.event.NumberedEvent.{NumberedEvent}
use Rattle.value_core.specs.Order.{Row}
use Rattle.plan_core.specs.declared.expectation.Expectation.{Expectation}
use Rattle.plan_core.specs.declared.flow.AppendFlow.{AppendFlow}
use Rattle.plan_core.specs.declared.flow.Cdc.{Cdc}
use Rattle.plan_core.specs.declared.stop.Stop.{Stop}
use Rattle.plan_core.specs.declared.stop.StopOr.{StopOr}
use Rattle.plan_core.specs.declared.stop.StopOr.TheVariants as ends
use Rattle.flow_model.specs.Admission.{counts}
use Rattle.flow_model.specs.Append.{append_out, append_seen, append_stop}
use Rattle.flow_model.specs.Feed.{upsert_in}
use Rattle.flow_model.specs.Halts.{feed_halt, front, front_events}
use Rattle.row_flow.specs.declared.batch.Batch.{Batch}
use Rattle.row_flow.specs.declared.result.Judged.{Judged}
use Rattle.row_flow.specs.Batches.{IsStopOf}
use Rattle.row_flow.specs.Gathers.{Gathers}
use Rattle.row_flow.specs.Results.{append_results, before_halt, feed_results, kept_of, seen_of}
use Rattle.row_flow.proofs.ResultLemmas.{all_before, append_halts, append_keeps, append_sees, feed_gives, feed_halts, feed_reads, feed_sees, length-numbered}

module _ (flow : AppendFlow) (xs : List Expectation) (given : List Row) (read : ℕ) (rows : List Row) (events : List NumberedEvent) (tallies : List Tally) (halt : Option Stop)
    (gathers : Gathers xs (append_results flow xs given) read rows events tallies halt) where
  pub halt_is : halt ≡ append_stop flow xs given
  halt_is = gathers.halts ∙ append_halts flow xs given

  all : halt ≡ None → before_halt (append_results flow xs given) ≡ append_results flow xs given
  all none = all_before (append_results flow xs given) (sym gathers.halts ∙ none)

  pub read_is : halt ≡ None → read ≡ length given
  read_is none = gathers.reads ∙ ap (λ (list : List Judged). length list) (all none) ∙ length-numbered _ 0 given

  pub rows_are : halt ≡ None → rows ≡ append_out flow xs given
  rows_are none = gathers.keeps ∙ ap (λ (list : List Judged). filter_map kept_of list) (all none) ∙ append_keeps flow xs given

  pub counts_are : halt ≡ None → tallies ≡ counts xs (append_seen flow xs given)
  counts_are none = gathers.counts_up ∙ ap (λ (list : List Judged). counts xs (filter_map seen_of list)) (all none) ∙ ap (counts xs) (append_sees flow xs given)

-- what is answered of them
stop_is : (halt stop : Option Stop) (end : StopOr) → halt ≡ stop → IsStopOf halt end → IsStopOf stop end
stop_is halt stop (ends.Stop why) same is = sym same ∙ is
stop_is halt stop ends.Memory same is = tt

pub append_answers : (flow : AppendFlow) (xs : List Expectation) (given : List Row) (read : ℕ) (rows : List Row) (events : List NumberedEvent) (tallies : List Tally) (halt : Option Stop)
    → Gathers xs (append_results flow xs given) read rows events tallies halt
    → (result : Result Batch StopOr) → OnOk result (halt ≡ None) → IfOk result (λ batch. batch.read ≡ read) → IfOk result (λ batch. batch.rows ≡ in_row_order rows) → IfOk result (λ batch. batch.tallies ≡ tallies) → IfErr result (IsStopOf halt)
    → OnOk result (append_stop flow xs given ≡ None)
    × IfOk result (λ batch. batch.read ≡ length given)
    × IfOk result (λ batch. batch.rows ≡ in_row_order (append_out flow xs given))
    × IfOk result (λ batch. batch.tallies ≡ counts xs (append_seen flow xs given))
    × IfErr result (IsStopOf (append_stop flow xs given))
append_answers flow xs given read rows events tallies halt gathers (Ok batch) none reads keeps counted stops = (
  sym (halt_is flow xs given read rows events tallies halt gathers) ∙ none,
  reads ∙ read_is flow xs given read rows events tallies halt gathers none,
  keeps ∙ ap in_row_order (rows_are flow xs given read rows events tallies halt gathers none),
  counted ∙ counts_are flow xs given read rows events tallies halt gathers none,
  tt,
)
append_answers flow xs given read rows events tallies halt gathers (Err end) none reads keeps counted stops =
    (tt, tt, tt, tt, stop_is halt (append_stop flow xs given) end (halt_is flow xs given read rows events tallies halt gathers) stops)

module _ (cdc : Cdc) (xs : List Expectation) (given : List Row) (read : ℕ) (rows : List Row) (events : List NumberedEvent) (tallies : List Tally) (halt : Option Stop)
    (gathers : Gathers xs (feed_results cdc xs given) read rows events tallies halt) where
  pub feed_halt_is : halt ≡ feed_halt cdc xs given
  feed_halt_is = gathers.halts ∙ feed_halts cdc xs given

  pub feed_read_is : read ≡ length (front cdc xs given)
  feed_read_is = gathers.reads ∙ feed_reads cdc xs given

  pub feed_events_are : events ≡ front_events cdc xs given
  feed_events_are = gathers.gives ∙ feed_gives cdc xs given

  pub feed_counts_are : tallies ≡ counts xs (filter_map upsert_in (front cdc xs given))
  feed_counts_are = gathers.counts_up ∙ ap (counts xs) (feed_sees cdc xs given)
