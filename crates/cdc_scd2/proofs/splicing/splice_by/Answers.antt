use Rattle.std.proofs.Common.{length, drop, ap, subst, ◌∙◌, arith}
use Rattle.std.specs.Prelude.{option_copied}
use Rattle.std.proofs.lemmas.List.{length-drop}
use Rattle.std.proofs.lemmas.List.Edits.{length-insert}
use Rattle.value_core.specs.Bags.{net_change}
use Rattle.event_history.specs.declared.history.Entry.{Entry}
use Rattle.cdc_scd2.specs.Cache.{carried_on}
use Rattle.cdc_scd2.specs.Splices.{rows_of, spliced}
use Rattle.cdc_scd2.specs.Pays.{Pays}
use Rattle.cdc_scd2.proofs.BoundLemmas.{bounded}
use Rattle.cdc_scd2.proofs.WholeLemmas.{IsWhole, carried_short, whole}
use Rattle.cdc_scd2.proofs.splicing.splice_by.Goals as goal

pub change_at-requires : goal.change_at-requires
change_at-requires g c = omega (arith, ap length c.as_slice.ensures.value, ap length c.in_ok-rows.ensures.rows, carried_short c.args.ignore_null (option_copied c.as_ref.result) (drop c.place_of-place.result c.args.history.now), length-drop c.place_of-place.result c.args.history.now, c.place_of-place.ensures.within)

pub set_columns-requires : goal.set_columns-requires
set_columns-requires g c = omega (
  arith,
  ap length c.in_ok-put.ensures.ok,
  ap length c.in_ok-rows.ensures.rows,
  carried_short c.args.ignore_null (option_copied c.as_ref.result) (drop c.place_of-place.result c.args.history.now),
  length-drop c.place_of-place.result c.args.history.now,
  c.place_of-place.ensures.within,
  length-insert c.args.history.now c.place_of-place.result (record { event = c.args.event; effective = c.row_or_none.result }) c.place_of-place.ensures.within,
)

pub returns-clause-events : goal.returns-clause-events
returns-clause-events g c = (whole c.args.ignore_null c.args.tracked.now c.args.history.now c.put.new.self c.set_columns.new.history c.place_of-place.result (record { event = c.args.event; effective = c.row_or_none.result }) c.in_ok-rows.rows.items c.in_ok-columns.columns
    c.requires.cached c.place_of-place.ensures.within c.place_of-place.ensures.below c.place_of-place.ensures.above c.row_or_none.ensures c.in_ok-columns.ensures.columns
    (c.in_ok-rows.ensures.rows ∙ ap (λ state. carried_on c.args.ignore_null state (drop c.place_of-place.result c.args.history.now)) c.as_ref.ensures.value) c.in_ok-put.ensures.ok c.set_columns.ensures).events

pub returns-clause-cached : goal.returns-clause-cached
returns-clause-cached g c = (whole c.args.ignore_null c.args.tracked.now c.args.history.now c.put.new.self c.set_columns.new.history c.place_of-place.result (record { event = c.args.event; effective = c.row_or_none.result }) c.in_ok-rows.rows.items c.in_ok-columns.columns
    c.requires.cached c.place_of-place.ensures.within c.place_of-place.ensures.below c.place_of-place.ensures.above c.row_or_none.ensures c.in_ok-columns.ensures.columns
    (c.in_ok-rows.ensures.rows ∙ ap (λ state. carried_on c.args.ignore_null state (drop c.place_of-place.result c.args.history.now)) c.as_ref.ensures.value) c.in_ok-put.ensures.ok c.set_columns.ensures).cached

pub returns-clause-change : goal.returns-clause-change
returns-clause-change g c =
    let entry : Entry = record { event = c.args.event; effective = c.row_or_none.result } in
    let done : IsWhole c.args.ignore_null c.args.tracked.now c.args.history.now c.set_columns.new.history c.place_of-place.result entry c.in_ok-rows.rows.items =
    whole c.args.ignore_null c.args.tracked.now c.args.history.now c.put.new.self c.set_columns.new.history c.place_of-place.result entry c.in_ok-rows.rows.items c.in_ok-columns.columns
    c.requires.cached c.place_of-place.ensures.within c.place_of-place.ensures.below c.place_of-place.ensures.above c.row_or_none.ensures c.in_ok-columns.ensures.columns
    (c.in_ok-rows.ensures.rows ∙ ap (λ state. carried_on c.args.ignore_null state (drop c.place_of-place.result c.args.history.now)) c.as_ref.ensures.value) c.in_ok-put.ensures.ok c.set_columns.ensures in
    c.in_ok-change.ensures.change ∙ ap (λ rows. net_change (rows_of c.args.tracked.now c.args.history.now) (rows_of c.args.tracked.now (spliced c.args.history.now c.place_of-place.result entry rows))) c.as_slice.ensures.value
    ∙ (λ i. net_change (done.before i) (done.after i))

pub returns-clause-looks : goal.returns-clause-looks
returns-clause-looks g c = λ h small.
    let entry : Entry = record { event = c.args.event; effective = c.row_or_none.result } in
    bounded c.args.ignore_null c.args.tracked.now c.args.history.now c.place_of-place.result entry c.in_ok-rows.rows.items c.in_ok-columns.columns c.args.steps.now c.place_of-place.new.steps c.effective_at.new.steps c.carry.new.steps c.change_at.new.steps h
    c.requires.cached c.len-count.ensures.order c.place_of-place.ensures.within c.place_of-place.ensures.below c.place_of-place.ensures.above c.row_or_none.ensures c.in_ok-columns.ensures.columns
    (c.in_ok-rows.ensures.rows ∙ ap (λ state. carried_on c.args.ignore_null state (drop c.place_of-place.result c.args.history.now)) c.as_ref.ensures.value)
    (subst (λ rows. Pays c.args.tracked.now c.args.history.now c.place_of-place.result entry rows c.change_at.new.steps c.carry.new.steps) c.as_slice.ensures.value c.in_ok-change.ensures.looks) small
    (c.place_of-place.ensures.looks h small) c.in_ok-columns.ensures.looks c.in_ok-rows.ensures.looks
