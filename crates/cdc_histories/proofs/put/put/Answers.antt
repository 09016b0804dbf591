use Rattle.std.proofs.Common.{sym, ap, ◌∙◌}
use Rattle.std.specs.Map.{set_value}
use Rattle.std.specs.BTreeMap.{is_at}
use Rattle.std.specs.Option.{option_copied_mut}
use Rattle.value_core.specs.Order.{row_order}
use Rattle.event_ledger.specs.Keyed.{all_events}
use Rattle.event_ledger.proofs.Keys.{events_same}
use Rattle.cdc_histories.proofs.TurnLemmas.{absent_found, each_found, is_put, looks_in, on_err, parts_same}
use Rattle.cdc_histories.proofs.put.put.Goals as goal

pub splice-requires-clause-absent : goal.splice-requires-clause-absent
splice-requires-clause-absent g c =
    absent_found c.args.flow.now.ignore_null c.args.histories.now.entries c.args.event c.unwrap-history.result.now c.requires.in_parts c.get_mut.ensures.ordered
    (sym c.get_mut.ensures.value ∙ ap option_copied_mut c.unwrap-history.ensures) c.requires.fresh

pub splice-requires-clause-cached : goal.splice-requires-clause-cached
splice-requires-clause-cached g c =
    (each_found c.args.flow.now.ignore_null c.args.event.key c.args.histories.now.entries c.unwrap-history.result.now c.requires.in_parts.each (sym c.get_mut.ensures.value ∙ ap option_copied_mut c.unwrap-history.ensures)).cached

pub returns-in_err-change-clause-in_parts : goal.returns-in_err-change-clause-in_parts
returns-in_err-change-clause-in_parts g c =
    parts_same c.args.flow.now.ignore_null c.args.event.key c.args.histories.now.entries (c.get_mut.follows.lender c.splice.new.history).entries c.unwrap-history.result.now c.requires.in_parts
    (sym c.get_mut.ensures.value ∙ ap option_copied_mut c.unwrap-history.ensures)
    ((c.get_mut.follows.holds c.splice.new.history).0 ∙ ap (λ w. set_value (is_at (row_order c.args.event.key)) c.args.histories.now.entries w) c.in_err-change.ensures.err)

pub returns-in_err-change-clause-err : goal.returns-in_err-change-clause-err
returns-in_err-change-clause-err g c =
    on_err c.from_residual.result _
    (ap all_events ((c.get_mut.follows.holds c.splice.new.history).0 ∙ ap (λ w. set_value (is_at (row_order c.args.event.key)) c.args.histories.now.entries w) c.in_err-change.ensures.err)
    ∙ events_same c.args.event.key c.args.histories.now.entries c.unwrap-history.result.now (sym c.get_mut.ensures.value ∙ ap option_copied_mut c.unwrap-history.ensures))

pub returns-clause-in_parts : goal.returns-clause-in_parts
returns-clause-in_parts g c =
    (is_put c.args.flow.now.ignore_null c.args.flow.now.tracked c.args.event c.args.histories.now.entries (c.get_mut.follows.lender c.splice.new.history).entries c.unwrap-history.result.now c.splice.new.history c.requires.in_parts c.get_mut.ensures.ordered
    (sym c.get_mut.ensures.value ∙ ap option_copied_mut c.unwrap-history.ensures) c.requires.keyed c.in_ok-change.ensures.events c.in_ok-change.ensures.cached c.len-count-2.ensures.order (c.get_mut.follows.holds c.splice.new.history).0).in_parts

pub returns-clause-kept : goal.returns-clause-kept
returns-clause-kept g c =
    (is_put c.args.flow.now.ignore_null c.args.flow.now.tracked c.args.event c.args.histories.now.entries (c.get_mut.follows.lender c.splice.new.history).entries c.unwrap-history.result.now c.splice.new.history c.requires.in_parts c.get_mut.ensures.ordered
    (sym c.get_mut.ensures.value ∙ ap option_copied_mut c.unwrap-history.ensures) c.requires.keyed c.in_ok-change.ensures.events c.in_ok-change.ensures.cached c.len-count-2.ensures.order (c.get_mut.follows.holds c.splice.new.history).0).kept

pub returns-clause-change : goal.returns-clause-change
returns-clause-change g c =
    c.in_ok-change.ensures.change
    ∙ (is_put c.args.flow.now.ignore_null c.args.flow.now.tracked c.args.event c.args.histories.now.entries (c.get_mut.follows.lender c.splice.new.history).entries c.unwrap-history.result.now c.splice.new.history c.requires.in_parts c.get_mut.ensures.ordered
    (sym c.get_mut.ensures.value ∙ ap option_copied_mut c.unwrap-history.ensures) c.requires.keyed c.in_ok-change.ensures.events c.in_ok-change.ensures.cached c.len-count-2.ensures.order (c.get_mut.follows.holds c.splice.new.history).0).change

pub returns-clause-looks : goal.returns-clause-looks
returns-clause-looks g c h small =
    looks_in c.splice.new.steps c.args.steps.now h c.args.flow.now.ignore_null c.args.flow.now.tracked c.args.event c.args.histories.now.entries c.unwrap-history.result.now c.requires.in_parts c.get_mut.ensures.ordered
    (sym c.get_mut.ensures.value ∙ ap option_copied_mut c.unwrap-history.ensures) small (c.in_ok-change.ensures.looks h)
