use Rattle.std.proofs.Common.{◌++◌, ◌∷◌, [], sym, ap, ◌∙◌, arith}
use Rattle.std.specs.Prelude.{option_copied, unwrap_or}
use Rattle.value_core.specs.declared.value.Value.TheVariants.{Null}
use Rattle.cdc_scd2.proofs.TurnLemmas.{closes_none, closes_run}
use Rattle.cdc_scd2.proofs.change.close_run.Goals as goal

pub returns-in_default-clause-rows : goal.returns-in_default-clause-rows
returns-in_default-clause-rows g c = closes_none c.args.tracked.now c.args.history.now c.args.place c.run_end-end.result c.look-last.result.now c.args.was.now c.args.is.now c.args.removed.now c.args.added.now c.run_end-end.ensures.run c.look-last.ensures.entry (sym c.in_default.ensures)

pub returns-clause-rows : goal.returns-clause-rows
returns-clause-rows g c = closes_run c.args.tracked.now c.args.history.now c.args.place c.run_end-end.result c.look-last.result.now c.args.was.now c.args.is.now c.in-Some.columns.now (option_copied c.entry_behind-next.result) c.in_ok-row_of.field-0 c.in_ok-row_of-2.field-0
    c.args.removed.now c.push.new.self c.args.added.now c.push-2.new.self c.run_end-end.ensures.run c.look-last.ensures.entry (sym c.in-Some.ensures) c.entry_behind-next.ensures.entry
    (c.in_ok-row_of.ensures ∙ ap (λ end. c.in-Some.columns.now ++ c.args.was.now ++ unwrap_or end (Null ∷ [])) c.sequence_of.ensures)
    (c.in_ok-row_of-2.ensures ∙ ap (λ end. c.in-Some.columns.now ++ c.args.is.now ++ unwrap_or end (Null ∷ [])) c.sequence_of-2.ensures)
    c.in_ok-push.ensures.ok c.in_ok-push-2.ensures.ok

pub returns-in_default-clause-looks : goal.returns-in_default-clause-looks
returns-in_default-clause-looks g c = record { end = c.run_end-end.result; run = c.run_end-end.ensures.run; looks = omega (arith, c.run_end-end.ensures.looks, c.look-last.ensures.looks) }

pub returns-clause-looks : goal.returns-clause-looks
returns-clause-looks g c = record { end = c.run_end-end.result; run = c.run_end-end.ensures.run; looks = omega (arith, c.run_end-end.ensures.looks, c.look-last.ensures.looks, c.entry_behind-next.ensures.looks) }
