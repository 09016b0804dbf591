use Rattle.std.proofs.Common.{◌≡◌, ◌+◌, sym, ap, ◌∙◌, arith, length, Some}
use Rattle.std.proofs.lemmas.List.{length_push}
use Rattle.std.specs.Prelude.{option_copied}
use Rattle.flow_model.specs.Current.{after_event}
use Rattle.cdc_scd2.specs.Cache.{last_or}
use Rattle.cdc_runs.specs.Runs.{same_columns}
use Rattle.cdc_scd2.proofs.ZoneLemmas.{carried_more}
use Rattle.cdc_scd2.proofs.zone.carry.Goals as goal

pub loop-i-preserved : goal.loop-i-preserved
loop-i-preserved g c = (
  carried_more c.args.ignore_null c.args.history.now c.loop-i.i c.look-entry.result.now (option_copied c.args.first) c.loop-i.rows.items c.push.new.self.items c.in-Some.columns _
      (omega arith) c.look-entry.ensures.entry
      (ap (λ state. after_event c.args.ignore_null state c.look-entry.result.now.event) (sym (c.last_of.ensures ∙ ap (last_or (option_copied c.args.first)) c.as_slice.ensures.value)) ∙ sym c.in_ok-next.ensures ∙ c.in-Some.is)
      (ap (λ state. same_columns state (Some c.in-Some.columns)) (sym c.after.ensures) ∙ sym c.if-is_same.ensures)
      c.in_ok-push.ensures.items c.loop-i.invariant.0,
  let n : length c.push.new.self.items ≡ length c.loop-i.rows.items + 1 = ap length c.in_ok-push.ensures.items ∙ length_push c.loop-i.rows.items c.in-Some.columns in omega (arith, n, c.look-entry.ensures.looks, c.loop-i.invariant.1),
)
