use Rattle.std.proofs.Common.{◌≡◌, ◌-◌, suc, None, take, ap, ◌∙◌, arith}
use Rattle.flow_model.specs.Current.{after_event}
use Rattle.cdc_scd2.specs.Cache.{last_state}
use Rattle.cdc_scd2.proofs.WholeLemmas.{last_state_at}
use Rattle.cdc_scd2.proofs.splicing.effective_at.Goals as goal

pub returns-clause-columns : goal.returns-clause-columns
returns-clause-columns g c =
    let e : suc (c.args.place - 1) ≡ c.args.place = omega arith in
    c.in_ok-columns-2.ensures ∙ ap (λ state. after_event c.args.ignore_null state c.args.event.now)
    (c.after.ensures ∙ last_state_at c.args.history.now None (c.args.place - 1) c.look-last.result.now (omega arith) c.look-last.ensures.entry ∙ ap (λ k. last_state None (take k c.args.history.now)) e)
