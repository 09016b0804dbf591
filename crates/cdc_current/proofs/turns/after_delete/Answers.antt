use Rattle.std.proofs.Common.{ap, ◌∙◌}
use Rattle.std.specs.Prelude.{unwrap_or}
use Rattle.value_core.specs.declared.event.EventKind.TheVariants.{Delete}
use Rattle.cdc_scd1.specs.Stamps.{no_event, stamped_by}
use Rattle.cdc_current.proofs.turns.after_delete.Goals as goal

pub returns-in_ok-state-in-Some : goal.returns-in_ok-state-in-Some
returns-in_ok-state-in-Some c ignore_null =
    c.in_ok-state-in-Some.ensures ignore_null ∙ ap (λ o. stamped_by ignore_null (unwrap_or o no_event) c.args.event.now Delete) c.in-Some.ensures.value

pub returns-in_ok-state-in-None : goal.returns-in_ok-state-in-None
returns-in_ok-state-in-None c ignore_null =
    c.in_ok-state-in-None.ensures ignore_null
    ∙ ap (λ state. stamped_by ignore_null state c.args.event.now Delete) c.new.ensures
    ∙ ap (λ o. stamped_by ignore_null (unwrap_or o no_event) c.args.event.now Delete) c.in-None.ensures.value
