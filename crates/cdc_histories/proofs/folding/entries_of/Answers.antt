use Rattle.std.proofs.Common.{◌≡◌, ◌++◌, [], None, ap, ◌∙◌, subst}
use Rattle.std.specs.Prelude.{unwrap_or}
use Rattle.flow_model.specs.Current.{after_event}
use Rattle.cdc_scd2.specs.Cache.{last_state}
use Rattle.cdc_histories.specs.Building.{entries_from}
use Rattle.cdc_histories.proofs.FoldLemmas.{entries_next}
use Rattle.cdc_histories.proofs.folding.entries_of.Goals as goal

pub loop-event-preserved : goal.loop-event-preserved
loop-event-preserved c =
    let ignore_null = c.args.ignore_null in
    let made = c.loop-event.entries.items in
    let whole = entries_from ignore_null None c.args.events.now in
    entries_next ignore_null made c.push.new.self.items whole c.in_ok-entry.entry c.in-Some.event.now c.in-Some.more.now
    c.in_ok-entry.ensures.event
    (c.in_ok-entry.ensures.columns ∙ ap (λ ys. unwrap_or (after_event ignore_null (last_state None ys) c.in-Some.event.now) []) c.as_slice.ensures.value)
    c.in_ok-push.ensures.items
    (subst (λ ys. made ++ entries_from ignore_null (last_state None made) ys ≡ whole) c.in-Some.ensures.cases.0 c.loop-event.invariant)
