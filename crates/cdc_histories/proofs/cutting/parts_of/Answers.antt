use Rattle.std.proofs.Common.{◌≡◌, sym, ap, ◌∙◌, subst}
use Rattle.value_core.specs.EventOrder.{event_order, sorted_by}
use Rattle.cdc_histories.specs.Building.{IsCut, cut_by_key}
use Rattle.cdc_histories.proofs.CutLemmas.{sorted_cut}
use Rattle.cdc_histories.proofs.cutting.parts_of.Goals as goal

pub returns : goal.returns
returns c =
    let sorted = sorted_by event_order c.args.events.now in
    let e : c.in_ok-parts.parts.items ≡ cut_by_key sorted =
    c.in_ok-parts.ensures ∙ ap cut_by_key (c.as_slice-2.ensures ∙ c.in_ok-sorted.ensures ∙ ap (sorted_by event_order) (c.in_ok-copy.ensures ∙ c.as_slice.ensures)) in
    subst (IsCut sorted) (sym e) (sorted_cut c.args.events.now c.requires.apart c.requires.keyed)
