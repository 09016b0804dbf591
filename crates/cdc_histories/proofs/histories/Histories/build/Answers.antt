use Rattle.std.proofs.Common.{List, sym, ap, ◌∙◌, subst}
use Rattle.flow_model.specs.History.{scd2}
use Rattle.cdc_histories.specs.declared.cutting.KeyEvents.{KeyEvents}
use Rattle.cdc_histories.specs.Building.{HaveCome}
use Rattle.cdc_histories.proofs.ArrivalLemmas.{placed_sorted, scd2_sorted}
use Rattle.cdc_histories.proofs.BuildLemmas.{built_rows}
use Rattle.cdc_histories.proofs.histories.Histories.build.Goals as goal

pub returns-clause-kept : goal.returns-clause-kept
returns-clause-kept g c =
    let ignore_null = c.args.flow.now.ignore_null in
    let tracked = c.args.flow.now.tracked in
    let parts = c.in_ok-parts.parts.items in
    let built = c.in_ok-put_together.ensures ignore_null tracked parts c.in_ok-parts.ensures.each c.in_ok-parts.ensures.up
    (subst (λ (ps : List KeyEvents). HaveCome ignore_null tracked ps c.in_ok-answers.answers.items) c.as_slice.ensures.value c.in_ok-answers.ensures) in
    built.kept ∙ c.in_ok-parts.ensures.whole ∙ sym (placed_sorted c.args.events.now c.requires.apart)

pub returns-clause-told : goal.returns-clause-told
returns-clause-told g c =
    let ignore_null = c.args.flow.now.ignore_null in
    let tracked = c.args.flow.now.tracked in
    let parts = c.in_ok-parts.parts.items in
    built_rows ignore_null tracked parts c.put_together.new.histories.entries c.put_together.new.rows.items c.from_vec.result
    (c.in_ok-put_together.ensures ignore_null tracked parts c.in_ok-parts.ensures.each c.in_ok-parts.ensures.up
    (subst (λ (ps : List KeyEvents). HaveCome ignore_null tracked ps c.in_ok-answers.answers.items) c.as_slice.ensures.value c.in_ok-answers.ensures))
    c.len-count.ensures.ordered
    (c.from_vec.ensures ∙ c.sort.ensures)

pub returns-clause-rows : goal.returns-clause-rows
returns-clause-rows g c =
    let ignore_null = c.args.flow.now.ignore_null in
    let tracked = c.args.flow.now.tracked in
    let parts = c.in_ok-parts.parts.items in
    let built = c.in_ok-put_together.ensures ignore_null tracked parts c.in_ok-parts.ensures.each c.in_ok-parts.ensures.up
    (subst (λ (ps : List KeyEvents). HaveCome ignore_null tracked ps c.in_ok-answers.answers.items) c.as_slice.ensures.value c.in_ok-answers.ensures) in
    built_rows ignore_null tracked parts c.put_together.new.histories.entries c.put_together.new.rows.items c.from_vec.result built
    c.len-count.ensures.ordered
    (c.from_vec.ensures ∙ c.sort.ensures)
    ∙ ap (scd2 ignore_null tracked) (built.kept ∙ c.in_ok-parts.ensures.whole)
    ∙ scd2_sorted ignore_null tracked c.args.events.now c.requires.apart c.requires.keyed
