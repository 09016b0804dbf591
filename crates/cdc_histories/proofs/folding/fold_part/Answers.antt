use Rattle.std.proofs.Common.{None, ap, ◌∙◌}
use Rattle.cdc_scd2.specs.Splices.{rows_of}
use Rattle.cdc_histories.specs.declared.folding.KeyHistory.{KeyHistory}
use Rattle.cdc_histories.specs.Building.{entries_from}
use Rattle.cdc_histories.proofs.FoldLemmas.{ascending_part, folded_part}
use Rattle.cdc_histories.proofs.folding.fold_part.Goals as goal

pub history_of-requires : goal.history_of-requires
history_of-requires c =
    ascending_part c.args.flow.now.ignore_null c.args.part.now c.in_ok-entries.entries.items c.requires
    (c.in_ok-entries.ensures ∙ ap (entries_from c.args.flow.now.ignore_null None) c.as_slice.ensures)

pub returns : goal.returns
returns c =
    let folded : KeyHistory = record { key = c.in_ok-key.key; history = c.in_ok-history.history; rows = c.in_ok-rows.rows } in
    folded_part c.args.flow.now.ignore_null c.args.flow.now.tracked c.args.part.now folded c.in_ok-entries.entries.items c.requires
    (c.in_ok-entries.ensures ∙ ap (entries_from c.args.flow.now.ignore_null None) c.as_slice.ensures)
    c.in_ok-key.ensures
    c.in_ok-history.ensures
    (c.in_ok-rows.ensures ∙ (λ i. rows_of (c.as_slice-2.ensures i) (c.as_slice-3.ensures.value i)))
