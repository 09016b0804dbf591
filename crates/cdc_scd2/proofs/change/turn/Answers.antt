use Rattle.std.proofs.Common.{◌++◌, map, ◌∙◌}
use Rattle.std.specs.Prelude.{option_copied, option_to_list}
use Rattle.flow_model.specs.History.{interval_row}
use Rattle.cdc_runs.specs.Entries.{moments_of}
use Rattle.cdc_runs.specs.Runs.{ends_in, left_open}
use Rattle.cdc_scd2.proofs.TurnLemmas.{turns, looks_more}
use Rattle.cdc_scd2.proofs.change.turn.Goals as goal

pub returns-clause-change : goal.returns-clause-change
returns-clause-change g c =
    let next = option_copied c.entry_at-next.result in
    turns c.args.tracked.now c.args.history.now c.args.place (option_copied c.args.since) c.in_ok-was.was' c.in_ok-is.is' c.args.old.now c.args.new.now next
    c.end_runs.new.rows c.close_first.new.removed c.end_runs-2.new.rows c.close_first.new.added c.in_ok-change.change c.entry_at-next.ensures.entry
    (c.in_ok-was.ensures.rows ∙ (λ i. c.new-removed.ensures i ++ map interval_row (ends_in c.args.tracked.now (c.in_ok-copy_of.ensures i) (moments_of c.args.old.now) (moments_of (option_to_list next)))))
    (c.in_ok-was.ensures.since ∙ (λ i. left_open c.args.tracked.now (c.in_ok-copy_of.ensures i) (moments_of c.args.old.now) (moments_of (option_to_list next))))
    (c.in_ok-is.ensures.rows ∙ (λ i. c.new-added.ensures i ++ map interval_row (ends_in c.args.tracked.now (c.in_ok-copy_of-2.ensures i) (moments_of c.args.new.now) (moments_of (option_to_list next)))))
    (c.in_ok-is.ensures.since ∙ (λ i. left_open c.args.tracked.now (c.in_ok-copy_of-2.ensures i) (moments_of c.args.new.now) (moments_of (option_to_list next))))
    c.in_ok-close_first.ensures.rows c.in_ok-change.ensures

pub returns-clause-looks : goal.returns-clause-looks
returns-clause-looks g c =
    let next = option_copied c.entry_at-next.result in
    looks_more c.args.tracked.now c.args.history.now c.args.place (option_copied c.args.since) c.in_ok-was.was' c.in_ok-is.is' c.args.old.now c.args.new.now next c.close_first.new.steps c.entry_at-next.new.steps c.args.steps.now c.entry_at-next.ensures.entry
    (c.in_ok-was.ensures.since ∙ (λ i. left_open c.args.tracked.now (c.in_ok-copy_of.ensures i) (moments_of c.args.old.now) (moments_of (option_to_list next))))
    (c.in_ok-is.ensures.since ∙ (λ i. left_open c.args.tracked.now (c.in_ok-copy_of-2.ensures i) (moments_of c.args.new.now) (moments_of (option_to_list next))))
    c.entry_at-next.ensures.looks c.in_ok-close_first.ensures.looks
