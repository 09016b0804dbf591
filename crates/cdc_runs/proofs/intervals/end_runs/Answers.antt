use Rattle.std.proofs.Common.{◌++◌, map, sym, ap, ◌∙◌}
use Rattle.std.specs.Prelude.{option_copied, option_to_list}
use Rattle.flow_model.specs.History.{interval_row}
use Rattle.cdc_runs.specs.Entries.{moments_of}
use Rattle.cdc_runs.specs.Runs.{ends_in, left_open}
use Rattle.cdc_runs.proofs.CodeLemmas.{ends_more}
use Rattle.cdc_runs.proofs.intervals.end_runs.Goals as goal

pub loop-entry-preserved : goal.loop-entry-preserved
loop-entry-preserved c =
    let next = option_copied c.args.next in
    let more = ends_more c.args.tracked.now c.loop-entry.begun c.in_ok-begun.begun c.in-Some.entry.now c.in-Some.more.now next (option_copied c.first_of.result) c.loop-entry.rows c.end_run.new.rows
    c.first_of.ensures c.in_ok-begun.ensures.rows c.in_ok-begun.ensures.since in (
      more.0 ∙ ap (λ left. c.loop-entry.rows ++ map interval_row (ends_in c.args.tracked.now c.loop-entry.begun (moments_of left) (moments_of (option_to_list next)))) (sym c.in-Some.ensures.cases.0) ∙ c.loop-entry.invariant.0,
      more.1 ∙ ap (λ left. left_open c.args.tracked.now c.loop-entry.begun (moments_of left) (moments_of (option_to_list next))) (sym c.in-Some.ensures.cases.0) ∙ c.loop-entry.invariant.1,
    )
