use Rattle.std.proofs.Common.{sym, ap, ◌∙◌, true, false}
use Rattle.std.specs.Prelude.{option_copied, option_to_list}
use Rattle.cdc_runs.specs.Entries.{moments_of}
use Rattle.cdc_runs.specs.Runs.{goes_through}
use Rattle.cdc_scd2.proofs.ZoneLemmas.{through_step}
use Rattle.cdc_scd2.proofs.zone.goes_through.Goals as goal

pub returns-then-not-runs_on : goal.returns-then-not-runs_on
returns-then-not-runs_on c =
    sym (through_step c.args.tracked.now c.in-Some.entry.now c.in-Some.more.now (option_copied c.args.next) (option_copied c.first_of.result) c.in-Some-after.columns.now false c.first_of.ensures (sym c.in-Some-after.ensures) (sym c.if-not-runs_on.ensures))
    ∙ ap (λ left. goes_through c.args.tracked.now (moments_of left) (moments_of (option_to_list (option_copied c.args.next)))) (sym c.in-Some.ensures.cases.0) ∙ c.loop-entry.invariant

pub loop-entry-preserved : goal.loop-entry-preserved
loop-entry-preserved c =
    sym (through_step c.args.tracked.now c.in-Some.entry.now c.in-Some.more.now (option_copied c.args.next) (option_copied c.first_of.result) c.in-Some-after.columns.now true c.first_of.ensures (sym c.in-Some-after.ensures) (sym c.if-not-runs_on.ensures))
    ∙ ap (λ left. goes_through c.args.tracked.now (moments_of left) (moments_of (option_to_list (option_copied c.args.next)))) (sym c.in-Some.ensures.cases.0) ∙ c.loop-entry.invariant
