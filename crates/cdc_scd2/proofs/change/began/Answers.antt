use Rattle.std.proofs.Common.{inr}
use Rattle.cdc_runs.specs.Entries.{columns_after}
use Rattle.cdc_scd2.proofs.TurnLemmas.{some_not}
use Rattle.cdc_scd2.proofs.SpliceLemmas.{begins_at, looks_from}
use Rattle.cdc_scd2.proofs.change.began.Goals as goal

pub returns-clause-begins : goal.returns-clause-begins
returns-clause-begins g c = begins_at c.args.tracked.now c.args.history.now c.run_start-start.result c.args.place c.look-entry.result.now c.look-first.result.now c.in_ok-copy.field-0 c.run_start-start.ensures.run c.requires c.look-entry.ensures.entry c.look-first.ensures.entry c.in_ok-copy.ensures

pub returns-clause-looks : goal.returns-clause-looks
returns-clause-looks g c = inr (looks_from c.args.tracked.now c.args.history.now c.args.place c.look-entry.result.now c.run_start-start.result c.look-entry.new.steps c.run_start-start.new.steps c.look-first.new.steps c.args.steps.now c.look-entry.ensures.entry (some_not (columns_after c.look-entry.result.now) c.in-Some._columns.now c.in-Some.ensures) c.run_start-start.ensures.run c.look-entry.ensures.looks c.run_start-start.ensures.looks c.look-first.ensures.looks)
