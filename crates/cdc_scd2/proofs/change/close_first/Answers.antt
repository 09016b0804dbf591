use Rattle.std.proofs.Common.{inr, sym}
use Rattle.cdc_scd2.proofs.TurnLemmas.{closes_nothing, closes_same, closes_from, closes_bare, there_is, looks_on, rows_other, some_not}
use Rattle.cdc_runs.specs.Entries.{columns_after}
use Rattle.cdc_scd2.proofs.change.close_first.Goals as goal

pub returns-in_default-clause-rows : goal.returns-in_default-clause-rows
returns-in_default-clause-rows g c = closes_nothing c.args.tracked.now c.args.history.now c.args.place c.args.was c.args.is c.args.removed.now c.args.added.now c.in_default.ensures.entry

pub returns-then-eq-clause-rows : goal.returns-then-eq-clause-rows
returns-then-eq-clause-rows g c = closes_same c.args.tracked.now c.args.history.now c.args.place c.in-Some.entry.now c.args.was c.args.is c.in_ok-old.old c.in_ok-new.new c.args.removed.now c.args.added.now c.in-Some.ensures.entry c.in_ok-old.ensures c.in_ok-new.ensures (sym c.if-eq.ensures)

pub close_run-requires : goal.close_run-requires
close_run-requires g c = there_is c.args.history.now c.args.place c.in-Some.entry.now c.in-Some.ensures.entry

pub returns-clause-rows : goal.returns-clause-rows
returns-clause-rows g c = closes_from c.args.tracked.now c.args.history.now c.args.place c.in-Some.entry.now c.args.was c.args.is c.in_ok-old.old c.in_ok-new.new c.args.removed.now c.close_run.new.removed c.args.added.now c.close_run.new.added c.in-Some.ensures.entry c.in_ok-old.ensures c.in_ok-new.ensures c.in_ok-close_run.ensures.rows

pub returns-in_default-after-clause-rows : goal.returns-in_default-after-clause-rows
returns-in_default-after-clause-rows g c = closes_bare c.args.tracked.now c.args.history.now c.args.place c.in-Some.entry.now c.args.was c.args.is c.args.removed.now c.args.added.now c.in-Some.ensures.entry (sym c.in_default-after.ensures)

pub returns-clause-looks : goal.returns-clause-looks
returns-clause-looks g c = inr (looks_on c.args.tracked.now c.args.history.now c.args.place c.in-Some.entry.now c.args.was c.args.is c.in_ok-old.old c.in_ok-new.new c.entry_at.new.steps c.close_run.new.steps c.args.steps.now c.in-Some.ensures.entry (some_not (columns_after c.in-Some.entry.now) c.in-Some-after._columns.now c.in-Some-after.ensures) c.in_ok-old.ensures c.in_ok-new.ensures (rows_other c.in_ok-old.old c.in_ok-new.new (sym c.if-eq.ensures)) c.in-Some.ensures.looks c.in_ok-close_run.ensures.looks)
