use Rattle.cdc_scd2.specs.Cache.{IsCached}
use Rattle.cdc_scd2.proofs.tests.last_change.Given as goal

abbrev pub invariant-loop-line : goal.invariant-loop-line
invariant-loop-line g l = IsCached l.flow.ignore_null l.history
