use Rattle.std.proofs.Common.{◌≡◌, ◌++◌}
use Rattle.cdc_histories.proofs.folding.history_of.Given as goal

abbrev pub invariant-loop-entry : goal.invariant-loop-entry
invariant-loop-entry l = l.history ++ l.entry-iterator.rest.items ≡ l.fn.entries.items
