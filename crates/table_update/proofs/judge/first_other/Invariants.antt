use Rattle.std.proofs.Common.{◌≡◌, drop}
use Rattle.table_update.specs.Update.{first_other_in}
use Rattle.table_update.proofs.judge.first_other.Given as goal

abbrev pub invariant-loop-stored : goal.invariant-loop-stored
invariant-loop-stored l = first_other_in l.table (drop l.stored-index l.definitions) ≡ first_other_in l.table l.definitions
