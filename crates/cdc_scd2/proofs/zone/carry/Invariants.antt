use Rattle.std.proofs.Common.{◌≡◌, ◌+◌, ◌++◌, drop, length}
use Rattle.std.specs.Prelude.{option_copied}
use Rattle.cdc_scd2.specs.Cache.{carried_on, last_or}
use Rattle.cdc_scd2.proofs.zone.carry.Given as goal

abbrev pub invariant-loop-i : goal.invariant-loop-i
invariant-loop-i g l = (l.rows.items ++ carried_on l.ignore_null (last_or (option_copied l.first) l.rows.items) (drop l.i l.history) ≡ carried_on l.ignore_null (option_copied l.first) (drop l.fn.place l.history))
    × (l.steps ≡ l.fn.steps + length l.rows.items)
