use Rattle.std.proofs.Common.{◌≡◌, drop}
use Rattle.std.specs.List.{list_any}
use Rattle.value_core.specs.Order.{is_null}
use Rattle.payload_parts.proofs.events.has_null.Given as goal

-- the values that are left have the answer
abbrev pub invariant-loop-value : goal.invariant-loop-value
invariant-loop-value l = list_any is_null (drop l.value-index l.row) ≡ list_any is_null l.row
