use Rattle.std.proofs.Common.{◌≡◌, drop}
use Rattle.std.specs.List.{list_any}
use Rattle.value_core.specs.NameFold.{same_name}
use Rattle.payload_parts.proofs.definitions.is_among.Given as goal

-- the names that are left have the answer
abbrev pub invariant-loop-other : goal.invariant-loop-other
invariant-loop-other l = list_any (same_name l.name) (drop l.other-index l.names) ≡ list_any (same_name l.name) l.names
