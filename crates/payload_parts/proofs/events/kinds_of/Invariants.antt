use Rattle.std.proofs.Common.{◌≡◌, take}
use Rattle.std.specs.Prelude.{map}
use Rattle.state_model.specs.Follows.{kind_of}
use Rattle.payload_parts.proofs.events.kinds_of.Given as goal

-- the kinds of the columns so far
abbrev pub invariant-loop-column : goal.invariant-loop-column
invariant-loop-column l = l.kinds.items ≡ map kind_of (take l.column-index l.columns)
