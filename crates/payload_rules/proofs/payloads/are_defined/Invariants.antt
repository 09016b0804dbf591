use Rattle.std.proofs.Common.{◌≡◌, drop}
use Rattle.state_model.specs.Follows.{are_defined}
use Rattle.payload_rules.proofs.payloads.are_defined.Given as goal

-- the names that are left have the answer
abbrev pub invariant-loop-name : goal.invariant-loop-name
invariant-loop-name l = are_defined l.contents (drop l.name-index l.names) ≡ are_defined l.contents l.names
