use Rattle.std.proofs.Common.{◌≡◌, drop}
use Rattle.std.specs.Prelude.{find, is_some}
use Rattle.state_model.specs.Dataset.{is_defined}
use Rattle.payload_parts.proofs.definitions.is_defined.Given as goal

-- the definitions that are left have the answer
abbrev pub invariant-loop-definition : goal.invariant-loop-definition
invariant-loop-definition l = is_some (find (is_defined l.name) (drop l.definition-index l.list)) ≡ is_some (find (is_defined l.name) l.list)
