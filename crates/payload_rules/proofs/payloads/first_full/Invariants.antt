use Rattle.std.proofs.Common.{◌↔◌, ℕ, List, drop}
use Rattle.state_model.specs.Follows.{AllHaveVersions, IsFullOf}
use Rattle.payload_rules.proofs.payloads.first_full.Given as goal

-- the names that are left have the answer
abbrev pub invariant-loop-name : goal.invariant-loop-name
invariant-loop-name l = record {
  none : AllHaveVersions l.contents (drop l.name-index l.names) ↔ AllHaveVersions l.contents l.names;
  full : (full : List ℕ) → IsFullOf l.contents (drop l.name-index l.names) full → IsFullOf l.contents l.names full;
}
