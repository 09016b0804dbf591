use Rattle.std.proofs.Common.{◌≡◌, drop}
use Rattle.std.specs.List.{list_any}
use Rattle.state_model.specs.Dataset.{is_defined}
use Rattle.store_tables.proofs.members.is_member.Given as goal

-- the names that are left have the answer
abbrev pub invariant-loop-name : goal.invariant-loop-name
invariant-loop-name l = list_any (λ name. is_defined name l.definition) (drop l.name-index l.names) ≡ list_any (λ name. is_defined name l.definition) l.names
