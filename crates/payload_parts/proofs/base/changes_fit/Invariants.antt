use Rattle.std.proofs.Common.{◌≡◌, drop}
use Rattle.std.specs.List.{list_all}
use Rattle.state_model.specs.Follows.{all_fit}
use Rattle.payload_parts.proofs.base.changes_fit.Given as goal

-- the changes that are left have the answer
abbrev pub invariant-loop-change : goal.invariant-loop-change
invariant-loop-change l = list_all (λ change. all_fit l.definition.columns change.added) (drop l.change-index l.changes) ≡ list_all (λ change. all_fit l.definition.columns change.added) l.changes
