use Rattle.std.proofs.Common.{◌≡◌, List, length}
use Rattle.commit_payloads.specs.declared.definition.Definition.{Definition}
use Rattle.store_tables.specs.Parts.{side_by_side}
use Rattle.store_tables.specs.Undo.{all_restored}
use Rattle.store_tables.proofs.members.fill_again.Given as goal

-- what is left to be given fills what is there as all of it fills what was there
abbrev pub invariant-loop-rest : goal.invariant-loop-rest
invariant-loop-rest l = record {
  again : (list : List Definition) → all_restored l.left.items (side_by_side list l.parts.items) ≡ all_restored l.fn.rests.items (side_by_side list l.fn.parts.items);
  long : length l.parts.items ≡ length l.fn.parts.items;
}

abbrev pub decreases-loop-rest : goal.decreases-loop-rest
decreases-loop-rest l = length l.left.items
