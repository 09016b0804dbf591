use Rattle.std.proofs.Common.{◌≡◌, drop}
use Rattle.std.specs.Prelude.{map}
use Rattle.statement_checks.specs.Repeats.{first_of}
use Rattle.expr_typing.specs.Typing.{first_unknown}
use Rattle.select_names.proofs.names.unknown_in_groups.Given as goal

-- no tree so far has an unknown name
abbrev pub invariant-loop-tree : goal.invariant-loop-tree
invariant-loop-tree l = first_of (map (first_unknown l.source) (drop l.tree-index l.groups)) ≡ first_of (map (first_unknown l.source) l.groups)
