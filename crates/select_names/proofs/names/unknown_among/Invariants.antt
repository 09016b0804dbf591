use Rattle.std.proofs.Common.{◌≡◌, drop}
use Rattle.std.specs.Prelude.{map}
use Rattle.statement_checks.specs.Repeats.{first_of}
use Rattle.expr_typing.specs.Typing.{if_unknown}
use Rattle.select_names.proofs.names.unknown_among.Given as goal

-- no name so far has an unknown name
abbrev pub invariant-loop-name : goal.invariant-loop-name
invariant-loop-name l = first_of (map (if_unknown l.source) (drop l.name-index l.names)) ≡ first_of (map (if_unknown l.source) l.names)
