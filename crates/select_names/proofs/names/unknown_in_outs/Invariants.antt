use Rattle.std.proofs.Common.{◌≡◌, drop}
use Rattle.std.specs.Prelude.{map}
use Rattle.statement_checks.specs.Repeats.{first_of}
use Rattle.select_names.specs.SelectNames.{unknown_in_out}
use Rattle.select_names.proofs.names.unknown_in_outs.Given as goal

-- no output so far has an unknown name
abbrev pub invariant-loop-output : goal.invariant-loop-output
invariant-loop-output l = first_of (map (unknown_in_out l.source) (drop l.output-index l.outs)) ≡ first_of (map (unknown_in_out l.source) l.outs)
