use Rattle.std.proofs.Common.{◌≡◌, drop}
use Rattle.value_core.specs.NameFold.{same_name}
use Rattle.statement_checks.specs.Repeats.{repeat_behind, first_repeat}
use Rattle.select_names.specs.SelectNames.{select_names}
use Rattle.select_names.proofs.repeats.repeat_in_outs.Given as goal

-- the first among the outputs that are left is the first of all
abbrev pub invariant-loop-output : goal.invariant-loop-output
invariant-loop-output l = repeat_behind same_name l.seen (select_names l.source (drop l.output-index l.outs)) ≡ first_repeat (select_names l.source l.outs)
