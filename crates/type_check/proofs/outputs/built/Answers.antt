use Rattle.std.proofs.Common.{◌≡◌, length, ap, ◌∙◌, arith}
use Rattle.type_check.specs.Outputs.{looked_at}
use Rattle.type_check.proofs.Limits.{enough}
use Rattle.type_check.proofs.outputs.built.Goals as goal

pub returns-then-len-gt-MAX_COLUMNS : goal.returns-then-len-gt-MAX_COLUMNS
returns-then-len-gt-MAX_COLUMNS c =
    let s = c.loop-output in
    ap looked_at s.invariant
    ∙ enough c.args.source.now c.args.outs.now s.output-index (omega (arith, ap length s.invariant, c.len.ensures, c.if-len-gt-MAX_COLUMNS.true))
