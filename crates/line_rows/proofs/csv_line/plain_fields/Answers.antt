use Rattle.std.proofs.Common.{◌∙◌, ap, map}
use Rattle.line_rows.proofs.PlainLines.{plain_line}
use Rattle.line_rows.proofs.csv_line.plain_fields.Goals as goal

pub returns : goal.returns
returns c = c.in_ok-fields.ensures.fields ∙ ap (map (λ piece. piece.now)) c.as_slice.ensures.value ∙ c.in_ok-pieces.ensures ∙ plain_line c.args.sep c.args.line.now c.requires.sound c.requires.plain
