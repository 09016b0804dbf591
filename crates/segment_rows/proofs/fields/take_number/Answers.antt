use Rattle.std.proofs.Common.{arith}
use Rattle.segment_rows.specs.FieldLaws.{number_exact}
use Rattle.segment_rows.proofs.WholeLemmas.{finds}
use Rattle.segment_rows.proofs.fields.take_number.Goals as goal

pub returns : goal.returns
returns c = finds number_exact c.args.bytes.now c.args.at c.take_number.result (λ i. omega (arith, c.type_inv.bytes i)) c.requires c.take_number.ensures
