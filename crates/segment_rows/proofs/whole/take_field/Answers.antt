use Rattle.std.proofs.Common.{arith}
use Rattle.segment_rows.proofs.WholeLemmas.{finds, if_ok_then}
use Rattle.segment_rows.proofs.whole.take_field.Goals as goal

pub returns : goal.returns
returns g c = if_ok_then c.take.result c.take.ensures (λ found reads. finds g.met.T.Field.exact c.args.bytes.now c.args.at found (λ i. omega (arith, c.type_inv.bytes i)) c.requires reads)
