use Rattle.std.proofs.Common.{◌<◌, length, arith}
use Rattle.segment_rows.proofs.WholeLemmas.{whole_none, whole_short, whole_one}
use Rattle.segment_rows.proofs.whole.read_whole.Goals as goal

pub returns-in_default : goal.returns-in_default
returns-in_default g c = whole_none g.met.T.Field.exact c.args.bytes.now (rw c.in_default.is at c.in_ok-value.ensures)

pub returns-then-end-bytes : goal.returns-then-end-bytes
returns-then-end-bytes g c =
    let reads = rw c.in-Some.is at c.in_ok-value.ensures in
    let short : c.in-Some.end < length c.args.bytes.now = omega (arith, reads.1, c.if-end-bytes.true) in
    whole_short g.met.T.Field.exact c.args.bytes.now c.in-Some.value c.in-Some.end short reads.2

pub returns : goal.returns
returns g c =
    let reads = rw c.in-Some.is at c.in_ok-value.ensures in
    whole_one g.met.T.Field.exact c.args.bytes.now c.in-Some.value c.in-Some.end (λ i. omega (arith, c.type_inv.bytes i)) c.if-end-bytes.false reads.2
