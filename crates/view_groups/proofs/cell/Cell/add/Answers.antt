use Rattle.std.proofs.Common.{sym, arith}
use Rattle.std.proofs.lemmas.Int.{ints}
use Rattle.view_groups.proofs.CellLemmas.{both_ok, total_more}
use Rattle.view_groups.proofs.cell.Cell.add.Goals as goal

pub returns-in-Total : goal.returns-in-Total
returns-in-Total c = rw c.in-Total.is (both_ok c.add.result c.add.ensures.known c.add.ensures.total (λ known sum. total_more c.args.value.now c.in-Total.sum c.add.new.self (sym c.if-is_null.ensures) known (omega (arith, ints, sum, c.number.ensures))))
