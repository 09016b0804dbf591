use Rattle.std.proofs.Common.{sym, arith}
use Rattle.std.proofs.lemmas.Int.{ints}
use Rattle.view_groups.proofs.CellLemmas.{both_ok, total_less}
use Rattle.view_groups.proofs.cell.Cell.take.Goals as goal

pub returns-in-Total : goal.returns-in-Total
returns-in-Total c = rw c.in-Total.is (both_ok c.take.result c.take.ensures.known c.take.ensures.total (λ known sum. total_less c.args.value.now c.in-Total.sum c.take.new.self (sym c.if-is_null.ensures) known (omega (arith, ints, sum, c.number.ensures))))
