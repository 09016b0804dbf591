use Rattle.payload_parts.proofs.RowLemmas.{held_are}
use Rattle.payload_parts.proofs.rows.holds.Goals as goal

pub returns : goal.returns
returns c = held_are c.args.rows c.args.others.now c.in_ok-wanted.wanted c.in_ok-change.change c.removes_none-none.result c.in_ok-wanted.ensures c.in_ok-change.ensures c.removes_none-none.ensures
