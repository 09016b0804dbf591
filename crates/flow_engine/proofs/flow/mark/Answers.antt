use Rattle.std.proofs.Common.{sym}
use Rattle.flow_engine.proofs.PlaceLemmas.{marked_not, marked_there}
use Rattle.flow_engine.proofs.flow.mark.Goals as goal

pub returns-then-is : goal.returns-then-is
returns-then-is c = rw c.if-is.true (marked_there c.args.place c.args.halted.now.items)

pub returns-else-is : goal.returns-else-is
returns-else-is c = rw c.if-is.false (sym (marked_not c.args.place c.args.halted.now.items))
