use Rattle.std.proofs.Common.{◌≡◌, sym, subst, ap, ◌∙◌, arith}
use Rattle.event_history.proofs.Finds.{ascending_put}
use Rattle.event_history.proofs.history.History.put.Goals as goal

pub invariant_of-self-2 : goal.invariant_of-self-2
invariant_of-self-2 c = rw c.in_ok-insert.ensures.items (ascending_put c.args.entry c.self.inside.entries.items c.args.i c.self.invariant (rw c.self.view_is c.requires.below) (rw c.self.view_is c.requires.above))
