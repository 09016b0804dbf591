use Rattle.std.proofs.Common.{◌≡◌, sym, subst, ap, ◌∙◌, arith, set}
use Rattle.event_history.specs.Histories.{AreAscending, with_effective}
use Rattle.event_history.proofs.Finds.{ascending_effective, written}
use Rattle.event_history.proofs.history.History.set_effective.Goals as goal

pub invariant_of-self : goal.invariant_of-self
invariant_of-self c = subst AreAscending (sym (written c.self.inside.entries.items c.args.i c.index_mut.result.now c.args.columns (rw c.self.view_is c.requires) c.index_mut.ensures.value)) (ascending_effective c.self.inside.entries.items c.args.i c.args.columns c.self.invariant)

pub returns : goal.returns
returns c = written c.self.inside.entries.items c.args.i c.index_mut.result.now c.args.columns (rw c.self.view_is c.requires) c.index_mut.ensures.value ∙ ap (λ entries. with_effective entries c.args.i c.args.columns) c.self.view_is
