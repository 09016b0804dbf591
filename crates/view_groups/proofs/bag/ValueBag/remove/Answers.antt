use Rattle.std.proofs.Common.{◌-◌, rules, sym, subst}
use Rattle.std.specs.Prelude.{IsSome}
use Rattle.view_groups.proofs.CountLemmas.{counts_written, counts_removed, no_entry}
use Rattle.view_groups.proofs.bag.ValueBag.remove.Goals as goal

pub returns-then-held-lt2 : goal.returns-then-held-lt2
returns-then-held-lt2 c = counts_removed c.args.self.now.times.entries c.remove.new.self.entries c.args.value.now c.unwrap_or-held.result (search rules) c.if-held-lt2.true c.remove.ensures.updates.0

pub returns-in-Some : goal.returns-in-Some
returns-in-Some c = counts_written c.args.self.now.times.entries (c.get_mut.follows.lender (c.unwrap_or-held.result - 1)).entries c.args.value.now c.unwrap_or-held.result (search rules) c.if-held-lt2.false
    ((c.get_mut.follows.holds (c.unwrap_or-held.result - 1)).3 (subst IsSome c.in-Some.ensures.value (search rules))).0

pub returns-in-None : goal.returns-in-None
returns-in-None c = absurd (no_entry c.args.self.now.times.entries c.args.value.now c.unwrap_or-held.result (search rules) c.if-held-lt2.false (sym c.in-None.ensures.value))
