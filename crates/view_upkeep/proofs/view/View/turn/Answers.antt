use Rattle.std.proofs.Common.{refl}
use Rattle.view_upkeep.proofs.StandLemmas.{counts_before, stopped, turned}
use Rattle.view_upkeep.proofs.view.View.turn.Goals as goal

pub returns-in-Ok-copy_tallies-clause-turned : goal.returns-in-Ok-copy_tallies-clause-turned
returns-in-Ok-copy_tallies-clause-turned g c = λ rows before stands may.
    turned c.args.query.now c.args.expectations.now rows c.args.delta.now before (record { groups = c.turn_kept.new.groups; counts = c.in-Ok-copy_tallies.counts }) c.in-Ok.turn
    (c.in-Ok.ensures.turned rows before may (counts_before c.args.query.now c.args.expectations.now c.args.self.now rows c.args.delta.now before stands may) stands.groups) c.in-Ok-copy_tallies.ensures

pub returns-in-Err-clause-turned : goal.returns-in-Err-clause-turned
returns-in-Err-clause-turned g c = λ rows before stands may.
    stopped c.args.query.now c.args.expectations.now rows c.args.delta.now before c.args.self.now (record { groups = c.turn_kept.new.groups; counts = c.args.self.now.counts }) c.in-Err.unturned stands
    (c.in-Err.ensures.turned rows before may (counts_before c.args.query.now c.args.expectations.now c.args.self.now rows c.args.delta.now before stands may) stands.groups) refl
