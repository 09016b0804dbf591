use Rattle.std.proofs.Common.{Err, subst}
use Rattle.view_upkeep.specs.Settled.{SidesAnswer}
use Rattle.view_upkeep.proofs.TurnLemmas.{after_it, groups_stopped, groups_turned}
use Rattle.view_upkeep.proofs.view.turn_by.Goals as goal

pub returns-in-Ok-settle_sides-clause-turned : goal.returns-in-Ok-settle_sides-clause-turned
returns-in-Ok-settle_sides-clause-turned g c = λ rows change before e may is counted keeps.
    groups_turned c.args.query.now c.args.expectations.now rows change before c.args.patches.now c.args.counts.now c.apply.new.groups c.in-Ok.sides c.in-Ok-settle_sides.turn e may is counted
    (after_it c.args.query.now c.args.expectations.now rows change before c.args.patches.now c.args.groups.now c.apply.new.groups c.in-Ok.sides may is keeps c.in-Ok.ensures.turned) c.in-Ok-settle_sides.ensures

pub returns-in-Ok-undo-clause-turned : goal.returns-in-Ok-undo-clause-turned
returns-in-Ok-undo-clause-turned g c = λ rows change before e may is counted keeps.
    groups_stopped c.args.query.now c.args.expectations.now rows change before c.args.patches.now c.args.counts.now c.apply.new.groups c.undo.new.groups c.in-Ok.sides c.in-Ok-undo.field-0 c.in-Err-Stop.stop e may is
    (after_it c.args.query.now c.args.expectations.now rows change before c.args.patches.now c.args.groups.now c.apply.new.groups c.in-Ok.sides may is keeps c.in-Ok.ensures.turned)
    (subst (λ end. SidesAnswer c.args.expectations.now c.args.counts.now c.in-Ok.sides (Err end)) c.in-Err-Stop.field-0-is c.in-Err-Stop.ensures) c.in-Ok-undo.ensures.turned
