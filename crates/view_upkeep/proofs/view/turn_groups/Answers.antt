use Rattle.std.proofs.Common.{arith}
use Rattle.view_upkeep.proofs.TurnLemmas.{groups_faulted}
use Rattle.view_upkeep.proofs.view.turn_groups.Goals as goal

pub returns-in-Ok-clause-turned : goal.returns-in-Ok-clause-turned
returns-in-Ok-clause-turned g c = λ rows before e may counted keeps. c.turn_by.ensures.turned rows c.args.delta.now before e may c.in-Ok.ensures.patches counted keeps

pub returns-in-Ok-clause-looks : goal.returns-in-Ok-clause-looks
returns-in-Ok-clause-looks g c = omega (arith, c.in-Ok.ensures.looks, c.turn_by.ensures.looks, c.in-Ok.ensures.patches.1.few)

pub returns-in-Err-clause-turned : goal.returns-in-Err-clause-turned
returns-in-Err-clause-turned g c = λ rows before e may counted keeps. groups_faulted c.args.query.now c.args.expectations.now rows c.args.delta.now before c.args.groups.now c.in-Err.end may c.in-Err.ensures.patches keeps
