use Rattle.view_upkeep.proofs.TurnLemmas.{plain_turned, plain_stopped}
use Rattle.view_upkeep.proofs.view.turn_plain.Goals as goal

pub returns-in-Ok-clause-turned : goal.returns-in-Ok-clause-turned
returns-in-Ok-clause-turned g c = λ rows before e may counted. plain_turned c.args.query.now c.args.expectations.now rows c.args.delta.now before c.args.counts.now c.in-Ok.parts c.settle.result e may counted c.in-Ok.ensures.parts c.settle.ensures

pub returns-in-Err-clause-turned : goal.returns-in-Err-clause-turned
returns-in-Err-clause-turned g c = λ rows before e may counted. plain_stopped c.args.query.now c.args.expectations.now rows c.args.delta.now before c.in-Err.end e may c.in-Err.ensures.parts
