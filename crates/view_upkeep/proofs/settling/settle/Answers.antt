use Rattle.view_upkeep.proofs.SettleLemmas.{settled, settle_new, settle_old}
use Rattle.view_upkeep.proofs.settling.settle.Goals as goal

pub returns-in-Ok-judge_part : goal.returns-in-Ok-judge_part
returns-in-Ok-judge_part c = settled c.args.expectations.now c.args.counts.now c.args.parts.before c.args.parts.after c.in-Ok-judge_part.old c.in-Ok.new c.finish.result c.in-Ok-judge_part.ensures c.in-Ok.ensures
    c.finish.ensures.change c.finish.ensures.tallies c.finish.ensures.memory

pub returns-in-Err-judge_part : goal.returns-in-Err-judge_part
returns-in-Err-judge_part c = settle_old c.args.expectations.now c.args.counts.now c.args.parts.before c.args.parts.after c.in-Ok.new c.in-Err-judge_part.end c.in-Err-judge_part.ensures c.in-Ok.ensures

pub returns-in-Err : goal.returns-in-Err
returns-in-Err c = settle_new c.args.expectations.now c.args.counts.now c.args.parts.before c.args.parts.after c.in-Err.end c.in-Err.ensures
