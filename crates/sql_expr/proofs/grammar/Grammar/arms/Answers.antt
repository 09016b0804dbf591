use Rattle.std.proofs.Common.{rules, arith}
use Rattle.std.proofs.lemmas.Grind.{common_steps}
use Rattle.sql_expr.specs.Descent.{expr, arms, arms_from}
use Rattle.sql_phrases.proofs.Turns.{one_more, no_more}
use Rattle.sql_expr.proofs.grammar.Grammar.arms.Goals as goal

pub returns-in_err-one_arm : goal.returns-in_err-one_arm
unfolding arms_from
returns-in_err-one_arm g c =
    let e = one_more (λ n. arms_from (expr c.args.self.now.depth) n c.loop-turn.found c.loop-turn.reader) _ c.loop-turn._turn c.loop-turn-test.true c.loop-turn.invariant in
    first_of (search rules, grind (arith, common_steps))

pub returns-then-not-sees : goal.returns-then-not-sees
unfolding arms_from
returns-then-not-sees g c =
    let e = one_more (λ n. arms_from (expr c.args.self.now.depth) n c.loop-turn.found c.loop-turn.reader) _ c.loop-turn._turn c.loop-turn-test.true c.loop-turn.invariant in
    first_of (search rules, grind (arith, common_steps))

pub loop-turn-preserved : goal.loop-turn-preserved
unfolding arms_from
loop-turn-preserved g c =
    let e = one_more (λ n. arms_from (expr c.args.self.now.depth) n c.loop-turn.found c.loop-turn.reader) _ c.loop-turn._turn c.loop-turn-test.true c.loop-turn.invariant in
    first_of (search rules, grind (arith, common_steps))

pub returns : goal.returns
unfolding arms_from
returns g c =
    let e = no_more (λ n. arms_from (expr c.args.self.now.depth) n c.loop-turn.found c.loop-turn.reader) _ c.loop-turn._turn c.loop-turn-test.false c.loop-turn.invariant in
    first_of (search rules, grind (arith, common_steps))
