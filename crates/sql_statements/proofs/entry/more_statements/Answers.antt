use Rattle.std.proofs.Common.{rules, arith}
use Rattle.std.proofs.lemmas.Grind.{common_steps}
use Rattle.sql_phrases.proofs.Turns.{one_more, no_more}
use Rattle.sql_statements.specs.Descent.{statements_from}
use Rattle.sql_statements.specs.Limits.{limited}
use Rattle.sql_statements.proofs.entry.more_statements.Goals as goal

pub returns-then-not-eat : goal.returns-then-not-eat
unfolding statements_from
returns-then-not-eat c =
    let e = one_more (λ n. statements_from limited n c.loop-turn.found c.loop-turn.reader) _ c.loop-turn._turn c.loop-turn-test.true c.loop-turn.invariant in
    first_of (search rules, grind (arith, common_steps))

pub returns-in_err-statement : goal.returns-in_err-statement
unfolding statements_from
returns-in_err-statement c =
    let e = one_more (λ n. statements_from limited n c.loop-turn.found c.loop-turn.reader) _ c.loop-turn._turn c.loop-turn-test.true c.loop-turn.invariant in
    first_of (search rules, grind (arith, common_steps))

pub loop-turn-preserved : goal.loop-turn-preserved
unfolding statements_from
loop-turn-preserved c =
    let e = one_more (λ n. statements_from limited n c.loop-turn.found c.loop-turn.reader) _ c.loop-turn._turn c.loop-turn-test.true c.loop-turn.invariant in
    first_of (search rules, grind (arith, common_steps))

pub returns : goal.returns
unfolding statements_from
returns c =
    let e = no_more (λ n. statements_from limited n c.loop-turn.found c.loop-turn.reader) _ c.loop-turn._turn c.loop-turn-test.false c.loop-turn.invariant in
    first_of (search rules, grind (arith, common_steps))

pub returns-then-sees : goal.returns-then-sees
unfolding statements_from
returns-then-sees c =
    let e = one_more (λ n. statements_from limited n c.loop-turn.found c.loop-turn.reader) _ c.loop-turn._turn c.loop-turn-test.true c.loop-turn.invariant in
    first_of (search rules, grind (arith, common_steps))
