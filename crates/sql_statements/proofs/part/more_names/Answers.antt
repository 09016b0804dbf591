use Rattle.std.proofs.Common.{rules, arith}
use Rattle.std.proofs.lemmas.Grind.{common_steps}
use Rattle.sql_phrases.proofs.Turns.{one_more, no_more}
use Rattle.sql_tree.specs.declared.lexeme.LexemeKind.TheVariants as k
use Rattle.sql_phrases.specs.Tokens.{name_of}
use Rattle.sql_statements.specs.Parsers.{token, rest_from}
use Rattle.sql_statements.proofs.part.more_names.Goals as goal

pub returns-then-not-eat : goal.returns-then-not-eat
unfolding rest_from
returns-then-not-eat c =
    let e = one_more (λ n. rest_from k.Comma (token name_of) n c.loop-turn.found c.loop-turn.reader) _ c.loop-turn._turn c.loop-turn-test.true c.loop-turn.invariant in
    first_of (search rules, grind (arith, common_steps))

pub returns-in_err-name : goal.returns-in_err-name
unfolding rest_from
returns-in_err-name c =
    let e = one_more (λ n. rest_from k.Comma (token name_of) n c.loop-turn.found c.loop-turn.reader) _ c.loop-turn._turn c.loop-turn-test.true c.loop-turn.invariant in
    first_of (search rules, grind (arith, common_steps))

pub loop-turn-preserved : goal.loop-turn-preserved
unfolding rest_from
loop-turn-preserved c =
    let e = one_more (λ n. rest_from k.Comma (token name_of) n c.loop-turn.found c.loop-turn.reader) _ c.loop-turn._turn c.loop-turn-test.true c.loop-turn.invariant in
    first_of (search rules, grind (arith, common_steps))

pub returns : goal.returns
unfolding rest_from
returns c =
    let e = no_more (λ n. rest_from k.Comma (token name_of) n c.loop-turn.found c.loop-turn.reader) _ c.loop-turn._turn c.loop-turn-test.false c.loop-turn.invariant in
    first_of (search rules, grind (arith, common_steps))
