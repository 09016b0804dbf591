use Rattle.std.proofs.Common.{◌≡◌, ap, arith}
use Rattle.sql_expr.specs.Descent.{expr}
use Rattle.sql_phrases.proofs.Turns.{deeper}
use Rattle.sql_expr.proofs.grammar.+expr.Goals as goal

pub returns-then-depth-eq0 : goal.returns-then-depth-eq0
unfolding expr
returns-then-depth-eq0 t c _ = let none : c.args.depth ≡ 0 = omega arith in ap (λ n. expr n c.args.least c.args.reader.now) none

pub returns : goal.returns
unfolding expr
returns t c = rw (deeper (λ n. expr n c.args.least c.args.reader.now) c.args.depth (omega arith)) c.level.ensures
