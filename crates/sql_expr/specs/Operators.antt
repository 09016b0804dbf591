-- What tokens are to an expression: how tightly they bind, and which operator or function they are.
use Rattle.std.specs.Prelude.{ℕ, if◌then◌else◌, ◌==◌, Bool, List, [], ◌∷◌, Option, Some, None, ℤ, pos, negsuc, zero, suc, codes}
use Rattle.sql_tree.specs.declared.expr.SqlOp.{SqlOp}
use Rattle.sql_tree.specs.declared.expr.SqlOp.TheVariants as op
use Rattle.sql_tree.specs.declared.expr.SqlExpr.{SqlExpr}
use Rattle.sql_tree.specs.declared.expr.SqlExpr.TheVariants as e
use Rattle.sql_tree.specs.declared.lexeme.LexemeKind.{LexemeKind}
use Rattle.sql_tree.specs.declared.lexeme.LexemeKind.TheVariants as k
use Rattle.sql_tree.specs.declared.lexeme.Lexeme.{Lexeme}
use Rattle.sql_tree.specs.Lexemes.{kind, same_kind, is_bare}
use Rattle.sql_phrases.specs.Parsers.{sees, next}
use Rattle.sql_expr.specs.declared.operators.Function.{Function}
use Rattle.sql_expr.specs.declared.operators.Function.TheVariants as f

-- How tightly a token binds as an operator: 1 OR, 2 AND, 5 what makes a test, 6 sums, 7 products, and 0 for no
-- operator. No expression goes on with a parenthesis, which only a word before it may claim.
abbrev pub binds : LexemeKind → ℕ
binds k.Or = 1
binds k.And = 2
binds k.Eq = 5
binds k.Ne = 5
binds k.Lt = 5
binds k.Le = 5
binds k.Gt = 5
binds k.Ge = 5
binds k.Is = 5
binds k.Not = 5
binds k.In = 5
binds k.Between = 5
binds k.Plus = 6
binds k.Minus = 6
binds k.Concat = 6
binds k.Star = 7
binds k.Div = 7
binds k.Percent = 7
binds k.LParen = 9
binds _ = 0

-- the operators of two operands
abbrev pub operator : LexemeKind → Option SqlOp
operator k.Or = Some op.Or
operator k.And = Some op.And
operator k.Eq = Some op.Eq
operator k.Ne = Some op.Ne
operator k.Lt = Some op.Lt
operator k.Le = Some op.Le
operator k.Gt = Some op.Gt
operator k.Ge = Some op.Ge
operator k.Plus = Some op.Add
operator k.Minus = Some op.Sub
operator k.Concat = Some op.Concat
operator k.Star = Some op.Mul
operator k.Div = Some op.Div
operator k.Percent = Some op.Rem
operator _ = None

-- the literal with this value behind a minus
abbrev pub negated : ℕ → ℤ
negated zero = pos 0
negated (suc n) = negsuc n

-- the level of what an operator of this tightness makes: a test doesn't go on as one
abbrev pub made : ℕ → ℕ
made b = if b == 5 then 4 else b

-- the function that a bare word names, in any case of letters
abbrev pub function_of : Lexeme → Option Function
function_of t =
    if is_bare (codes "coalesce") t then Some f.Coalesce
    else (if is_bare (codes "count") t then Some f.Count
    else (if is_bare (codes "sum") t then Some f.Sum else (if is_bare (codes "min") t then Some f.Min else (if is_bare (codes "max") t then Some f.Max else None))))

-- of the next token
abbrev pub function_at : List Lexeme → Option Function
function_at [] = None
function_at (t ∷ ts) = function_of t

-- a word is a function only where a parenthesis follows it
abbrev pub call_at : List Lexeme → Option Function
call_at i = if sees k.LParen (next i) then function_at i else None

-- the call of a function of one expression
abbrev pub call_of : Function → SqlExpr → Option SqlExpr
call_of f.Coalesce x = None
call_of f.Count x = Some (e.Count x)
call_of f.Sum x = Some (e.Sum x)
call_of f.Min x = Some (e.Min x)
call_of f.Max x = Some (e.Max x)

-- CAST, or TRY_CAST
abbrev pub cast_kind : Bool → LexemeKind
cast_kind trying = if trying then k.TryCast else k.Cast
