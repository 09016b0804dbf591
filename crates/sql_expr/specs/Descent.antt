-- The reader as a function on tokens. The public contracts speak of the grammar and not of this.
use Rattle.std.specs.Prelude.{◌≡◌, ◌≢◌, ◌≤◌, ◌<◌, ◌^◌, ℕ, zero, suc, ◌+◌, Bool, true, false, ◌&&◌, if◌then◌else◌, nat_lt, nat_le, ◌-◌, take, List, [], ◌∷◌, ◌++◌, length, Option, Some, None, Result, Ok, Err, pos}
use Rattle.sql_tree.specs.declared.expr.SqlOp.{SqlOp}
use Rattle.sql_tree.specs.declared.expr.SqlType.{SqlType}
use Rattle.sql_tree.specs.declared.expr.SqlExpr.{SqlExpr}
use Rattle.sql_tree.specs.declared.expr.SqlExpr.TheVariants as e
use Rattle.sql_tree.specs.declared.expr.SqlArm.{SqlArm}
use Rattle.sql_expr.specs.declared.error.Refusal.{Refusal}
use Rattle.sql_expr.specs.declared.error.Refusal.TheVariants.{Unexpected}
use Rattle.sql_expr.specs.declared.error.Refusal.TheVariants as refusals
use Rattle.sql_expr.specs.Grammar.{arm}
use Rattle.sql_tree.specs.declared.lexeme.LexemeKind.{LexemeKind}
use Rattle.sql_tree.specs.declared.lexeme.LexemeKind.TheVariants as k
use Rattle.sql_tree.specs.declared.lexeme.Lexeme.{Lexeme}
use Rattle.sql_tree.specs.Lexemes.{kind}
use Rattle.sql_phrases.specs.Parsers.{Outcome, Parser, and_then, ◌>>=◌, ◌>>◌, ◌<$>◌, pure, refuse, next, text, value, skip, sees, eat, expect, type_name}
use Rattle.sql_expr.specs.declared.operators.Function.{Function}
use Rattle.sql_expr.specs.declared.operators.Function.TheVariants as f
use Rattle.sql_expr.specs.Operators.{binds, operator, made, negated, call_at}

unfoldable pub number : Parser SqlExpr
number = λ i. if nat_lt (value i) (2 ^ 63) then Ok (e.Number (pos (value i)), next i) else Err i

unfoldable pub negative : Parser SqlExpr
negative = λ i. if nat_le (value i) (2 ^ 63) then Ok (e.Number (negated (value i)), next i) else Err i

abbrev pub name : Parser SqlExpr
name = λ i. Ok (e.Name (text i), next i)

-- the level of what begins with a token
abbrev pub start_level : LexemeKind → ℕ
start_level k.Not = 3
start_level _ = 8

-- The number that expr takes is the least level of the expression.
module _ (expr : ℕ → Parser SqlExpr) where
  -- after the first parenthesis
  unfoldable pub parenthesized : Parser SqlExpr
  parenthesized = do
    x ← expr 1
    expect k.RParen
    pure x

  unfoldable pub list_from : ℕ → List SqlExpr → Parser (List SqlExpr)
  list_from zero found = refuse
  list_from (suc n) found = do
    x ← expr 1
    more ← eat k.Comma
    if more then list_from n (found ++ x ∷ []) else pure (found ++ x ∷ [])

  unfoldable pub list : Parser (List SqlExpr)
  list = λ i. list_from (length i) [] i

  unfoldable pub list_in_parens : Parser (List SqlExpr)
  list_in_parens = do
    expect k.LParen
    xs ← list
    expect k.RParen
    pure xs

  -- after the minus
  unfoldable pub minus : Parser SqlExpr
  minus = λ i. if sees k.Number i then negative i else (e.Neg <$> expr 8) i

  -- WHEN expr THEN expr
  unfoldable pub one_arm : Parser SqlArm
  one_arm = do
    expect k.When
    when ← expr 1
    expect k.Then
    then_ ← expr 1
    pure (arm when then_)

  unfoldable pub arms_from : ℕ → List SqlArm → Parser (List SqlArm)
  arms_from zero found = refuse
  arms_from (suc n) found = do
    x ← one_arm
    more ← (λ i. Ok (sees k.When i, i))
    if more then arms_from n (found ++ x ∷ []) else pure (found ++ x ∷ [])

  unfoldable pub arms : Parser (List SqlArm)
  arms = λ i. arms_from (length i) [] i

  unfoldable pub else_part : Parser (Option SqlExpr)
  else_part = do
    found ← eat k.Else
    if found then (do x ← expr 1; pure (Some x)) else pure None

  -- after CASE
  unfoldable pub case : Parser SqlExpr
  case = do
    found ← arms
    other ← else_part
    expect k.EndWord
    pure (e.Case found other)

  -- after CAST and TRY_CAST
  unfoldable pub cast : Bool → Parser SqlExpr
  cast trying = do
    expect k.LParen
    x ← expr 1
    expect k.As
    type ← type_name
    expect k.RParen
    pure (e.Cast x type trying)

  unfoldable pub one_in_parens : Parser SqlExpr
  one_in_parens = do
    expect k.LParen
    x ← expr 1
    expect k.RParen
    pure x

  -- after count
  unfoldable pub counted : Parser SqlExpr
  counted = do
    expect k.LParen
    all ← eat k.Star
    if all then (do expect k.RParen; pure e.CountAll) else (do x ← expr 1; expect k.RParen; pure (e.Count x))

  abbrev pub named_by : Option Function → Parser SqlExpr
  named_by None = name
  named_by (Some f.Coalesce) = skip >> e.Coalesce <$> list_in_parens
  named_by (Some f.Count) = skip >> counted
  named_by (Some f.Sum) = skip >> e.Sum <$> one_in_parens
  named_by (Some f.Min) = skip >> e.Min <$> one_in_parens
  named_by (Some f.Max) = skip >> e.Max <$> one_in_parens

  -- a name or a call
  unfoldable pub named : Parser SqlExpr
  named = λ i. named_by (call_at i) i

  unfoldable pub negation : ℕ → Parser SqlExpr
  negation least = λ i. if nat_le least 3 then (skip >> e.Not <$> expr 3) i else Err i

  abbrev pub prefix_by : ℕ → LexemeKind → Parser SqlExpr
  prefix_by least k.Number = number
  prefix_by least k.Str = λ i. Ok (e.Str (text i), next i)
  prefix_by least k.True = skip >> pure (e.Bool true)
  prefix_by least k.False = skip >> pure (e.Bool false)
  prefix_by least k.Null = skip >> pure e.Null
  prefix_by least k.Word = named
  prefix_by least k.Quoted = name
  prefix_by least k.LParen = skip >> parenthesized
  prefix_by least k.Minus = skip >> minus
  prefix_by least k.Plus = skip >> expr 8
  prefix_by least k.Not = negation least
  prefix_by least k.Cast = skip >> cast false
  prefix_by least k.TryCast = skip >> cast true
  prefix_by least k.Case = skip >> case
  prefix_by least _ = refuse

  unfoldable pub prefix : ℕ → Parser SqlExpr
  prefix least = λ i. prefix_by least (kind i) i

  -- after IS
  unfoldable pub is_null : SqlExpr → Parser SqlExpr
  is_null left = do
    negated ← eat k.Not
    expect k.Null
    pure (e.IsNull left negated)

  -- after IN
  unfoldable pub in_list : SqlExpr → Bool → Parser SqlExpr
  in_list left negated = do
    xs ← list_in_parens
    pure (e.InList left xs negated)

  -- after BETWEEN
  unfoldable pub between : SqlExpr → Bool → Parser SqlExpr
  between left negated = do
    low ← expr 6
    expect k.And
    high ← expr 6
    pure (e.Between left low high negated)

  abbrev pub negated_test_by : SqlExpr → LexemeKind → Parser SqlExpr
  negated_test_by left k.In = skip >> in_list left true
  negated_test_by left k.Between = skip >> between left true
  negated_test_by left _ = refuse

  -- after NOT
  unfoldable pub negated_test : SqlExpr → Parser SqlExpr
  negated_test left = λ i. negated_test_by left (kind i) i

  abbrev pub operated : SqlExpr → ℕ → Option SqlOp → Parser SqlExpr
  operated left level (Some op) = skip >> e.Binary op left <$> expr (level + 1)
  operated left level None = refuse

  abbrev pub operation_by : SqlExpr → LexemeKind → Parser SqlExpr
  operation_by left k.Is = skip >> is_null left
  operation_by left k.Not = skip >> negated_test left
  operation_by left k.In = skip >> in_list left false
  operation_by left k.Between = skip >> between left false
  operation_by left kind = operated left (binds kind) (operator kind)

  unfoldable pub operation : SqlExpr → Parser SqlExpr
  operation left = λ i. operation_by left (kind i) i

  -- goes on with an expression of a level, by operators from the least level on
  unfoldable pub climb : ℕ → ℕ → ℕ → SqlExpr → Parser SqlExpr
  climb zero least level left = pure left
  climb (suc n) least level left = λ i.
      if nat_lt (binds (kind i)) least then Ok (left, i)
      else (if nat_lt level (binds (kind i)) then Err i else (operation left >>= climb n least (made (binds (kind i)))) i)

  unfoldable pub level : ℕ → Parser SqlExpr
  level least = λ i. (prefix least >>= (λ x o. climb (length o) least (start_level (kind i)) x o)) i

-- in at most this many nested calls
unfoldable pub expr : ℕ → ℕ → Parser SqlExpr
expr zero least = refuse
expr (suc depth) least = level (expr depth) least

-- all of the tokens as one expression, or the place of the refused token
abbrev pub ended : ℕ → Outcome SqlExpr → Result SqlExpr ℕ
ended n (Ok (x, [])) = Ok x
ended n (Ok (x, t ∷ ts)) = Err (n - length (t ∷ ts))
ended n (Err r) = Err (n - length r)

unfoldable pub whole : List Lexeme → Result SqlExpr ℕ
whole ts = ended (length ts) (expr (length ts) 1 ts)

-- a call answers so, unless memory fails
abbrev pub IsPlaced : Result SqlExpr ℕ → Result SqlExpr Refusal → Type 0
IsPlaced answer (Ok x) = answer ≡ Ok x
IsPlaced answer (Err refusals.Memory) = Unit {0}
IsPlaced answer (Err (Unexpected at)) = answer ≡ Err at
