-- The grammar of expressions. The number is the level of the loosest operator outside parentheses:
--
--   1  expr = conj { OR conj }
--   2  conj = neg { AND neg }
--   3  neg  = NOT neg | test
--   4  test = sum [ cmp sum | IS [NOT] NULL | [NOT] IN "(" expr { "," expr } ")" | [NOT] BETWEEN sum AND sum ]
--   5  what a test may begin with, which is a sum
--   6  sum  = prod { ("+" | "-" | "||") prod }
--   7  prod = unary { ("*" | DIV | "%") unary }
--   8  unary = "-" number | "-" unary | "+" unary | prim
use Rattle.std.specs.Prelude.{◌≡◌, ◌≢◌, ℕ, suc, ◌≤◌, ◌<◌, ◌^◌, true, false, List, [], ◌∷◌, ◌++◌, length, take, Option, Some, None, pos, Bool}
use Rattle.sql_tree.specs.declared.expr.SqlOp.{SqlOp}
use Rattle.sql_tree.specs.declared.expr.SqlType.{SqlType}
use Rattle.sql_tree.specs.declared.expr.SqlExpr.{SqlExpr}
use Rattle.sql_tree.specs.declared.expr.SqlExpr.TheVariants as e
use Rattle.sql_tree.specs.declared.expr.SqlArm.{SqlArm, roll-SqlArm}
use Rattle.sql_tree.specs.declared.lexeme.LexemeKind.TheVariants as k
use Rattle.sql_tree.specs.declared.lexeme.Lexeme.{Lexeme}
use Rattle.sql_tree.specs.Lexemes.{kind, type_of}
use Rattle.sql_expr.specs.declared.operators.Function.{Function}
use Rattle.sql_expr.specs.declared.operators.Function.TheVariants as f
use Rattle.sql_expr.specs.Operators.{binds, operator, made, negated, function_of, call_of, cast_kind}

-- NOT, or nothing: before IN and BETWEEN, and after IS
pub data IsNegation : List Lexeme → Bool → Type 0 where
  absent : IsNegation [] false
  present : (n : Lexeme) → n.kind ≡ k.Not → IsNegation (n ∷ []) true

-- WHEN and THEN of a CASE
abbrev pub arm : SqlExpr → SqlExpr → SqlArm
arm x y = roll-SqlArm (record { when = x; then = y })

mutual
  -- These tokens are an expression of this level, and this is its tree.
  pub data Reads : ℕ → List Lexeme → SqlExpr → Type 0 where
    looser : {l : ℕ} {w : List Lexeme} {x : SqlExpr} → Reads (suc l) w x → Reads l w x
    -- literals and names
    number : (t : Lexeme) → t.kind ≡ k.Number → t.value < 2 ^ 63 → Reads 8 (t ∷ []) (e.Number (pos t.value))
    negative : (m t : Lexeme) → m.kind ≡ k.Minus → t.kind ≡ k.Number → t.value ≤ 2 ^ 63 → Reads 8 (m ∷ t ∷ []) (e.Number (negated t.value))
    string : (t : Lexeme) → t.kind ≡ k.Str → Reads 8 (t ∷ []) (e.Str t.text)
    truth : (t : Lexeme) → t.kind ≡ k.True → Reads 8 (t ∷ []) (e.Bool true)
    falsity : (t : Lexeme) → t.kind ≡ k.False → Reads 8 (t ∷ []) (e.Bool false)
    null : (t : Lexeme) → t.kind ≡ k.Null → Reads 8 (t ∷ []) e.Null
    word : (t : Lexeme) → t.kind ≡ k.Word → Reads 8 (t ∷ []) (e.Name t.text)
    quoted : (t : Lexeme) → t.kind ≡ k.Quoted → Reads 8 (t ∷ []) (e.Name t.text)
    -- "(" expr ")"
    parens : (p q : Lexeme) {w : List Lexeme} {x : SqlExpr} →
        p.kind ≡ k.LParen → Reads 1 w x → q.kind ≡ k.RParen → Reads 8 (p ∷ w ++ q ∷ []) x
    -- a minus that no number follows, a plus, NOT
    minus : (m : Lexeme) {w : List Lexeme} {x : SqlExpr} →
        m.kind ≡ k.Minus → kind w ≢ k.Number → Reads 8 w x → Reads 8 (m ∷ w) (e.Neg x)
    plus : (p : Lexeme) {w : List Lexeme} {x : SqlExpr} → p.kind ≡ k.Plus → Reads 8 w x → Reads 8 (p ∷ w) x
    not : (n : Lexeme) {w : List Lexeme} {x : SqlExpr} → n.kind ≡ k.Not → Reads 3 w x → Reads 3 (n ∷ w) (e.Not x)
    -- chains to the left, and comparisons
    binary : {op : SqlOp} (t : Lexeme) {v w : List Lexeme} {x y : SqlExpr} →
        Reads (binds t.kind) v x → operator t.kind ≡ Some op → Reads (suc (binds t.kind)) w y →
        Reads (made (binds t.kind)) (v ++ t ∷ w) (e.Binary op x y)
    -- the other tests
    is_null : (i n : Lexeme) {v s : List Lexeme} {x : SqlExpr} {negated : Bool} →
        Reads 5 v x → i.kind ≡ k.Is → IsNegation s negated → n.kind ≡ k.Null →
        Reads 4 (v ++ i ∷ s ++ n ∷ []) (e.IsNull x negated)
    in_list : (i p q : Lexeme) {v s w : List Lexeme} {x : SqlExpr} {ys : List SqlExpr} {negated : Bool} →
        Reads 5 v x → IsNegation s negated → i.kind ≡ k.In → p.kind ≡ k.LParen → ReadsList w ys → q.kind ≡ k.RParen →
        Reads 4 (v ++ s ++ i ∷ p ∷ w ++ q ∷ []) (e.InList x ys negated)
    between : (b a : Lexeme) {v s w u : List Lexeme} {x y z : SqlExpr} {negated : Bool} →
        Reads 5 v x → IsNegation s negated → b.kind ≡ k.Between → Reads 6 w y → a.kind ≡ k.And → Reads 6 u z →
        Reads 4 (v ++ s ++ b ∷ w ++ a ∷ u) (e.Between x y z negated)
    -- (CAST | TRY_CAST) "(" expr AS type ")"
    cast : (c p a t q : Lexeme) {w : List Lexeme} {x : SqlExpr} {type : SqlType} {trying : Bool} →
        c.kind ≡ cast_kind trying → p.kind ≡ k.LParen → Reads 1 w x → a.kind ≡ k.As → type_of t ≡ Some type → q.kind ≡ k.RParen →
        Reads 8 (c ∷ p ∷ w ++ a ∷ t ∷ q ∷ []) (e.Cast x type trying)
    -- coalesce "(" expr { "," expr } ")"
    coalesce : (c p q : Lexeme) {w : List Lexeme} {xs : List SqlExpr} →
        function_of c ≡ Some f.Coalesce → p.kind ≡ k.LParen → ReadsList w xs → q.kind ≡ k.RParen →
        Reads 8 (c ∷ p ∷ w ++ q ∷ []) (e.Coalesce xs)
    -- count "(" "*" ")"
    count_all : (c p s q : Lexeme) →
        function_of c ≡ Some f.Count → p.kind ≡ k.LParen → s.kind ≡ k.Star → q.kind ≡ k.RParen → Reads 8 (c ∷ p ∷ s ∷ q ∷ []) e.CountAll
    -- (count | sum | min | max) "(" expr ")"
    aggregate : (c p q : Lexeme) {w : List Lexeme} {x y : SqlExpr} {g : Function} →
        function_of c ≡ Some g → p.kind ≡ k.LParen → Reads 1 w x → q.kind ≡ k.RParen → call_of g x ≡ Some y → Reads 8 (c ∷ p ∷ w ++ q ∷ []) y
    -- CASE arms [ELSE expr] END
    case : (c n : Lexeme) {w s : List Lexeme} {arms : List SqlArm} {other : Option SqlExpr} →
        c.kind ≡ k.Case → ReadsArms w arms → ReadsElse s other → n.kind ≡ k.EndWord → Reads 8 (c ∷ w ++ s ++ n ∷ []) (e.Case arms other)

  -- expr { "," expr }
  pub data ReadsList : List Lexeme → List SqlExpr → Type 0 where
    one : {w : List Lexeme} {x : SqlExpr} → Reads 1 w x → ReadsList w (x ∷ [])
    more : (c : Lexeme) {v w : List Lexeme} {x : SqlExpr} {xs : List SqlExpr} →
        Reads 1 v x → c.kind ≡ k.Comma → ReadsList w xs → ReadsList (v ++ c ∷ w) (x ∷ xs)

  -- WHEN expr THEN expr { WHEN expr THEN expr }
  pub data ReadsArms : List Lexeme → List SqlArm → Type 0 where
    last_arm : (w t : Lexeme) {u v : List Lexeme} {x y : SqlExpr} →
        w.kind ≡ k.When → Reads 1 u x → t.kind ≡ k.Then → Reads 1 v y → ReadsArms (w ∷ u ++ t ∷ v) (arm x y ∷ [])
    next_arm : (w t : Lexeme) {u v r : List Lexeme} {x y : SqlExpr} {arms : List SqlArm} →
        w.kind ≡ k.When → Reads 1 u x → t.kind ≡ k.Then → Reads 1 v y → ReadsArms r arms → ReadsArms (w ∷ u ++ t ∷ v ++ r) (arm x y ∷ arms)

  -- [ELSE expr]
  pub data ReadsElse : List Lexeme → Option SqlExpr → Type 0 where
    no_else : ReadsElse [] None
    else_of : (l : Lexeme) {u : List Lexeme} {x : SqlExpr} → l.kind ≡ k.Else → Reads 1 u x → ReadsElse (l ∷ u) (Some x)

-- the tokens of a whole expression
abbrev pub IsExpr : List Lexeme → SqlExpr → Type 0
IsExpr = Reads 1

-- some expression begins with these tokens
abbrev pub BeginsExpr : List Lexeme → Type 0
BeginsExpr w = (more : List Lexeme) × (x : SqlExpr) × IsExpr (w ++ more) x

-- the token at this place is the first with which no expression begins, or all tokens are a beginning and no whole
pub record IsUnexpected (ts : List Lexeme) (at : ℕ) : Type 0 where
  pub within : at ≤ length ts
  pub begins : BeginsExpr (take at ts)
  pub stops : at < length ts → BeginsExpr (take (suc at) ts) → ⊥
  pub not_whole : (x : SqlExpr) → IsExpr ts x → ⊥
