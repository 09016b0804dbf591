-- A function value that reads expressions to a depth.
use Rattle.std.specs.Prelude.{ℕ, List, Result}
use Rattle.std.specs.declared.alloc.Global.{Global}
use denote.Ref.{MutBor}
use Rattle.sql_tree.specs.declared.expr.SqlExpr.{SqlExpr}
use Rattle.sql_phrases.specs.declared.error.ReadError.{ReadError}
use Rattle.sql_tree.specs.declared.lexeme.Lexeme.{Lexeme}
use Rattle.sql_phrases.specs.Parsers.{Gives}
use Rattle.sql_expr.specs.Descent.{expr}

pub record Nests (depth : ℕ) (pre : Global → MutBor (List Lexeme) → ℕ → ℕ → Type 0)
    (post : Global → MutBor (List Lexeme) → ℕ → ℕ → Result SqlExpr ReadError → MutBor (List Lexeme) → Type 0) : Type 0 where
  pub callable : (alloc : Global) (old : MutBor (List Lexeme)) (least : ℕ) → pre alloc old depth least
  pub reads : (alloc : Global) (old new : MutBor (List Lexeme)) (least : ℕ) (r : Result SqlExpr ReadError) →
      post alloc old depth least r new → Gives (expr depth least old.now) r new.now
