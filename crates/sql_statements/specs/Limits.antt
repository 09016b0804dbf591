-- The most tokens of an outermost expression.
use Rattle.std.specs.Prelude.{◌≡◌, ◌≢◌, ℕ, suc, ◌≤◌, ◌+◌, ◌-◌, ◌⊎◌, nat_le, if◌then◌else◌, List, [], ◌∷◌, ◌++◌, length, take, drop, Ok, Err}
use Rattle.sql_tree.specs.declared.expr.SqlExpr.{SqlExpr}
use Rattle.sql_tree.specs.declared.lexeme.LexemeKind.TheVariants as k
use Rattle.sql_tree.specs.declared.lexeme.Lexeme.{Lexeme}
use Rattle.sql_phrases.specs.Parsers.{Outcome as ExprOutcome}
use Rattle.sql_expr.specs.Grammar.{IsExpr, BeginsExpr}
use Rattle.sql_expr.specs.Descent.{expr}
use Rattle.sql_statements.specs.declared.error.ParseError.TheVariants.{Unexpected, TooLong}
use Rattle.sql_statements.specs.Languages.{Language}
use Rattle.sql_statements.specs.Parsers.{Outcome, Parser}

-- the most tokens of an outermost expression
abbrev pub max_tokens : ℕ
max_tokens = 512

-- an expression within the limit
abbrev pub IsShort : Language SqlExpr
IsShort w x = IsExpr w x × (length w ≤ max_tokens)

-- what stands for an outermost expression, and is no token of a text
abbrev pub mark : Lexeme
mark = record { kind = k.End; text = []; value = 0 }

-- an expression within the limit, or the mark for one
abbrev pub IsMarked : Language SqlExpr
IsMarked w x = IsShort w x ⊎ (w ≡ mark ∷ [])

-- no token of a text is the end of it
abbrev pub AreTokens : List Lexeme → Type 0
AreTokens [] = Unit {0}
AreTokens (t ∷ ts) = (t.kind ≢ k.End) × AreTokens ts

-- ---- the reader

abbrev pub lifted : ExprOutcome SqlExpr → Outcome SqlExpr
lifted (Ok p) = Ok p
lifted (Err r) = Err (Unexpected, r)

abbrev pub within : Parser SqlExpr
within = λ i. lifted (expr (length i) 1 i)

-- an expression of any length
unfoldable pub unlimited : Parser SqlExpr
unlimited = λ i. lifted (expr (length i) 1 i)

-- what was read of one more than the most tokens, where there are more behind
abbrev pub past_limit : List Lexeme → ExprOutcome SqlExpr → Outcome SqlExpr
past_limit i (Ok p) = if nat_le 1 (length p.1) then Ok (p.0, drop (suc max_tokens - length p.1) i) else Err (TooLong, drop max_tokens i)
past_limit i (Err r) = if nat_le 1 (length r) then Err (Unexpected, drop (suc max_tokens - length r) i) else Err (TooLong, drop max_tokens i)

-- an expression within the limit
unfoldable pub limited : Parser SqlExpr
limited = λ i. if nat_le (length i) max_tokens then lifted (expr (length i) 1 i) else past_limit i (expr (suc max_tokens) 1 (take (suc max_tokens) i))

-- ---- beginnings

-- the most tokens of an expression, which goes on with the first of these
abbrev pub IsFull : List Lexeme → List Lexeme → Type 0
IsFull r v = (length v ≡ max_tokens) × ((t : Lexeme) × (more : List Lexeme) × (r ≡ t ∷ more) × BeginsExpr (v ++ t ∷ []))

-- tokens behind which an outermost expression may stand, and then tokens that are so
abbrev pub Cut : {A : Type 0} → (Language SqlExpr → Language A) → (List Lexeme → Type 0) → List Lexeme → Type 0
Cut {A} L Q w = (u : List Lexeme) × (v : List Lexeme) × (more : List Lexeme) × (x : A) × (w ≡ u ++ v) × Q v × L IsMarked (u ++ mark ∷ more) x
