-- What a pipeline's text is, and which token is the first that is refused.
use Rattle.std.specs.Prelude.{◌≡◌, ◌≢◌, ℕ, suc, ◌≤◌, ◌<◌, ◌-◌, List, [], ◌∷◌, ◌++◌, length, take, drop, Result, Ok, Err}
use Rattle.sql_tree.specs.declared.statement.Statement.{Statement}
use Rattle.sql_tree.specs.declared.lexeme.Lexeme.{Lexeme}
use Rattle.sql_expr.specs.Grammar.{IsExpr}
use Rattle.sql_statements.specs.declared.error.Refusal.{Refusal}
use Rattle.sql_statements.specs.declared.error.Refusal.TheVariants as refusals
use Rattle.sql_statements.specs.declared.error.ParseError.TheVariants as errors
use Rattle.sql_statements.specs.Grammar.{pipeline}
use Rattle.sql_statements.specs.Parsers.{Outcome}
use Rattle.sql_statements.specs.Descent.{pipeline as pipeline_reader}
use Rattle.sql_statements.specs.Limits.{IsShort, IsFull, Cut, limited}

-- the tokens of a pipeline, whose expressions may have any number of them
abbrev pub IsPipeline : List Lexeme → List Statement → Type 0
IsPipeline = pipeline IsExpr

-- and whose outermost expressions are within the limit
abbrev pub IsShortPipeline : List Lexeme → List Statement → Type 0
IsShortPipeline = pipeline IsShort

-- some pipeline begins with these tokens
abbrev pub BeginsPipeline : List Lexeme → Type 0
BeginsPipeline w = (more : List Lexeme) × (p : List Statement) × IsPipeline (w ++ more) p

-- The token at this place goes on an outermost expression as the first past the most tokens, and those before it are
-- within the limit.
pub record IsTooLong (ts : List Lexeme) (at : ℕ) : Type 0 where
  pub within : at < length ts
  pub cut : Cut pipeline (IsFull (drop at ts)) (take at ts)

-- The tokens before this place begin a pipeline, and none of them goes on an outermost expression past the limit. With
-- the token at this place no pipeline begins, or all tokens are a beginning and no whole.
pub record IsUnexpected (ts : List Lexeme) (at : ℕ) : Type 0 where
  pub within : at ≤ length ts
  pub begins : BeginsPipeline (take at ts)
  pub none_too_long : (earlier : ℕ) → earlier < at → IsTooLong ts earlier → ⊥
  pub stops : at < length ts → BeginsPipeline (take (suc at) ts) → ⊥
  pub not_whole : (p : List Statement) → IsPipeline ts p → ⊥

-- why tokens are refused
abbrev pub IsRefused : List Lexeme → Refusal → Type 0
IsRefused ts refusals.Memory = ⊥
IsRefused ts (refusals.Unexpected at) = IsUnexpected ts at
IsRefused ts (refusals.TooLong at) = IsTooLong ts at

-- ---- the reader

-- all of the tokens as a pipeline, or the place of the refused token
abbrev pub ended : ℕ → Outcome (List Statement) → Result (List Statement) Refusal
ended n (Ok (p, [])) = Ok p
ended n (Ok (p, t ∷ ts)) = Err (refusals.Unexpected (n - length (t ∷ ts)))
ended n (Err (errors.Memory, r)) = Err refusals.Memory
ended n (Err (errors.Unexpected, r)) = Err (refusals.Unexpected (n - length r))
ended n (Err (errors.TooLong, r)) = Err (refusals.TooLong (n - length r))

unfoldable pub whole : List Lexeme → Result (List Statement) Refusal
whole ts = ended (length ts) (pipeline_reader limited ts)

-- a call's result, unless memory fails
abbrev pub IsAnswer : Result (List Statement) Refusal → Result (List Statement) Refusal → Type 0
IsAnswer answer (Ok p) = answer ≡ Ok p
IsAnswer answer (Err e) = e ≢ refusals.Memory → answer ≡ Err e
