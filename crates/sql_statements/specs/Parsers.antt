-- Readers of parts of a pipeline as functions on lists of tokens. No public contract of the grammar speaks of them.
use Rattle.std.specs.Prelude.{◌≡◌, ◌≢◌, ℕ, zero, suc, Bool, false, if◌then◌else◌, List, [], ◌∷◌, ◌++◌, length, Option, Some, None, Result, Ok, Err}
use Rattle.sql_tree.specs.declared.lexeme.LexemeKind.{LexemeKind}
use Rattle.sql_tree.specs.declared.lexeme.Lexeme.{Lexeme}
use Rattle.sql_phrases.specs.Parsers.{next, sees}
pub use Rattle.sql_phrases.specs.Tokens.{of_next, begins}
use Rattle.sql_statements.specs.declared.error.ParseError.{ParseError}
use Rattle.sql_statements.specs.declared.error.ParseError.TheVariants.{Memory, Unexpected}

-- the value and the tokens after it, or why and where it stops
abbrev pub Outcome : Type 0 → Type 0
Outcome A = Result (A × List Lexeme) (ParseError × List Lexeme)

abbrev pub Parser : Type 0 → Type 0
Parser A = List Lexeme → Outcome A

abbrev pub and_then : {A B : Type 0} → Outcome A → (A → Parser B) → Outcome B
and_then (Ok p) f = f p.0 p.1
and_then (Err r) f = Err r

infixl 10 ◌>>=◌
abbrev pub ◌>>=◌ : {A B : Type 0} → Parser A → (A → Parser B) → Parser B
p >>= f = λ i. and_then (p i) f

infixl 10 ◌>>◌
abbrev pub ◌>>◌ : {A B : Type 0} → Parser A → Parser B → Parser B
p >> q = p >>= (λ _. q)

abbrev pub pure : {A : Type 0} → A → Parser A
pure a = λ i. Ok (a, i)

abbrev pub some_token : {A : Type 0} → Option A → Parser A
some_token (Some a) = λ i. Ok (a, next i)
some_token None = λ i. Err (Unexpected, i)

-- one token of which the function has a value
unfoldable pub token : {A : Type 0} → (Lexeme → Option A) → Parser A
token f = λ i. some_token (of_next f i) i

-- the first where the next token passes the test, else the second
abbrev pub choose : {A : Type 0} → (Lexeme → Bool) → Parser A → Parser A → Parser A
choose test p q = λ i. if begins test i then p i else q i

-- goes on with a list, in at most so many turns
unfoldable pub rest_from : {A : Type 0} → LexemeKind → Parser A → ℕ → List A → Parser (List A)
rest_from sep p zero found = pure found
rest_from sep p (suc n) found = λ i. if sees sep i then (p >>= (λ x. rest_from sep p n (found ++ x ∷ []))) (next i) else Ok (found, i)

-- one or more, with a token of this kind between two of them
unfoldable pub separated : {A : Type 0} → LexemeKind → Parser A → Parser (List A)
separated sep p = p >>= (λ x i. rest_from sep p (length i) (x ∷ []) i)

-- what a function that reads ensures: the reader's outcome, unless memory fails
abbrev pub Gives : {A : Type 0} → Outcome A → Result A ParseError → List Lexeme → Type 0
Gives outcome (Ok a) new = outcome ≡ Ok (a, new)
Gives outcome (Err e) new = e ≢ Memory → outcome ≡ Err (e, new)
