-- Readers as functions on lists of tokens. No public contract of the grammar speaks of them.
use Rattle.std.specs.Prelude.{◌≡◌, ◌≢◌, ℕ, Bool, false, if◌then◌else◌, List, [], ◌∷◌, Option, Some, None, Result, Ok, Err}
use Rattle.sql_tree.specs.declared.expr.SqlType.{SqlType}
use Rattle.sql_tree.specs.declared.lexeme.LexemeKind.{LexemeKind}
use Rattle.sql_tree.specs.declared.lexeme.Lexeme.{Lexeme}
use Rattle.sql_tree.specs.Lexemes.{kind, same_kind, is_bare, type_of}
use Rattle.sql_phrases.specs.declared.error.ReadError.{ReadError}
use Rattle.sql_phrases.specs.declared.error.ReadError.TheVariants.{Memory}

-- the value and the tokens after it, or the tokens from the refused one on
abbrev pub Outcome : Type 0 → Type 0
Outcome A = Result (A × List Lexeme) (List Lexeme)

abbrev pub Parser : Type 0 → Type 0
Parser A = List Lexeme → Outcome A

abbrev pub and_then : {A B : Type 0} → Outcome A → (A → Parser B) → Outcome B
and_then (Ok p) f = f p.0 p.1
and_then (Err r) f = Err r

infixl 10 ◌>>=◌
abbrev pub ◌>>=◌ : {A B : Type 0} → Parser A → (A → Parser B) → Parser B
p >>= f = λ i. and_then (p i) f

infixl 10 ◌>>◌
abbrev pub ◌>>◌ : {A B : Type 0} → Parser A → Parser B → Parser B
p >> q = p >>= (λ _. q)

abbrev pub pure : {A : Type 0} → A → Parser A
pure a = λ i. Ok (a, i)

infixr 11 ◌<$>◌
abbrev pub ◌<$>◌ : {A B : Type 0} → (A → B) → Parser A → Parser B
f <$> p = p >>= (λ x. pure (f x))

abbrev pub refuse : {A : Type 0} → Parser A
refuse = λ i. Err i

abbrev pub next : List Lexeme → List Lexeme
next [] = []
next (t ∷ ts) = ts

abbrev pub text : List Lexeme → List ℕ
text [] = []
text (t ∷ ts) = t.text

abbrev pub value : List Lexeme → ℕ
value [] = 0
value (t ∷ ts) = t.value

abbrev pub sees_word : List ℕ → List Lexeme → Bool
sees_word word [] = false
sees_word word (t ∷ ts) = is_bare word t

abbrev pub type_at : List Lexeme → Option SqlType
type_at [] = None
type_at (t ∷ ts) = type_of t

abbrev pub skip : Parser (Unit {0})
skip = λ i. Ok (tt, next i)

abbrev pub sees : LexemeKind → List Lexeme → Bool
sees wanted i = same_kind (kind i) wanted

unfoldable pub expect : LexemeKind → Parser (Unit {0})
expect wanted = λ i. if sees wanted i then Ok (tt, next i) else Err i

abbrev pub eat : LexemeKind → Parser Bool
eat wanted = λ i. Ok (sees wanted i, if sees wanted i then next i else i)

abbrev pub some_type : Option SqlType → Parser SqlType
some_type (Some type) = skip >> pure type
some_type None = refuse

unfoldable pub type_name : Parser SqlType
type_name = λ i. some_type (type_at i) i

-- what a function that reads ensures: the reader's outcome, unless memory fails
abbrev pub Gives : {A : Type 0} → Outcome A → Result A ReadError → List Lexeme → Type 0
Gives outcome (Ok a) new = outcome ≡ Ok (a, new)
Gives outcome (Err e) new = e ≢ Memory → outcome ≡ Err new
