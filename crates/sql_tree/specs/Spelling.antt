-- The text of lexemes.
use Rattle.std.specs.Prelude.{ℕ, Bool, true, false, not, ◌&&◌, ◌||◌, if◌then◌else◌, ◌==◌, List, [], ◌∷◌, ◌++◌, decimal, codes}
use Rattle.std.specs.List.{list_all}
use Rattle.std.specs.Char.{is_ascii_alphabetic, is_ascii_alphanumeric}
use Rattle.sql_tree.specs.declared.lexeme.LexemeKind.{LexemeKind}
use Rattle.sql_tree.specs.declared.lexeme.LexemeKind.TheVariants as k
use Rattle.sql_tree.specs.declared.lexeme.Lexeme.{Lexeme}
use Rattle.sql_tree.specs.Lexemes.{same_kind, word_kind}

-- a letter or `_`, and then letters, digits and `_`
abbrev pub is_word : List ℕ → Bool
is_word [] = false
is_word (b ∷ z) = (is_ascii_alphabetic b || b == 95) && list_all (λ c. is_ascii_alphanumeric c || c == 95) z

-- a word that is not reserved, which is a name without backquotes
abbrev pub is_bare_name : List ℕ → Bool
is_bare_name text = is_word text && same_kind (word_kind text) k.Word

-- a string's characters, with a backslash before each quote and each backslash
abbrev pub escaped : List ℕ → List ℕ
escaped [] = []
escaped (b ∷ z) = if b == 39 || b == 92 then 92 ∷ b ∷ escaped z else b ∷ escaped z

abbrev pub symbol : LexemeKind → List ℕ
symbol k.LParen = codes "("
symbol k.RParen = codes ")"
symbol k.Comma = codes ","
symbol k.Semicolon = codes ";"
symbol k.Star = codes "*"
symbol k.Plus = codes "+"
symbol k.Minus = codes "-"
symbol k.Percent = codes "%"
symbol k.Eq = codes "="
symbol k.Ne = codes "<>"
symbol k.Lt = codes "<"
symbol k.Le = codes "<="
symbol k.Gt = codes ">"
symbol k.Ge = codes ">="
symbol k.Concat = codes "||"
symbol k.Arrow = codes "=>"
symbol _ = []

-- one lexeme: a string in single quotes, a name in backquotes or bare, a number in decimal digits
abbrev pub spelling : Lexeme → List ℕ
spelling t = spelling_of t.kind t.text t.value
  where
    spelling_of : LexemeKind → List ℕ → ℕ → List ℕ
    spelling_of k.Str text value = 39 ∷ escaped text ++ 39 ∷ []
    spelling_of k.Quoted text value = 96 ∷ text ++ 96 ∷ []
    spelling_of k.Number text value = decimal value
    spelling_of kind text value = symbol kind ++ text

-- what an operand ends with: a minus behind one is the operator of two operands
abbrev pub ends_operand : LexemeKind → Bool
ends_operand k.Word = true
ends_operand k.Quoted = true
ends_operand k.Str = true
ends_operand k.Number = true
ends_operand k.RParen = true
ends_operand k.EndWord = true
ends_operand k.False = true
ends_operand k.Null = true
ends_operand k.True = true
ends_operand _ = false

-- Nothing before the first lexeme and before the digits of a negative literal, else one space; the kinds are those of
-- the two lexemes before and of the next one.
abbrev pub gap : LexemeKind → LexemeKind → LexemeKind → List ℕ
gap second first next =
    if same_kind first k.End || (same_kind first k.Minus && not (ends_operand second) && same_kind next k.Number) then [] else 32 ∷ []

-- the text of lexemes behind two of these kinds
abbrev pub spelled_behind : LexemeKind → LexemeKind → List Lexeme → List ℕ
spelled_behind second first [] = []
spelled_behind second first (t ∷ ts) = gap second first t.kind ++ spelling t ++ spelled_behind first t.kind ts

-- the text of lexemes
unfoldable pub spelled : List Lexeme → List ℕ
spelled = spelled_behind k.End k.End
