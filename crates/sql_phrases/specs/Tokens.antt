-- What single tokens are to a statement, and tests of the next token.
use Rattle.std.specs.Prelude.{ℕ, Bool, true, false, ◌&&◌, ◌||◌, if◌then◌else◌, ◌==◌, List, [], ◌∷◌, Option, Some, None, codes}
use Rattle.sql_tree.specs.declared.statement.OptionValue.{OptionValue}
use Rattle.sql_tree.specs.declared.statement.OptionValue.TheVariants as value
use Rattle.sql_tree.specs.declared.lexeme.LexemeKind.{LexemeKind}
use Rattle.sql_tree.specs.declared.lexeme.LexemeKind.TheVariants as k
use Rattle.sql_tree.specs.declared.lexeme.Lexeme.{Lexeme}
use Rattle.sql_tree.specs.Lexemes.{same_kind, is_bare}

abbrev pub is : LexemeKind → Lexeme → Bool
is wanted t = same_kind t.kind wanted

abbrev pub if_so : {A : Type 0} → Bool → A → Option A
if_so b a = if b then Some a else None

-- a symbol or a reserved word
abbrev pub the : LexemeKind → Lexeme → Option (Unit {0})
the wanted t = if_so (is wanted t) tt

-- a word that is not reserved, in any case of letters
abbrev pub the_word : List ℕ → Lexeme → Option (Unit {0})
the_word word t = if_so (is_bare word t) tt

abbrev pub is_name : Lexeme → Bool
is_name t = is k.Word t || is k.Quoted t

-- a name: a word that is not reserved, or what stands in backquotes
abbrev pub name_of : Lexeme → Option (List ℕ)
name_of t = if_so (is_name t) t.text

abbrev pub string_of : Lexeme → Option (List ℕ)
string_of t = if_so (is k.Str t) t.text

-- the kinds of words, reserved or not, by what they are not
abbrev pub is_worded : LexemeKind → Bool
is_worded k.End = false
is_worded k.Quoted = false
is_worded k.Str = false
is_worded k.Number = false
is_worded k.LParen = false
is_worded k.RParen = false
is_worded k.Comma = false
is_worded k.Semicolon = false
is_worded k.Star = false
is_worded k.Plus = false
is_worded k.Minus = false
is_worded k.Percent = false
is_worded k.Eq = false
is_worded k.Ne = false
is_worded k.Lt = false
is_worded k.Le = false
is_worded k.Gt = false
is_worded k.Ge = false
is_worded k.Concat = false
is_worded k.Arrow = false
is_worded _ = true

-- the word of an option of read_files, reserved or not
abbrev pub option_word_of : Lexeme → Option (List ℕ)
option_word_of t = if_so (is_worded t.kind) t.text

-- a string, TRUE or FALSE
abbrev pub value_of : Lexeme → Option OptionValue
value_of t = if is k.Str t then Some (value.Str t.text) else (if is k.True t then Some (value.Bool true) else if_so (is k.False t) (value.Bool false))

-- 1 or 2
abbrev pub scd_of : Lexeme → Option ℕ
scd_of t = if_so (is k.Number t && (t.value == 1 || t.value == 2)) t.value

-- the bare word read_files, and any other name
abbrev pub read_files_of : Lexeme → Option (List ℕ)
read_files_of t = if_so (is_bare (codes "read_files") t) t.text

abbrev pub other_name_of : Lexeme → Option (List ℕ)
other_name_of t = if is_bare (codes "read_files") t then None else name_of t

-- of the next token
abbrev pub of_next : {A : Type 0} → (Lexeme → Option A) → List Lexeme → Option A
of_next f [] = None
of_next f (t ∷ ts) = f t

-- whether there is a next token that passes the test
abbrev pub begins : (Lexeme → Bool) → List Lexeme → Bool
begins test [] = false
begins test (t ∷ ts) = test t
