-- A text of lexemes that grows at its end.
use Rattle.std.specs.Prelude.{◌≡◌, ℕ, List, [], ◌∷◌, ◌++◌, string_bytes}
use Rattle.sql_tree.specs.declared.lexeme.LexemeKind.{LexemeKind}
use Rattle.sql_tree.specs.declared.lexeme.LexemeKind.TheVariants as k
use Rattle.sql_tree.specs.declared.lexeme.Lexeme.{Lexeme}
use Rattle.sql_print.specs.declared.writer.Writer.TheInside.{Inside}
use Rattle.sql_tree.specs.Lexemes.{keyword}
use Rattle.sql_tree.specs.Spelling.{gap, symbol, spelling}
use Rattle.sql_tree.specs.Print.{token}

-- the text so far, and the kinds of its last two lexemes
pub record Written : Type 0 where
  pub text : List ℕ
  pub second : LexemeKind
  pub first : LexemeKind

abbrev pub written : Inside → Written
written w = record { text = string_bytes w.text; second = w.second; first = w.first }

abbrev pub nothing : Written
nothing = record { text = []; second = k.End; first = k.End }

-- one lexeme more
unfoldable pub put : Written → Lexeme → Written
put w t = record { text = w.text ++ gap w.second w.first t.kind ++ spelling t; second = w.first; first = t.kind }

-- lexemes more
abbrev pub puts : Written → List Lexeme → Written
puts w [] = w
puts w (t ∷ ts) = puts (put w t) ts

-- more bytes of the last lexeme
abbrev pub extended : Written → List ℕ → Written
extended w z = record { text = w.text ++ z; second = w.second; first = w.first }

-- a lexeme of this kind begins
abbrev pub begun : Written → LexemeKind → Written
begun w kind = record { text = w.text ++ gap w.second w.first kind; second = w.first; first = kind }

-- a symbol or a reserved word
abbrev pub IsPlain : LexemeKind → Type 0
IsPlain kind = spelling (token kind) ≡ symbol kind ++ keyword kind
