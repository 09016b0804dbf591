-- The lexeme that a token of a text is.
use Rattle.std.specs.Prelude.{ℕ, ◌-◌, Bool, true, false, if◌then◌else◌, ◌==◌, List, [], ◌∷◌, length, take, drop, codes, bytes_eq}
use Rattle.sql_tokens.specs.declared.token.Token as tokens
use Rattle.sql_tokens.specs.declared.token.TokenKind.{TokenKind}
use Rattle.sql_tokens.specs.declared.token.TokenKind.TheVariants as token
use Rattle.sql_tokens.specs.Lexical.{Text, capped_value}
use Rattle.sql_tokens.specs.Slices.{slice}
use Rattle.sql_tree.specs.declared.lexeme.LexemeKind.{LexemeKind}
use Rattle.sql_tree.specs.declared.lexeme.LexemeKind.TheVariants as k
use Rattle.sql_tree.specs.declared.lexeme.Lexeme.{Lexeme}
use Rattle.sql_tree.specs.Lexemes.{word_kind}
use Rattle.sql_tree.specs.Spelling.{symbol}

abbrev pub symbol_kinds : List LexemeKind
symbol_kinds =
    k.LParen ∷ k.RParen ∷ k.Comma ∷ k.Semicolon ∷ k.Star ∷ k.Plus ∷ k.Minus ∷ k.Percent ∷ k.Eq ∷ k.Ne ∷ k.Lt ∷ k.Le ∷ k.Gt ∷ k.Ge ∷ k.Concat ∷ k.Arrow ∷ []

abbrev pub symbol_among : List LexemeKind → Text → LexemeKind
symbol_among [] z = k.End
symbol_among (kind ∷ kinds) z = if bytes_eq z (symbol kind) then kind else symbol_among kinds z

-- `==` is `=`, and `!=` is `<>`
unfoldable pub symbol_kind : Text → LexemeKind
symbol_kind z = if bytes_eq z (codes "==") then k.Eq else (if bytes_eq z (codes "!=") then k.Ne else symbol_among symbol_kinds z)

-- behind a backslash n, t and r are LF, tab and CR, and any other character is itself
abbrev pub meaning : ℕ → ℕ
meaning b = if b == 110 then 10 else (if b == 116 then 9 else (if b == 114 then 13 else b))

-- the characters that a string means, from a place on that is perhaps behind a backslash
abbrev pub unescaped : Bool → Text → Text
unescaped is_escaped [] = []
unescaped true (b ∷ z) = meaning b ∷ unescaped false z
unescaped false (b ∷ z) = if b == 92 then unescaped true z else b ∷ unescaped false z

-- without the first and the last byte, which are quotes
abbrev pub inside : Text → Text
inside z = take (length z - 2) (drop 1 z)

abbrev pub lexeme : TokenKind → Text → Lexeme
lexeme token.Word z = record { kind = word_kind z; text = z; value = 0 }
lexeme token.Quoted z = record { kind = k.Quoted; text = inside z; value = 0 }
lexeme token.Str z = record { kind = k.Str; text = unescaped false (inside z); value = 0 }
lexeme token.Number z = record { kind = k.Number; text = []; value = capped_value z }
lexeme token.Symbol z = record { kind = symbol_kind z; text = []; value = 0 }

abbrev pub lexeme_of : Text → tokens.Token → Lexeme
lexeme_of text t = lexeme t.kind (slice text t)
