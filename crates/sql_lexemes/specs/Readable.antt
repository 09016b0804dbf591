-- The slices of a UTF-8 text that lexemes are made of.
use Rattle.std.specs.Prelude.{IsUtf8}
use Rattle.sql_tokens.specs.declared.token.TokenKind.{TokenKind}
use Rattle.sql_tokens.specs.declared.token.TokenKind.TheVariants as token
use Rattle.sql_tokens.specs.Lexical.{Text}
use Rattle.sql_lexemes.specs.Lexing.{inside}

-- what is copied from a slice is UTF-8
abbrev pub IsReadable : TokenKind → Text → Type 0
IsReadable token.Word z = IsUtf8 z
IsReadable token.Quoted z = IsUtf8 (inside z)
IsReadable token.Str z = IsUtf8 (inside z)
IsReadable token.Number z = Unit {0}
IsReadable token.Symbol z = Unit {0}
