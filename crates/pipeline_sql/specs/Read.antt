-- What a pipeline's text is read as, and why it is refused.
use Rattle.std.specs.Prelude.{◌≡◌, ◌⊎◌, ℕ, ◌≤◌, ◌<◌, List, [], map, length, slice_get, IsUtf8, Option, Some, None, Ok, Err}
use Rattle.std.specs.Str.Lossy.{utf8_valid_len}
use Rattle.sql_tokens.specs.declared.token.Token as tokens
use Rattle.sql_tokens.specs.declared.lexical.Context.TheVariants.{Open}
use Rattle.sql_tokens.specs.declared.error.SqlRefusal.{SqlRefusal}
use Rattle.sql_tokens.specs.declared.error.SqlRefusal.TheVariants as refusal
use Rattle.sql_tokens.specs.Scanning.{Answer, Scans, max_text}
use Rattle.sql_tree.specs.declared.lexeme.Lexeme.{Lexeme}
use Rattle.sql_tree.specs.declared.statement.Statement.{Statement}
use Rattle.sql_tree.specs.Print.{print}
use Rattle.sql_tree.specs.Spelling.{spelled}
use Rattle.sql_lexemes.specs.Lexing.{lexeme_of}
use Rattle.sql_statements.specs.declared.error.Refusal.{Refusal}
use Rattle.sql_statements.specs.declared.error.Refusal.TheVariants as refused
use Rattle.sql_statements.specs.Pipelines.{IsShortPipeline, IsUnexpected, IsTooLong}

abbrev pub Text : Type 0
Text = List ℕ

-- what a text of at most 1 MiB, all of it UTF-8, is to the scan of its tokens
pub record IsScanned (text : Text) (answer : Answer) : Type 0 where
  pub short : length text ≤ max_text
  pub utf8 : IsUtf8 text
  pub scans : Scans Open 0 text [] answer

-- the tokens of a text, as the grammar reads them
abbrev pub lexemes_of : Text → List tokens.Token → List Lexeme
lexemes_of text = map (lexeme_of text)

-- the first byte of a token, or the end of the text where there is none
abbrev pub start_or_end : Text → Option tokens.Token → ℕ
start_or_end text (Some token) = token.start
start_or_end text None = length text

-- the first byte of the token at a place
abbrev pub start_of : Text → List tokens.Token → ℕ → ℕ
start_of text found place = start_or_end text (slice_get found place)

-- The text has tokens, and the grammar derives these statements from them, with no outermost expression past the limit.
pub record IsRead (text : Text) (statements : List Statement) : Type 0 where
  pub found : List tokens.Token
  pub scanned : IsScanned text (Ok found)
  pub derived : IsShortPipeline (lexemes_of text found) statements

-- the text has tokens, and the one that begins at this byte is refused for this cause
pub record IsRefusedAt (Cause : List Lexeme → ℕ → Type 0) (text : Text) (at : ℕ) : Type 0 where
  pub found : List tokens.Token
  pub scanned : IsScanned text (Ok found)
  pub place : ℕ
  pub caused : Cause (lexemes_of text found) place
  pub begins : at ≡ start_of text found place

-- the bytes before this one are UTF-8, and with it no UTF-8 goes on
pub record IsBroken (text : Text) (at : ℕ) : Type 0 where
  pub short : length text ≤ max_text
  pub within : at < length text
  pub valid : utf8_valid_len text ≡ at

-- The first reason why a text is refused: its size, then the bytes that are no UTF-8, then its tokens, then their order.
abbrev pub IsRefused : Text → SqlRefusal → Type 0
IsRefused text refusal.TextTooLong = max_text < length text
IsRefused text (refusal.BadToken at) = IsBroken text at ⊎ IsScanned text (Err (refusal.BadToken at))
IsRefused text (refusal.LiteralTooLarge at) = IsScanned text (Err (refusal.LiteralTooLarge at))
IsRefused text (refusal.Unexpected at) = IsRefusedAt IsUnexpected text at
IsRefused text (refusal.ExprTooLong at) = IsRefusedAt IsTooLong text at
IsRefused text refusal.Memory = ⊥

-- a refusal of the token at a place, in bytes
abbrev pub placed : Text → List tokens.Token → Refusal → SqlRefusal
placed text found refused.Memory = refusal.Memory
placed text found (refused.Unexpected at) = refusal.Unexpected (start_of text found at)
placed text found (refused.TooLong at) = refusal.ExprTooLong (start_of text found at)

-- ---- the canonical print

-- the canonical text of statements
abbrev pub print_text : List Statement → Text
print_text p = spelled (print p)

-- a text that is refused neither for its size nor for the length of an expression
abbrev pub IsWithinLimits : Text → Type 0
IsWithinLimits text = (IsRefused text refusal.TextTooLong → ⊥) × ((at : ℕ) → IsRefused text (refusal.ExprTooLong at) → ⊥)
