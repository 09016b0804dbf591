-- A text as blanks, comments and tokens, each the longest, from its front on.
use Rattle.std.specs.Prelude.{◌≡◌, ◌≢◌, ℕ, ◌+◌, true, false, List, [], ◌∷◌, ◌++◌, take, drop, Result, Ok, Err}
use Rattle.sql_tokens.specs.declared.token.Token as tokens
use Rattle.sql_tokens.specs.declared.token.TokenKind.{TokenKind}
use Rattle.sql_tokens.specs.declared.lexical.Piece.TheVariants.{Blank, Token, Bad}
use Rattle.sql_tokens.specs.declared.lexical.Context.{Context}
use Rattle.sql_tokens.specs.declared.lexical.Context.TheVariants.{Open}
use Rattle.sql_tokens.specs.declared.error.SqlRefusal.{SqlRefusal}
use Rattle.sql_tokens.specs.declared.error.SqlRefusal.TheVariants.{Memory, BadToken, LiteralTooLarge}
use Rattle.sql_tokens.specs.Lexical.{Text, piece, after, is_too_large}

abbrev pub Answer : Type 0
Answer = Result (List tokens.Token) SqlRefusal

-- From this place on the text is read so, behind the tokens so far.
pub data Scans : Context → ℕ → Text → List tokens.Token → Answer → Type 0 where
  ends : {c : Context} {at : ℕ} {found : List tokens.Token} → Scans c at [] found (Ok found)
  blank : {c : Context} {at b : ℕ} {z : Text} {found : List tokens.Token} {r : Answer} (len : ℕ) →
      piece (b ∷ z) ≡ Blank len → Scans c (at + len) (drop len (b ∷ z)) found r → Scans c at (b ∷ z) found r
  token : {c : Context} {at b : ℕ} {z : Text} {found : List tokens.Token} {r : Answer} (kind : TokenKind) (len : ℕ) →
      piece (b ∷ z) ≡ Token kind len → is_too_large c kind (take len (b ∷ z)) ≡ false →
      Scans (after c kind (take len (b ∷ z))) (at + len) (drop len (b ∷ z)) (found ++ record { start = at; end = at + len; kind = kind } ∷ []) r →
      Scans c at (b ∷ z) found r
  too_large : {c : Context} {at b : ℕ} {z : Text} {found : List tokens.Token} (kind : TokenKind) (len : ℕ) →
      piece (b ∷ z) ≡ Token kind len → is_too_large c kind (take len (b ∷ z)) ≡ true → Scans c at (b ∷ z) found (Err (LiteralTooLarge at))
  bad : {c : Context} {at b : ℕ} {z : Text} {found : List tokens.Token} → piece (b ∷ z) ≡ Bad → Scans c at (b ∷ z) found (Err (BadToken at))

abbrev pub Scanned : Text → Answer → Type 0
Scanned text r = r ≢ Err Memory → Scans Open 0 text [] r

-- the most bytes of a text
abbrev pub max_text : ℕ
max_text = 1048576
