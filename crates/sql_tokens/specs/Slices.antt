-- Tokens as slices of a text.
use Rattle.std.specs.Prelude.{◌≡◌, ℕ, ◌-◌, ◌≤◌, ◌<◌, false, List, [], ◌∷◌, take, drop}
use Rattle.sql_tokens.specs.declared.token.Token as tokens
use Rattle.sql_tokens.specs.declared.lexical.Piece.TheVariants.{Token}
use Rattle.sql_tokens.specs.declared.lexical.Context.TheVariants.{Sign}
use Rattle.sql_tokens.specs.Lexical.{Text, piece, is_too_large}

abbrev pub slice : Text → tokens.Token → Text
slice text t = take (t.end - t.start) (drop t.start text)

-- some bytes of the text, which are the longest token at their place, and no number above 9223372036854775808
pub record IsTokenOf (text : Text) (t : tokens.Token) : Type 0 where
  pub some : t.start < t.end
  pub longest : piece (drop t.start text) ≡ Token t.kind (t.end - t.start)
  pub small : is_too_large Sign t.kind (slice text t) ≡ false

-- between two places of the text: each token begins where the one before it ends, or later
abbrev pub IsSliced : Text → ℕ → ℕ → List tokens.Token → Type 0
IsSliced text from end [] = from ≤ end
IsSliced text from end (t ∷ ts) = (from ≤ t.start) × IsTokenOf text t × IsSliced text t.end end ts
