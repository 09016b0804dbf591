-- Tokens as slices of a text, one more at a time.
use Rattle.std.proofs.Common.{◌≡◌, ℕ, ◌+◌, ◌-◌, ◌≤◌, false, List, [], ◌∷◌, ◌++◌, take, drop, refl, sym, ap, ◌∙◌, arith}
use Rattle.std.proofs.lemmas.Bool.Decides.{nat_tests}
use Rattle.sql_tokens.specs.declared.token.Token as tokens
use Rattle.sql_tokens.specs.declared.token.TokenKind.{TokenKind}
use Rattle.sql_tokens.specs.declared.token.TokenKind.TheVariants as kinds
use Rattle.sql_tokens.specs.declared.lexical.Piece.TheVariants.{Token}
use Rattle.sql_tokens.specs.declared.lexical.Context.{Context}
use Rattle.sql_tokens.specs.declared.lexical.Context.TheVariants.{Open, Sign, Operand}
use Rattle.sql_tokens.specs.Lexical.{Text, piece, is_too_large}
use Rattle.sql_tokens.specs.Slices.{IsTokenOf, IsSliced}

pub sliced_further : (text : Text) (from end more : ℕ) (found : List tokens.Token) → IsSliced text from end found → end ≤ more → IsSliced text from more found
sliced_further text from end more [] h le = omega arith
sliced_further text from end more (t ∷ ts) h le = (h.0, h.1, sliced_further text t.end end more ts h.2 le)

pub sliced_more : (text : Text) (from end : ℕ) (t : tokens.Token) (found : List tokens.Token) → IsSliced text from end found → end ≤ t.start → IsTokenOf text t → IsSliced text from t.end (found ++ t ∷ [])
sliced_more text from end t [] h le here = (omega arith, here, omega arith)
sliced_more text from end t (u ∷ us) h le here = (h.0, h.1, sliced_more text u.end end t us h.2 le here)

-- what is small anywhere is small behind a sign
small_behind_sign : (c : Context) (kind : TokenKind) (z : Text) → is_too_large c kind z ≡ false → is_too_large Sign kind z ≡ false
small_behind_sign Sign kind z h = h
small_behind_sign Open kinds.Number z h = grind (arith, nat_tests)
small_behind_sign Operand kinds.Number z h = grind (arith, nat_tests)
small_behind_sign Open kinds.Word z h = refl
small_behind_sign Open kinds.Quoted z h = refl
small_behind_sign Open kinds.Str z h = refl
small_behind_sign Open kinds.Symbol z h = refl
small_behind_sign Operand kinds.Word z h = refl
small_behind_sign Operand kinds.Quoted z h = refl
small_behind_sign Operand kinds.Str z h = refl
small_behind_sign Operand kinds.Symbol z h = refl

pub token_of : (text : Text) (c : Context) (at len : ℕ) (kind : TokenKind) → 1 ≤ len → piece (drop at text) ≡ Token kind len → is_too_large c kind (take len (drop at text)) ≡ false →
    IsTokenOf text (record { start = at; end = at + len; kind = kind })
token_of text c at len kind some e small =
    let width : at + len - at ≡ len = omega arith in
    record {
      some = omega arith;
      longest = e ∙ ap (Token kind) (sym width);
      small = ap (λ n. is_too_large Sign kind (take n (drop at text))) width ∙ small_behind_sign c kind (take len (drop at text)) small;
    }
