-- The steps of a scan, at any place of a text.
use Rattle.std.proofs.Common.{◌≡◌, ℕ, ◌+◌, ◌-◌, ◌≤◌, ◌<◌, true, false, List, [], ◌∷◌, ◌++◌, length, take, drop, Ok, Err, sym, subst, arith, length-drop, drop_of_length-le}
use Rattle.std.proofs.lemmas.List.{drop-drop, take_all}
use Rattle.sql_tokens.specs.declared.token.Token as tokens
use Rattle.sql_tokens.specs.declared.token.TokenKind.{TokenKind}
use Rattle.sql_tokens.specs.declared.lexical.Piece.TheVariants.{Blank, Token, Bad}
use Rattle.sql_tokens.specs.declared.lexical.Context.{Context}
use Rattle.sql_tokens.specs.declared.error.SqlRefusal.TheVariants.{LiteralTooLarge, BadToken}
use Rattle.sql_tokens.specs.Lexical.{Text, piece, after, is_too_large}
use Rattle.sql_tokens.specs.Scanning.{Answer, Scans, ends, blank, token, too_large, bad}

dropped : (at len : ℕ) (text : Text) → drop len (drop at text) ≡ drop (at + len) text
dropped at len text = drop-drop len at text

-- what is left, as the code cuts it
pub rest_is : (at : ℕ) (text : Text) → take (length text - at) (drop at text) ≡ drop at text
rest_is at text = take_all (length text - at) (drop at text) (omega (arith, length-drop at text))

some_left : (at : ℕ) (text : Text) → at < length text → 0 < length (drop at text)
some_left at text h = omega (arith, length-drop at text)

blank_here : (c : Context) (at len : ℕ) (z : Text) (found : List tokens.Token) (r : Answer) → 0 < length z → piece z ≡ Blank len → Scans c (at + len) (drop len z) found r → Scans c at z found r
blank_here c at len [] found r h e s = absurd (omega arith)
blank_here c at len (b ∷ z) found r h e s = blank len e s

token_here : (c : Context) (at : ℕ) (kind : TokenKind) (len : ℕ) (z : Text) (found : List tokens.Token) (r : Answer) → 0 < length z → piece z ≡ Token kind len → is_too_large c kind (take len z) ≡ false →
    Scans (after c kind (take len z)) (at + len) (drop len z) (found ++ record { start = at; end = at + len; kind = kind } ∷ []) r → Scans c at z found r
token_here c at kind len [] found r h e l s = absurd (omega arith)
token_here c at kind len (b ∷ z) found r h e l s = token kind len e l s

pub blank_step : (c : Context) (at len : ℕ) (text : Text) (found : List tokens.Token) (r : Answer) → at < length text → piece (drop at text) ≡ Blank len →
    Scans c (at + len) (drop (at + len) text) found r → Scans c at (drop at text) found r
blank_step c at len text found r h e s =
    blank_here c at len (drop at text) found r (some_left at text h) e (subst (λ z. Scans c (at + len) z found r) (sym (dropped at len text)) s)

pub token_step : (c : Context) (at : ℕ) (kind : TokenKind) (len : ℕ) (text : Text) (found : List tokens.Token) (r : Answer) → at < length text → piece (drop at text) ≡ Token kind len →
    is_too_large c kind (take len (drop at text)) ≡ false →
    Scans (after c kind (take len (drop at text))) (at + len) (drop (at + len) text) (found ++ record { start = at; end = at + len; kind = kind } ∷ []) r → Scans c at (drop at text) found r
token_step c at kind len text found r h e l s =
    token_here c at kind len (drop at text) found r (some_left at text h) e l
    (subst (λ z. Scans (after c kind (take len (drop at text))) (at + len) z (found ++ record { start = at; end = at + len; kind = kind } ∷ []) r) (sym (dropped at len text)) s)

large_here : (c : Context) (at : ℕ) (kind : TokenKind) (len : ℕ) (z : Text) (found : List tokens.Token) → 0 < length z → piece z ≡ Token kind len → is_too_large c kind (take len z) ≡ true →
    Scans c at z found (Err (LiteralTooLarge at))
large_here c at kind len [] found h e l = absurd (omega arith)
large_here c at kind len (b ∷ z) found h e l = too_large kind len e l

pub large_step : (c : Context) (at : ℕ) (kind : TokenKind) (len : ℕ) (text : Text) (found : List tokens.Token) → at < length text → piece (drop at text) ≡ Token kind len →
    is_too_large c kind (take len (drop at text)) ≡ true → Scans c at (drop at text) found (Err (LiteralTooLarge at))
large_step c at kind len text found h e l = large_here c at kind len (drop at text) found (some_left at text h) e l

bad_here : (c : Context) (at : ℕ) (z : Text) (found : List tokens.Token) → 0 < length z → piece z ≡ Bad → Scans c at z found (Err (BadToken at))
bad_here c at [] found h e = absurd (omega arith)
bad_here c at (b ∷ z) found h e = bad e

pub bad_step : (c : Context) (at : ℕ) (text : Text) (found : List tokens.Token) → at < length text → piece (drop at text) ≡ Bad → Scans c at (drop at text) found (Err (BadToken at))
bad_step c at text found h e = bad_here c at (drop at text) found (some_left at text h) e

pub end_step : (c : Context) (at : ℕ) (text : Text) (found : List tokens.Token) → length text ≤ at → Scans c at (drop at text) found (Ok found)
end_step c at text found h = subst (λ z. Scans c at z found (Ok found)) (sym (drop_of_length-le text h)) ends
