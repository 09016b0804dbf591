-- A text is read in one way.
use Rattle.std.proofs.Common.{◌≡◌, ℕ, ◌+◌, true, false, List, [], ◌∷◌, ◌++◌, take, drop, Ok, Err, refl, sym, ap, ◌∙◌, subst}
use Rattle.sql_tokens.specs.declared.token.Token as tokens
use Rattle.sql_tokens.specs.declared.token.TokenKind.{TokenKind}
use Rattle.sql_tokens.specs.declared.lexical.Piece.TheVariants.{Blank, Token, Bad}
use Rattle.sql_tokens.specs.declared.lexical.Context.{Context}
use Rattle.sql_tokens.specs.declared.error.SqlRefusal.TheVariants.{LiteralTooLarge, BadToken}
use Rattle.sql_tokens.specs.Lexical.{Text, piece, after, is_too_large}
use Rattle.sql_tokens.specs.Scanning.{Answer, Scans, ends, blank, token, too_large, bad}

after_blank : {c : Context} {at b : ℕ} {z : Text} {found : List tokens.Token} {s : Answer} (len : ℕ) → Scans c at (b ∷ z) found s → piece (b ∷ z) ≡ Blank len → Scans c (at + len) (drop len (b ∷ z)) found s
after_blank {c} {at} {b} {z} {found} {s} len (blank l e n) h = let same : l ≡ len = cc in subst (λ k. Scans c (at + k) (drop k (b ∷ z)) found s) same n
after_blank len (token kind l e f n) h = absurd (cc)
after_blank len (too_large kind l e f) h = absurd (cc)
after_blank len (bad e) h = absurd (cc)

after_token : {c : Context} {at b : ℕ} {z : Text} {found : List tokens.Token} {s : Answer} (kind : TokenKind) (len : ℕ) → Scans c at (b ∷ z) found s → piece (b ∷ z) ≡ Token kind len → is_too_large c kind (take len (b ∷ z)) ≡ false →
    Scans (after c kind (take len (b ∷ z))) (at + len) (drop len (b ∷ z)) (found ++ record { start = at; end = at + len; kind = kind } ∷ []) s
after_token kind len (blank l e n) h small = absurd (cc)
after_token {c} {at} {b} {z} {found} {s} kind len (token k l e f n) h small =
    let same_len : l ≡ len = cc in
    let same_kind : k ≡ kind = cc in
    subst (λ m. Scans (after c kind (take m (b ∷ z))) (at + m) (drop m (b ∷ z)) (found ++ record { start = at; end = at + m; kind = kind } ∷ []) s) same_len
    (subst (λ t. Scans (after c t (take l (b ∷ z))) (at + l) (drop l (b ∷ z)) (found ++ record { start = at; end = at + l; kind = t } ∷ []) s) same_kind n)
after_token {c} {at} {b} {z} kind len (too_large k l e f) h small =
    let same_len : l ≡ len = cc in
    let same_kind : k ≡ kind = cc in
    let large : is_too_large c kind (take len (b ∷ z)) ≡ true = ap (λ t. is_too_large c t (take len (b ∷ z))) (sym same_kind) ∙ ap (λ m. is_too_large c k (take m (b ∷ z))) (sym same_len) ∙ f in
    absurd (cc)
after_token kind len (bad e) h small = absurd (cc)

after_large : {c : Context} {at b : ℕ} {z : Text} {found : List tokens.Token} {s : Answer} (kind : TokenKind) (len : ℕ) → Scans c at (b ∷ z) found s → piece (b ∷ z) ≡ Token kind len → is_too_large c kind (take len (b ∷ z)) ≡ true → Err (LiteralTooLarge at) ≡ s
after_large kind len (blank l e n) h large = absurd (cc)
after_large {c} {at} {b} {z} kind len (token k l e f n) h large =
    let same_len : l ≡ len = cc in
    let same_kind : k ≡ kind = cc in
    let small : is_too_large c kind (take len (b ∷ z)) ≡ false = ap (λ t. is_too_large c t (take len (b ∷ z))) (sym same_kind) ∙ ap (λ m. is_too_large c k (take m (b ∷ z))) (sym same_len) ∙ f in
    absurd (cc)
after_large kind len (too_large k l e f) h large = refl
after_large kind len (bad e) h large = absurd (cc)

after_bad : {c : Context} {at b : ℕ} {z : Text} {found : List tokens.Token} {s : Answer} → Scans c at (b ∷ z) found s → piece (b ∷ z) ≡ Bad → Err (BadToken at) ≡ s
after_bad (blank l e n) h = absurd (cc)
after_bad (token k l e f n) h = absurd (cc)
after_bad (too_large k l e f) h = absurd (cc)
after_bad (bad e) h = refl

after_end : {c : Context} {at : ℕ} {found : List tokens.Token} {s : Answer} → Scans c at [] found s → Ok found ≡ s
after_end ends = refl

pub scans_once : {c : Context} {at : ℕ} {z : Text} {found : List tokens.Token} {r s : Answer} → Scans c at z found r → Scans c at z found s → r ≡ s
scans_once ends s = after_end s
scans_once (blank len e n) s = scans_once n (after_blank len s e)
scans_once (token kind len e f n) s = scans_once n (after_token kind len s e f)
scans_once (too_large kind len e f) s = after_large kind len s e f
scans_once (bad e) s = after_bad s e
