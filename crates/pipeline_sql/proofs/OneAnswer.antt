-- A text is read in one way or refused for one reason.
use Rattle.std.proofs.Common.{◌≡◌, ℕ, ◌<◌, List, length, Ok, Err, sym, ap, ◌∙◌, subst, refl, arith, ◌⊎◌, inl, inr}
use Rattle.std.proofs.lemmas.Str.{utf8_valid_len-IsUtf8}
use Rattle.sql_tokens.specs.declared.token.Token as tokens
use Rattle.sql_tokens.specs.declared.error.SqlRefusal.{SqlRefusal}
use Rattle.sql_tokens.specs.declared.error.SqlRefusal.TheVariants as refusal
use Rattle.sql_tokens.specs.Scanning.{Answer, max_text}
use Rattle.sql_tokens.proofs.Once.{scans_once}
use Rattle.sql_tree.specs.declared.lexeme.Lexeme.{Lexeme}
use Rattle.sql_tree.specs.declared.statement.Statement.{Statement}
use Rattle.sql_statements.specs.declared.error.Refusal.{Refusal}
use Rattle.sql_statements.proofs.Answers.{wide, one_pipeline}
use Rattle.sql_statements.proofs.Refusals.{one_refusal, refusals_apart}
use Rattle.pipeline_sql.specs.Read.{Text, IsScanned, lexemes_of, IsRead, IsBroken, IsRefused, placed}
use Rattle.pipeline_sql.proofs.Told.{IsFound, IsTold, IsParsed, found_ok, told_read, told_refused, derived_here, refused_here}
use Rattle.pipeline_sql.proofs.TextLexemes.{text_tokens}

-- ---- one reading

pub read_once : (text : Text) (p q : List Statement) → IsRead text p → IsRead text q → p ≡ q
read_once text p q g h =
    let ts = lexemes_of text g.found in
    one_pipeline ts p q (wide ts p g.derived) (wide ts q (derived_here text g.found q g.scanned h))

pub read_or_refused : (text : Text) (p : List Statement) (e : SqlRefusal) → IsRead text p → IsRefused text e → ⊥
read_or_refused text p e g h =
    let w = refused_here text g.found e g.scanned h in
    refusals_apart (lexemes_of text g.found) p w.0 (text_tokens text g.found g.scanned) g.derived w.1

-- ---- one refusal

-- the four sorts of refusals
abbrev Sort : Text → SqlRefusal → Type 0
Sort text e =
    ((e ≡ refusal.TextTooLong) × (max_text < length text)) ⊎
    (((at : ℕ) × (e ≡ refusal.BadToken at) × IsBroken text at) ⊎
    (IsScanned text (Err e) ⊎
    ((found : List tokens.Token) × IsScanned text (Ok found))))

sort_of : (text : Text) (e : SqlRefusal) → IsRefused text e → Sort text e
sort_of text refusal.TextTooLong h = inl (refl, h)
sort_of text (refusal.BadToken at) (inl h) = inr (inl (at, refl, h))
sort_of text (refusal.BadToken at) (inr h) = inr (inr (inl h))
sort_of text (refusal.LiteralTooLarge at) h = inr (inr (inl h))
sort_of text (refusal.Unexpected at) h = inr (inr (inr (h.found, h.scanned)))
sort_of text (refusal.ExprTooLong at) h = inr (inr (inr (h.found, h.scanned)))
sort_of text refusal.Memory h = absurd h

whole_text : (text : Text) (at : ℕ) (a : Answer) → IsBroken text at → IsScanned text a → ⊥
whole_text text at a h s = omega (arith, h.within, h.valid, utf8_valid_len-IsUtf8 text s.utf8)

same_refusal : (e f : SqlRefusal) → ◌≡◌ {A = Answer} (Err e) (Err f) → e ≡ f
same_refusal e f h = cc

by_sorts : (text : Text) (e f : SqlRefusal) → IsRefused text e → IsRefused text f → Sort text e → Sort text f → e ≡ f
by_sorts text e f g h (inl a) (inl b) = a.0 ∙ sym b.0
by_sorts text e f g h (inl a) (inr (inl b)) = absurd (omega (arith, a.1, b.2.short))
by_sorts text e f g h (inl a) (inr (inr (inl b))) = absurd (omega (arith, a.1, b.short))
by_sorts text e f g h (inl a) (inr (inr (inr b))) = absurd (omega (arith, a.1, b.1.short))
by_sorts text e f g h (inr (inl a)) (inl b) = absurd (omega (arith, b.1, a.2.short))
by_sorts text e f g h (inr (inl a)) (inr (inl b)) = a.1 ∙ ap refusal.BadToken (sym a.2.valid ∙ b.2.valid) ∙ sym b.1
by_sorts text e f g h (inr (inl a)) (inr (inr (inl b))) = absurd (whole_text text a.0 (Err f) a.2 b)
by_sorts text e f g h (inr (inl a)) (inr (inr (inr b))) = absurd (whole_text text a.0 (Ok b.0) a.2 b.1)
by_sorts text e f g h (inr (inr (inl a))) (inl b) = absurd (omega (arith, b.1, a.short))
by_sorts text e f g h (inr (inr (inl a))) (inr (inl b)) = absurd (whole_text text b.0 (Err e) b.2 a)
by_sorts text e f g h (inr (inr (inl a))) (inr (inr (inl b))) = same_refusal e f (scans_once a.scans b.scans)
by_sorts text e f g h (inr (inr (inl a))) (inr (inr (inr b))) = let same = scans_once a.scans b.1.scans in absurd (cc)
by_sorts text e f g h (inr (inr (inr a))) s =
    let v = refused_here text a.0 e a.1 g in
    let w = refused_here text a.0 f a.1 h in
    sym v.2 ∙ ap (placed text a.0) (one_refusal (lexemes_of text a.0) v.0 w.0 (text_tokens text a.0 a.1) v.1 w.1) ∙ w.2

pub refused_once : (text : Text) (e f : SqlRefusal) → IsRefused text e → IsRefused text f → e ≡ f
refused_once text e f g h = by_sorts text e f g h (sort_of text e g) (sort_of text f h)

-- ---- the reader's answer

pub answer_read : (text : Text) (found : List tokens.Token) (ts : List Lexeme) (p : List Statement) → IsFound text (Ok found) → ts ≡ lexemes_of text found → IsParsed ts (Ok p) → IsTold text (Ok p)
answer_read text found ts p f same parsed =
    let s = found_ok text found f in
    told_read text found p s (text_tokens text found s) (subst (λ z. IsParsed z (Ok p)) same parsed)

pub answer_refused : (text : Text) (found : List tokens.Token) (ts : List Lexeme) (r : Refusal) (e : SqlRefusal) → IsFound text (Ok found) → ts ≡ lexemes_of text found → IsParsed ts (Err r) → e ≡ placed text found r → IsTold text (Err e)
answer_refused text found ts r e f same parsed here =
    let s = found_ok text found f in
    subst (λ z. IsTold text (Err z)) (sym here) (told_refused text found r s (text_tokens text found s) (subst (λ z. IsParsed z (Err r)) same parsed))
