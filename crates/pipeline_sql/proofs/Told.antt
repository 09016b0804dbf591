-- What the calls below say of a text, put together.
use Rattle.std.proofs.Common.{◌≡◌, ◌≢◌, ℕ, zero, suc, ◌≤◌, ◌<◌, Bool, true, false, cond, List, [], ◌∷◌, length, take, Result, Ok, Err, refl, sym, ap, ◌∙◌, subst, arith, ◌⊎◌, inl, inr, ⊎_elim, IsUtf8}
use Rattle.std.specs.Prelude.{IfOk, IfErr}
use Rattle.std.specs.Str.{is_utf8}
use Rattle.std.specs.Str.Lossy.{utf8_valid_len, valid_len_up_to}
use Rattle.std.proofs.lemmas.Bool.{both_ways, cases_lt}
use Rattle.std.proofs.lemmas.List.{take_all}
use Rattle.std.proofs.lemmas.Str.{IsUtf8-nil, IsUtf8-from_is_utf8, utf8_valid_len-IsUtf8}
use Rattle.sql_tokens.specs.declared.token.Token as tokens
use Rattle.sql_tokens.specs.declared.lexical.Context.{Context}
use Rattle.sql_tokens.specs.declared.lexical.Context.TheVariants.{Open}
use Rattle.sql_tokens.specs.declared.error.SqlRefusal.{SqlRefusal}
use Rattle.sql_tokens.specs.declared.error.SqlRefusal.TheVariants as refusal
use Rattle.sql_tokens.specs.Scanning.{Answer, Scans, ends, blank, token, too_large, bad, max_text}
use Rattle.sql_tokens.proofs.Once.{scans_once}
use Rattle.sql_tree.specs.declared.lexeme.LexemeKind.TheVariants as k
use Rattle.sql_tree.specs.declared.lexeme.Lexeme.{Lexeme}
use Rattle.sql_tree.specs.declared.statement.Statement.{Statement}
use Rattle.sql_lexemes.specs.Spellable.{is_spellable}
use Rattle.sql_statements.specs.declared.error.Refusal.{Refusal}
use Rattle.sql_statements.specs.declared.error.Refusal.TheVariants as causes
use Rattle.sql_statements.specs.Limits.{AreTokens}
use Rattle.sql_statements.specs.Pipelines as statements
use Rattle.sql_statements.specs.Pipelines.{IsShortPipeline}
use Rattle.pipeline_sql.specs.Read.{Text, IsScanned, lexemes_of, IsRead, IsRefusedAt, IsRefused, placed}

-- ---- tokens

-- what the call for the tokens of a text says
pub record IsFound (text : Text) (r : Answer) : Type 0 where
  pub too_long : max_text < length text → r ≡ Err refusal.TextTooLong
  pub not_utf8 : length text ≤ max_text → utf8_valid_len text < length text → r ≡ Err (refusal.BadToken (utf8_valid_len text))
  pub scanned : length text ≤ max_text → IsUtf8 text → r ≢ Err refusal.Memory → Scans Open 0 text [] r

up_to_le : (text : Text) (n : ℕ) → valid_len_up_to text n ≤ n
up_to_le text zero = omega arith
up_to_le text (suc n) = by_test (is_utf8 (take (suc n) text)) (up_to_le text n)
  where
    by_test : (b : Bool) → valid_len_up_to text n ≤ n → cond b (suc n) (valid_len_up_to text n) ≤ suc n
    by_test true low = omega arith
    by_test false low = omega arith

-- a text whose bytes are all a beginning in UTF-8 is in UTF-8
whole_utf8 : (text : Text) → length text ≤ utf8_valid_len text → IsUtf8 text
unfolding utf8_valid_len
whole_utf8 [] h = IsUtf8-nil
whole_utf8 (b ∷ z) h = by_test (is_utf8 (take (suc (length z)) (b ∷ z))) refl h
  where
    by_test : (test : Bool) → is_utf8 (take (suc (length z)) (b ∷ z)) ≡ test → suc (length z) ≤ cond test (suc (length z)) (valid_len_up_to (b ∷ z) (length z)) → IsUtf8 (b ∷ z)
    by_test true e le = IsUtf8-from_is_utf8 (b ∷ z) (ap is_utf8 (sym (take_all (suc (length z)) (b ∷ z) (omega arith))) ∙ e)
    by_test false e le = absurd (omega (arith, up_to_le (b ∷ z) (length z)))

-- what a scan can answer
abbrev IsScanAnswer : Answer → Type 0
IsScanAnswer (Ok found) = Unit {0}
IsScanAnswer (Err (refusal.BadToken at)) = Unit {0}
IsScanAnswer (Err (refusal.LiteralTooLarge at)) = Unit {0}
IsScanAnswer (Err refusal.TextTooLong) = ⊥
IsScanAnswer (Err (refusal.Unexpected at)) = ⊥
IsScanAnswer (Err (refusal.ExprTooLong at)) = ⊥
IsScanAnswer (Err refusal.Memory) = ⊥

scan_answers : {c : Context} {at : ℕ} {z : Text} {found : List tokens.Token} {r : Answer} → Scans c at z found r → IsScanAnswer r
scan_answers ends = tt
scan_answers (blank len e n) = scan_answers n
scan_answers (token kind len e f n) = scan_answers n
scan_answers (too_large kind len e f) = tt
scan_answers (bad e) = tt

-- the call answers what the scan does, unless memory runs out
pub found_once : (text : Text) (r a : Answer) → IsFound text r → IsScanned text a → (r ≡ a) ⊎ (r ≡ Err refusal.Memory)
found_once text (Ok found) a f s = inl (scans_once (f.scanned s.short s.utf8 (λ e. cc)) s.scans)
found_once text (Err refusal.Memory) a f s = inr refl
found_once text (Err refusal.TextTooLong) a f s = inl (scans_once (f.scanned s.short s.utf8 (λ e. cc)) s.scans)
found_once text (Err (refusal.BadToken at)) a f s = inl (scans_once (f.scanned s.short s.utf8 (λ e. cc)) s.scans)
found_once text (Err (refusal.LiteralTooLarge at)) a f s = inl (scans_once (f.scanned s.short s.utf8 (λ e. cc)) s.scans)
found_once text (Err (refusal.Unexpected at)) a f s = inl (scans_once (f.scanned s.short s.utf8 (λ e. cc)) s.scans)
found_once text (Err (refusal.ExprTooLong at)) a f s = inl (scans_once (f.scanned s.short s.utf8 (λ e. cc)) s.scans)

pub found_ok : (text : Text) (found : List tokens.Token) → IsFound text (Ok found) → IsScanned text (Ok found)
found_ok text found f = ⊎_elim (λ long. let other = f.too_long long in absurd (cc)) short (cases_lt max_text (length text))
  where
    short : length text ≤ max_text → IsScanned text (Ok found)
    short le = ⊎_elim (λ broken. let other = f.not_utf8 le broken in absurd (cc))
        (λ whole. record { short = le; utf8 = whole_utf8 text whole; scans = f.scanned le (whole_utf8 text whole) (λ e. cc) }) (cases_lt (utf8_valid_len text) (length text))

same_refusal : (e f : SqlRefusal) → ◌≡◌ {A = Answer} (Err e) (Err f) → e ≡ f
same_refusal e f h = cc

scan_refused : (text : Text) (e : SqlRefusal) → (e ≢ refusal.Memory → IsScanned text (Err e)) → (e ≡ refusal.Memory) ⊎ IsRefused text e
scan_refused text refusal.Memory h = inl refl
scan_refused text refusal.TextTooLong h = absurd (scan_answers (h (λ e. cc)).scans)
scan_refused text (refusal.BadToken at) h = inr (inr (h (λ e. cc)))
scan_refused text (refusal.LiteralTooLarge at) h = inr (h (λ e. cc))
scan_refused text (refusal.Unexpected at) h = absurd (scan_answers (h (λ e. cc)).scans)
scan_refused text (refusal.ExprTooLong at) h = absurd (scan_answers (h (λ e. cc)).scans)

found_err : (text : Text) (e : SqlRefusal) → IsFound text (Err e) → (e ≡ refusal.Memory) ⊎ IsRefused text e
found_err text e f = ⊎_elim (λ long. inr (subst (IsRefused text) (sym (same_refusal e refusal.TextTooLong (f.too_long long))) long)) short (cases_lt max_text (length text))
  where
    broken : length text ≤ max_text → utf8_valid_len text < length text → (e ≡ refusal.Memory) ⊎ IsRefused text e
    broken le within =
        inr (subst (IsRefused text) (sym (same_refusal e (refusal.BadToken (utf8_valid_len text)) (f.not_utf8 le within)))
        (inl (record { short = le; within = within; valid = refl })))

    short : length text ≤ max_text → (e ≡ refusal.Memory) ⊎ IsRefused text e
    short le = ⊎_elim (broken le)
        (λ whole. scan_refused text e (λ other. record { short = le; utf8 = whole_utf8 text whole; scans = f.scanned le (whole_utf8 text whole) (λ same. other (same_refusal e refusal.Memory same)) }))
        (cases_lt (utf8_valid_len text) (length text))

-- ---- what the reader of a text says

pub record IsTold (text : Text) (r : Result (List Statement) SqlRefusal) : Type 0 where
  pub read : IfOk r (λ statements. IsRead text statements)
  pub refused : IfErr r (λ e. (e ≡ refusal.Memory) ⊎ IsRefused text e)
  pub only_read : (statements : List Statement) → IsRead text statements → (r ≡ Ok statements) ⊎ (r ≡ Err refusal.Memory)
  pub only_refused : (e : SqlRefusal) → IsRefused text e → (r ≡ Err e) ⊎ (r ≡ Err refusal.Memory)

pub told_memory : (text : Text) → IsTold text (Err refusal.Memory)
told_memory text = record { read = tt; refused = inl refl; only_read = λ statements h. inr refl; only_refused = λ e h. inr refl }

-- a text without tokens
pub told_tokens : (text : Text) (e : SqlRefusal) → IsFound text (Err e) → IsTold text (Err e)
told_tokens text e f = record { read = tt; refused = found_err text e f; only_read = λ statements h. none h.found h.scanned; only_refused = only }
  where
    as_told : (g : SqlRefusal) → ◌≡◌ {A = Answer} (Err e) (Err g) → ◌≡◌ {A = Result (List Statement) SqlRefusal} (Err e) (Err g)
    as_told g h = ap Err (same_refusal e g h)

    none : (found : List tokens.Token) → {A : Type 0} → IsScanned text (Ok found) → A ⊎ (◌≡◌ {A = Result (List Statement) SqlRefusal} (Err e) (Err refusal.Memory))
    none found s = ⊎_elim (λ same. absurd (cc)) (λ memory. inr (as_told refusal.Memory memory)) (found_once text (Err e) (Ok found) f s)

    scanned : (g : SqlRefusal) → IsScanned text (Err g) → (◌≡◌ {A = Result (List Statement) SqlRefusal} (Err e) (Err g)) ⊎ (◌≡◌ {A = Result (List Statement) SqlRefusal} (Err e) (Err refusal.Memory))
    scanned g s = ⊎_elim (λ same. inl (as_told g same)) (λ memory. inr (as_told refusal.Memory memory)) (found_once text (Err e) (Err g) f s)

    only : (g : SqlRefusal) → IsRefused text g → (◌≡◌ {A = Result (List Statement) SqlRefusal} (Err e) (Err g)) ⊎ (◌≡◌ {A = Result (List Statement) SqlRefusal} (Err e) (Err refusal.Memory))
    only refusal.TextTooLong h = inl (as_told refusal.TextTooLong (f.too_long h))
    only (refusal.BadToken at) (inl h) = inl (as_told (refusal.BadToken at) (f.not_utf8 h.short (subst (λ n. n < length text) (sym h.valid) h.within) ∙ ap (λ n. Err (refusal.BadToken n)) h.valid))
    only (refusal.BadToken at) (inr h) = scanned (refusal.BadToken at) h
    only (refusal.LiteralTooLarge at) h = scanned (refusal.LiteralTooLarge at) h
    only (refusal.Unexpected at) h = none h.found h.scanned
    only (refusal.ExprTooLong at) h = none h.found h.scanned
    only refusal.Memory h = absurd h

-- ---- lexemes

pub not_end : (t : Lexeme) → is_spellable t ≡ true → t.kind ≢ k.End
not_end t h end = both_ways false refl (subst (λ x. is_spellable (record { kind = x; text = t.text; value = t.value }) ≡ true) end h)

same_tokens : (found other : List tokens.Token) → ◌≡◌ {A = Answer} (Ok found) (Ok other) → found ≡ other
same_tokens found other h = cc

pub derived_here : (text : Text) (found : List tokens.Token) (statements : List Statement) → IsScanned text (Ok found) → IsRead text statements → IsShortPipeline (lexemes_of text found) statements
derived_here text found statements s h =
    subst (λ z. IsShortPipeline (lexemes_of text z) statements) (same_tokens h.found found (scans_once h.scanned.scans s.scans)) h.derived

-- why tokens are refused, of which this refusal of the text is
pub IsPlaced : Text → List tokens.Token → SqlRefusal → Refusal → Type 0
IsPlaced text found e f = statements.IsRefused (lexemes_of text found) f × (placed text found f ≡ e)

caused_here : (Cause : List Lexeme → ℕ → Type 0) (text : Text) (found : List tokens.Token) (at : ℕ) → IsScanned text (Ok found) → IsRefusedAt Cause text at →
    (place : ℕ) × Cause (lexemes_of text found) place × (placed text found (causes.Unexpected place) ≡ refusal.Unexpected at) × (placed text found (causes.TooLong place) ≡ refusal.ExprTooLong at)
caused_here Cause text found at s h =
    let same = same_tokens h.found found (scans_once h.scanned.scans s.scans) in
    let begins = h.begins in (
      h.place,
      subst (λ z. Cause (lexemes_of text z) h.place) same h.caused,
      ap (λ z. placed text z (causes.Unexpected h.place)) (sym same) ∙ ap refusal.Unexpected (sym begins),
      ap (λ z. placed text z (causes.TooLong h.place)) (sym same) ∙ ap refusal.ExprTooLong (sym begins),
    )

pub refused_here : (text : Text) (found : List tokens.Token) (e : SqlRefusal) → IsScanned text (Ok found) → IsRefused text e → (f : Refusal) × statements.IsRefused (lexemes_of text found) f × (placed text found f ≡ e)
refused_here text found refusal.TextTooLong s h = absurd (omega (arith, s.short))
refused_here text found (refusal.BadToken at) s (inl h) = absurd (omega (arith, h.within, h.valid, utf8_valid_len-IsUtf8 text s.utf8))
refused_here text found (refusal.BadToken at) s (inr h) = let same = scans_once h.scans s.scans in absurd (cc)
refused_here text found (refusal.LiteralTooLarge at) s h = let same = scans_once h.scans s.scans in absurd (cc)
refused_here text found (refusal.Unexpected at) s h = let w = caused_here statements.IsUnexpected text found at s h in (causes.Unexpected w.0, w.1, w.2)
refused_here text found (refusal.ExprTooLong at) s h = let w = caused_here statements.IsTooLong text found at s h in (causes.TooLong w.0, w.1, w.3)
refused_here text found refusal.Memory s h = absurd h

refused_text : (text : Text) (found : List tokens.Token) (f : Refusal) → IsScanned text (Ok found) → statements.IsRefused (lexemes_of text found) f → IsRefused text (placed text found f)
refused_text text found causes.Memory s h = h
refused_text text found (causes.Unexpected at) s h = record { found = found; scanned = s; place = at; caused = h; begins = refl }
refused_text text found (causes.TooLong at) s h = record { found = found; scanned = s; place = at; caused = h; begins = refl }

-- what the call for the statements of tokens says
pub record IsParsed (ts : List Lexeme) (r : Result (List Statement) Refusal) : Type 0 where
  pub ok : IfOk r (λ p. IsShortPipeline ts p)
  pub only : (p : List Statement) → IsShortPipeline ts p → (r ≡ Ok p) ⊎ (r ≡ Err causes.Memory)
  pub refused : AreTokens ts → IfErr r (λ f. (f ≡ causes.Memory) ⊎ statements.IsRefused ts f)
  pub only_refused : (f : Refusal) → AreTokens ts → statements.IsRefused ts f → (r ≡ Err f) ⊎ (r ≡ Err causes.Memory)

same_statements : (p q : List Statement) → ◌≡◌ {A = Result (List Statement) Refusal} (Ok p) (Ok q) → p ≡ q
same_statements p q h = cc

same_cause : (e f : Refusal) → ◌≡◌ {A = Result (List Statement) Refusal} (Err e) (Err f) → e ≡ f
same_cause e f h = cc

pub told_read : (text : Text) (found : List tokens.Token) (p : List Statement) → IsScanned text (Ok found) → AreTokens (lexemes_of text found) → IsParsed (lexemes_of text found) (Ok p) → IsTold text (Ok p)
told_read text found p s tokens h = record {
  read = record { found = found; scanned = s; derived = h.ok };
  refused = tt;
  only_read = λ q is. ⊎_elim (λ same. inl (ap Ok (same_statements p q same))) (λ memory. absurd (cc)) (h.only q (derived_here text found q s is));
  only_refused = λ e is. let w = refused_here text found e s is in ⊎_elim (λ same. absurd (cc)) (λ memory. absurd (cc)) (h.only_refused w.0 tokens w.1);
}

pub told_refused : (text : Text) (found : List tokens.Token) (f : Refusal) → IsScanned text (Ok found) → AreTokens (lexemes_of text found) → IsParsed (lexemes_of text found) (Err f) → IsTold text (Err (placed text found f))
told_refused text found f s tokens h = record {
  read = tt;
  refused = ⊎_elim (λ memory. inl (ap (placed text found) memory)) (λ cause. inr (refused_text text found f s cause)) (h.refused tokens);
  only_read = λ q is. ⊎_elim (λ same. absurd (cc)) (λ memory. inr (no_memory memory)) (h.only q (derived_here text found q s is));
  only_refused = λ e is.
      let w = refused_here text found e s is in
      ⊎_elim (λ same. inl (ap Err (ap (placed text found) (same_cause f w.0 same) ∙ w.2))) (λ memory. inr (no_memory memory)) (h.only_refused w.0 tokens w.1);
}
  where
    no_memory : ◌≡◌ {A = Result (List Statement) Refusal} (Err f) (Err causes.Memory) → ◌≡◌ {A = Result (List Statement) SqlRefusal} (Err (placed text found f)) (Err refusal.Memory)
    no_memory h = ap Err (ap (placed text found) (same_cause f causes.Memory h))
