-- The lexemes of a text's tokens are ones that a text can have.
use Rattle.std.proofs.Common.{◌≡◌, ℕ, ◌+◌, ◌-◌, ◌≤◌, ◌<◌, Bool, true, false, ◌==◌, List, [], ◌∷◌, ◌++◌, length, take, drop, slice_index, Some, None, Ok, refl, sym, ap, ap₂, ◌∙◌, subst, arith, ◌⊎◌, inl, inr, ⊎_elim, IsUtf8, length-drop}
use Rattle.std.specs.List.{list_all}
use Rattle.std.proofs.lemmas.Bool.{and_parts, and_from, cond-true, cond-false, cases_Bool, cases_lt}
use Rattle.std.proofs.lemmas.Bool.Decides.{nat_tests}
use Rattle.std.proofs.lemmas.List.{drop-drop, map-append, get_or_past}
use Rattle.std.proofs.lemmas.List.Folds.{list_all-append}
use Rattle.std.proofs.lemmas.List.Sums.{prefix_len-le-length}
use Rattle.sql_tokens.specs.declared.token.Token as tokens
use Rattle.sql_tokens.specs.declared.token.TokenKind.{TokenKind}
use Rattle.sql_tokens.specs.declared.token.TokenKind.TheVariants as kinds
use Rattle.sql_tokens.specs.declared.lexical.Class.TheVariants as class
use Rattle.sql_tokens.specs.declared.lexical.Piece.TheVariants.{Token}
use Rattle.sql_tokens.specs.declared.lexical.Context.{Context}
use Rattle.sql_tokens.specs.declared.lexical.Context.TheVariants.{Open, Sign, Operand}
use Rattle.sql_tokens.specs.Lexical.{piece, is_in, run, closing, is_escape, symbol_len, is_too_large}
use Rattle.sql_tokens.specs.Scanning.{Answer, Scans, ends, blank, token, too_large, bad}
use Rattle.sql_tokens.specs.Slices.{slice, IsTokenOf}
use Rattle.sql_tokens.proofs.SliceLemmas.{token_of}
use Rattle.sql_tree.specs.declared.lexeme.Lexeme.{Lexeme}
use Rattle.sql_lexemes.specs.Lexing.{lexeme, lexeme_of}
use Rattle.sql_lexemes.specs.Readable.{IsReadable}
use Rattle.sql_lexemes.specs.Spellable.{is_spellable}
use Rattle.sql_lexemes.proofs.Slicing.{found as found_piece, IsFound as IsFoundPiece, readable}
use Rattle.sql_lexemes.proofs.Spelled.{spellable_parts}
use Rattle.sql_statements.specs.Limits.{AreTokens}
use Rattle.pipeline_sql.specs.Read.{Text, IsScanned, lexemes_of}
use Rattle.pipeline_sql.proofs.Told.{not_end}

-- ---- a token that is no number has some bytes of the text

abbrev IsInside : Text → ℕ → Type 0
IsInside z len = (0 < len) × (len ≤ length z)

letter_word : (b : ℕ) → is_in class.Letter b ≡ true → is_in class.Word b ≡ true
letter_word b letter = grind (arith, nat_tests)

word_inside : (b : ℕ) (z : Text) (len : ℕ) → IsFoundPiece kinds.Word (b ∷ z) len → IsInside (b ∷ z) len
word_inside b z len h =
    let more : run class.Word (b ∷ z) ≡ 1 + run class.Word z = cond-true (is_in class.Word b) (1 + run class.Word z) 0 (letter_word b h.0) in
    (omega (arith, h.1, more), omega (arith, h.1, prefix_len-le-length (is_in class.Word) (b ∷ z)))

-- a place that reads as some byte is one of the text
read_inside : (z : Text) (at b : ℕ) → slice_index z at ≡ b → 0 < b → at < length z
read_inside z at b is some = ⊎_elim (λ within. within) (λ past. absurd (omega (arith, is, some, get_or_past z at 0 past))) (cases_lt at (length z))

quoted_inside : (z : Text) (len : ℕ) → IsFoundPiece kinds.Quoted z len → IsInside z len
quoted_inside z len h = (omega (arith, h.1), omega (arith, h.1, read_inside z (run class.Quoted (drop 1 z) + 1) 96 h.3 (omega arith)))

abbrev IsClosed : ℕ → Text → ℕ → Type 0
IsClosed at z end = (at < end) × (end ≤ at + length z)

closed_more : (at b : ℕ) (z : Text) (end : ℕ) → IsClosed (at + 1) z end → IsClosed at (b ∷ z) end
closed_more at b z end h = (omega (arith, h.0), omega (arith, h.1))

closed_here : (at b : ℕ) (z : Text) (end : ℕ) → Some (at + 1) ≡ Some end → IsClosed at (b ∷ z) end
closed_here at b z end e = let here : at + 1 ≡ end = cc in (omega arith, omega arith)

closed : (quote : ℕ) (is_escaped : Bool) (at : ℕ) (z : Text) (end : ℕ) → closing quote is_escaped at z ≡ Some end → IsClosed at z end
closed quote is_escaped at [] end e = absurd (cc)
closed quote true at (b ∷ z) end e = ⊎_elim
    (λ h. closed_more at b z end (closed quote false (at + 1) z end (sym (cond-true (is_escape b) _ _ h) ∙ e)))
    (λ h. let no : None ≡ Some end = sym (cond-false (is_escape b) _ _ h) ∙ e in absurd (cc)) (cases_Bool (is_escape b))
closed quote false at (b ∷ z) end e = ⊎_elim
    (λ h. closed_here at b z end (sym (cond-true (b == quote) _ _ h) ∙ e))
    (λ h. closed_more at b z end (closed quote (b == 92) (at + 1) z end (sym (cond-false (b == quote) _ _ h) ∙ e))) (cases_Bool (b == quote))

string_inside : (b : ℕ) (z : Text) (len : ℕ) → IsFoundPiece kinds.Str (b ∷ z) len → IsInside (b ∷ z) len
string_inside b z len h = let c = closed b false 1 z len h.1 in (omega (arith, c.0), omega (arith, c.1))

-- a symbol is one byte or two, of which the second is no end
symbol_short : (b next : ℕ) → symbol_len b next ≤ 2
symbol_short b next = grind (arith, nat_tests)

symbol_alone : (b : ℕ) → symbol_len b 0 ≤ 1
symbol_alone b = grind (arith, nat_tests)

symbol_inside : (b : ℕ) (z : Text) (len : ℕ) → IsFoundPiece kinds.Symbol (b ∷ z) len → IsInside (b ∷ z) len
symbol_inside b z len (inl h) = (omega (arith, h.1), omega (arith, h.1))
symbol_inside b [] len (inr h) = (h.1, omega (arith, h.0, symbol_alone b))
symbol_inside b (c ∷ z) len (inr h) = (h.1, omega (arith, h.0, symbol_short b c))

-- ---- the lexeme of a token

-- what is scanned here: a token of a text in UTF-8
record IsHere (text : Text) (c : Context) (at : ℕ) (kind : TokenKind) (len b : ℕ) (z : Text) : Type 0 where
  utf8 : IsUtf8 text
  here : b ∷ z ≡ drop at text
  longest : piece (b ∷ z) ≡ Token kind len
  small : is_too_large c kind (take len (b ∷ z)) ≡ false

inside_spellable : (text : Text) (c : Context) (at : ℕ) (kind : TokenKind) (len b : ℕ) (z : Text) → IsHere text c at kind len b z → IsInside (b ∷ z) len → is_spellable (lexeme kind (take len (b ∷ z))) ≡ true
inside_spellable text c at kind len b z h inside =
    let t : tokens.Token = record { start = at; end = at + len; kind = kind } in
    let is : IsTokenOf text t = token_of text c at len kind (omega (arith, inside.0)) (ap piece (sym h.here) ∙ h.longest) (ap (λ y. is_too_large c kind (take len y)) (sym h.here) ∙ h.small) in
    let width : at + len - at ≡ len = omega arith in
    let slice_is : slice text t ≡ take len (b ∷ z) = ap₂ take width (sym h.here) in
    let within : at + len ≤ length text = omega (arith, inside.0, inside.1, ap length h.here, length-drop at text) in
    spellable_parts (b ∷ z) len kind inside.0 inside.1 (found_piece (b ∷ z) kind len h.longest)
    (subst (IsReadable kind) slice_is (readable text t h.utf8 within is))
    (subst (λ y. is_too_large Sign kind y ≡ false) slice_is is.small)

-- a number that is small anywhere is at most the limit behind a sign
number_small : (c : Context) (z : Text) → is_too_large c kinds.Number z ≡ false → is_spellable (lexeme kinds.Number z) ≡ true
number_small Sign z h = grind (arith, nat_tests)
number_small Open z h = grind (arith, nat_tests)
number_small Operand z h = grind (arith, nat_tests)

token_spellable : (text : Text) (c : Context) (at : ℕ) (kind : TokenKind) (len b : ℕ) (z : Text) → IsHere text c at kind len b z → is_spellable (lexeme kind (take len (b ∷ z))) ≡ true
token_spellable text c at kinds.Word len b z h = inside_spellable text c at kinds.Word len b z h (word_inside b z len (found_piece (b ∷ z) kinds.Word len h.longest))
token_spellable text c at kinds.Quoted len b z h = inside_spellable text c at kinds.Quoted len b z h (quoted_inside (b ∷ z) len (found_piece (b ∷ z) kinds.Quoted len h.longest))
token_spellable text c at kinds.Str len b z h = inside_spellable text c at kinds.Str len b z h (string_inside b z len (found_piece (b ∷ z) kinds.Str len h.longest))
token_spellable text c at kinds.Number len b z h = number_small c (take len (b ∷ z)) h.small
token_spellable text c at kinds.Symbol len b z h = inside_spellable text c at kinds.Symbol len b z h (symbol_inside b z len (found_piece (b ∷ z) kinds.Symbol len h.longest))

-- ---- all lexemes of a text

abbrev AreSpellable : List Lexeme → Type 0
AreSpellable ts = list_all is_spellable ts ≡ true

one_more : (ts : List Lexeme) (t : Lexeme) → AreSpellable ts → is_spellable t ≡ true → AreSpellable (ts ++ t ∷ [])
one_more ts t before last = list_all-append is_spellable ts (t ∷ []) ∙ and_from _ _ before (and_from _ _ last refl)

scanned_spellable : (text : Text) {c : Context} {at : ℕ} {z : Text} {done : List tokens.Token} {r : Answer} (all : List tokens.Token) → IsUtf8 text → Scans c at z done r → r ≡ Ok all → z ≡ drop at text →
    AreSpellable (lexemes_of text done) → AreSpellable (lexemes_of text all)
scanned_spellable text all u (ends {found = done}) same here before = let found : done ≡ all = cc in subst (λ ts. AreSpellable (lexemes_of text ts)) found before
scanned_spellable text all u (blank {at = at} len e n) same here before =
    scanned_spellable text all u n same (ap (drop len) here ∙ drop-drop len at text) before
scanned_spellable text all u (token {c = c} {at = at} {b = b} {z = z} {found = done} kind len e f n) same here before =
    let t : tokens.Token = record { start = at; end = at + len; kind = kind } in
    let width : at + len - at ≡ len = omega arith in
    let slice_is : lexeme_of text t ≡ lexeme kind (take len (b ∷ z)) = ap (lexeme kind) (ap₂ take width (sym here)) in
    let last : is_spellable (lexeme_of text t) ≡ true = ap is_spellable slice_is ∙ token_spellable text c at kind len b z (record { utf8 = u; here = here; longest = e; small = f }) in
    scanned_spellable text all u n same (ap (drop len) here ∙ drop-drop len at text)
    (subst AreSpellable (sym (map-append (lexeme_of text) done (t ∷ []))) (one_more (lexemes_of text done) (lexeme_of text t) before last))
scanned_spellable text all u (too_large kind len e f) same here before = absurd (cc)
scanned_spellable text all u (bad e) same here before = absurd (cc)

pub text_spellable : (text : Text) (found : List tokens.Token) → IsScanned text (Ok found) → list_all is_spellable (lexemes_of text found) ≡ true
text_spellable text found s = scanned_spellable text found s.utf8 s.scans refl refl refl

spellable_tokens : (ts : List Lexeme) → AreSpellable ts → AreTokens ts
spellable_tokens [] all = tt
spellable_tokens (t ∷ ts) all = let parts = and_parts _ _ all in (not_end t parts.0, spellable_tokens ts parts.1)

pub text_tokens : (text : Text) (found : List tokens.Token) → IsScanned text (Ok found) → AreTokens (lexemes_of text found)
text_tokens text found s = spellable_tokens (lexemes_of text found) (text_spellable text found s)
