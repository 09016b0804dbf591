-- The lexemes of tokens are such as a text can have, and their text is UTF-8.
use Rattle.std.proofs.Common.{◌≡◌, ℕ, suc, ◌-◌, ◌^◌, ◌≤◌, ◌<◌, Bool, true, false, not, cond, ◌&&◌, ◌||◌, ◌==◌, nat_le, List, [], ◌∷◌, ◌++◌, length, take, drop, map, slice_index, bytes_eq, refl, sym, ap, ◌∙◌, subst, arith, ◌⊎◌, inl, inr, ⊎_elim, IsUtf8, length-take, length-drop, decimal}
use Rattle.std.specs.Char.{is_ascii_alphabetic}
use Rattle.std.specs.List.{list_all}
use Rattle.std.specs.Str.{is_utf8, chars, str_eq_ignore_ascii_case}
use Rattle.std.proofs.Math.Utf8.{encode}
use Rattle.std.proofs.lemmas.Bool.{and_parts, and_from, or_cases, cond-true, cond-false, cond_both, cases_Bool, eqb-true, ltb-false, le-leb, leb-true}
use Rattle.std.proofs.lemmas.Bool.Decides.{nat_tests}
use Rattle.std.proofs.lemmas.Str.{IsUtf8-append, IsUtf8-nil, IsUtf8-from_ascii, IsUtf8-from_is_utf8, is_utf8-from_IsUtf8}
use Rattle.std.proofs.lemmas.Str.Ascii.{IsAscii-nil, IsAscii-cons}
use Rattle.sql_tokens.specs.declared.token.Token as tokens
use Rattle.sql_tokens.specs.declared.token.TokenKind.{TokenKind}
use Rattle.sql_tokens.specs.declared.token.TokenKind.TheVariants as token
use Rattle.sql_tokens.specs.declared.lexical.Class.TheVariants as class
use Rattle.sql_tokens.specs.declared.lexical.Context.TheVariants.{Sign}
use Rattle.sql_tokens.specs.Lexical.{Text, is_in, run, symbol_len, is_too_large, capped_value}
use Rattle.sql_tokens.specs.Slices.{IsTokenOf, IsSliced}
use Rattle.sql_tree.specs.declared.lexeme.LexemeKind.{LexemeKind}
use Rattle.sql_tree.specs.declared.lexeme.LexemeKind.TheVariants as k
use Rattle.sql_tree.specs.declared.lexeme.Lexeme.{Lexeme}
use Rattle.sql_tree.specs.Lexemes.{same_kind, keyword, kind_among, reserved_kinds, word_kind, is_any_word}
use Rattle.sql_tree.specs.Spelling.{is_word, escaped, symbol, ends_operand, spelling, gap, spelled_behind, spelled}
use Rattle.sql_lexemes.specs.Lexing.{inside, lexeme, lexeme_of, symbol_kind, unescaped}
use Rattle.sql_lexemes.specs.Readable.{IsReadable}
use Rattle.sql_lexemes.specs.Spellable.{is_spellable, is_within_limit, are_spellable_behind, are_spellable, is_quotable}
use Rattle.sql_lexemes.proofs.Slicing.{IsFound, found, run_passes, words_ascii, inside_is, readable, sliced_head}
use Rattle.std.proofs.lemmas.Slice.Eq.{bytes_eq-Decides}
use Rattle.sql_lexemes.proofs.Spellings.{decimal_number}
use Rattle.sql_lexemes.proofs.Utf8.{IsUtf8-unescaped, IsUtf8-escaped}

same_self : (kind : LexemeKind) → same_kind kind kind ≡ true
unfolding same_kind
same_self k.End = refl
same_self _ = refl

other_spellable : (any a b : Bool) → any ≡ true → a ≡ true → (cond any a b && true) ≡ true
other_spellable any a b h e = and_from _ _ (cond-true any a b h ∙ e) refl

word_spellable : (kind : LexemeKind) (s : Text) → is_any_word kind ≡ true → is_word s ≡ true → same_kind (word_kind s) kind ≡ true → is_spellable (record { kind = kind; text = s; value = 0 }) ≡ true
unfolding is_any_word same_kind
word_spellable k.End s any word same = absurd (cc)
word_spellable k.Quoted s any word same = absurd (cc)
word_spellable k.Str s any word same = absurd (cc)
word_spellable k.Number s any word same = absurd (cc)
word_spellable kind s any word same = other_spellable (is_any_word kind) (is_word s && same_kind (word_kind s) kind) (bytes_eq s []) any (and_from (is_word s) _ word same)

kind_any : (kinds : List LexemeKind) (s : Text) → list_all is_any_word kinds ≡ true → is_any_word (kind_among kinds s) ≡ true
unfolding is_any_word same_kind
kind_any [] s h = refl
kind_any (kind ∷ kinds) s h =
    let parts = and_parts (is_any_word kind) (list_all is_any_word kinds) h in
    cond_both (str_eq_ignore_ascii_case s (keyword kind)) kind (kind_among kinds s) (λ x. is_any_word x ≡ true) (λ _. parts.0) (λ _. kind_any kinds s parts.1)

all_any : list_all is_any_word reserved_kinds ≡ true
unfolding is_any_word same_kind
all_any = refl

word_any : (s : Text) → is_any_word (word_kind s) ≡ true
unfolding word_kind
word_any s = kind_any reserved_kinds s all_any

front_letter : (z : Text) (n : ℕ) → 0 < n → is_in class.Letter (slice_index z 0) ≡ true → list_all (is_in class.Word) (take n z) ≡ true → n ≤ length z → is_word (take n z) ≡ true
front_letter [] n some letter all le = absurd (omega arith)
front_letter (b ∷ z) n some letter all le =
    let more : n ≡ suc (n - 1) = omega arith in
    subst (λ m. is_word (take m (b ∷ z)) ≡ true) (sym more)
    (and_from _ _ letter (and_parts _ _ (subst (λ m. list_all (is_in class.Word) (take m (b ∷ z)) ≡ true) more all)).1)

quotable : (z : Text) → 0 < length z → list_all (is_in class.Quoted) z ≡ true → is_utf8 z ≡ true → is_quotable z ≡ true
quotable [] some all u = absurd (omega arith)
quotable (b ∷ z) some all u = and_from _ _ all u

-- ---- symbols

abbrev IsOfKind : Text → Type 0
IsOfKind s = is_spellable (record { kind = symbol_kind s; text = []; value = 0 }) ≡ true

one_byte : (b : ℕ) → (b == 40 || b == 41 || b == 44 || b == 59 || b == 42 || b == 43 || b == 37) ≡ true → IsOfKind (b ∷ [])
unfolding symbol_kind is_any_word same_kind
one_byte b h =
    ⊎_elim (λ h. ⊎_elim (λ h. ⊎_elim (λ h. ⊎_elim (λ h. ⊎_elim (λ h. ⊎_elim (at 40 refl) (at 41 refl) (or_cases (b == 40) (b == 41) h)) (at 44 refl) (or_cases _ (b == 44) h)) (at 59 refl) (or_cases _ (b == 59) h)) (at 42 refl) (or_cases _ (b == 42) h)) (at 43 refl) (or_cases _ (b == 43) h)) (at 37 refl) (or_cases _ (b == 37) h)
  where
    at : (n : ℕ) → IsOfKind (n ∷ []) → (b == n) ≡ true → IsOfKind (b ∷ [])
    at n ok e = subst (λ x. IsOfKind (x ∷ [])) (sym (eqb-true b n e)) ok

abbrev IsSymbolSlice : ℕ → ℕ → ℕ → Type 0
IsSymbolSlice b next len = ((len ≡ 0) ⊎ ((len ≡ 1) × IsOfKind (b ∷ []))) ⊎ ((len ≡ 2) × IsOfKind (b ∷ next ∷ []))

two_bytes : (b next x y : ℕ) → IsOfKind (x ∷ y ∷ []) → b ≡ x → next ≡ y → IsOfKind (b ∷ next ∷ [])
two_bytes b next x y ok e f = subst (λ m. IsOfKind (m ∷ next ∷ [])) (sym e) (subst (λ n. IsOfKind (x ∷ n ∷ [])) (sym f) ok)

equal_or_less : (b next : ℕ) → (b == 61 || b == 60) ≡ true → IsSymbolSlice b next (cond (next == 61 || next == 62) 2 1)
unfolding symbol_kind is_any_word same_kind
equal_or_less b next h = cond_both (next == 61 || next == 62) 2 1 (IsSymbolSlice b next)
    (λ f. inr (
      refl,
      ⊎_elim (λ e. ⊎_elim (λ g. two_bytes b next 61 61 refl (eqb-true b 61 e) (eqb-true next 61 g)) (λ g. two_bytes b next 61 62 refl (eqb-true b 61 e) (eqb-true next 62 g)) (or_cases (next == 61) (next == 62) f))
          (λ e. ⊎_elim (λ g. two_bytes b next 60 61 refl (eqb-true b 60 e) (eqb-true next 61 g)) (λ g. two_bytes b next 60 62 refl (eqb-true b 60 e) (eqb-true next 62 g)) (or_cases (next == 61) (next == 62) f)) (or_cases (b == 61) (b == 60) h),
    ))
    (λ _. inl (inr (refl, ⊎_elim (λ e. subst (λ x. IsOfKind (x ∷ [])) (sym (eqb-true b 61 e)) refl) (λ e. subst (λ x. IsOfKind (x ∷ [])) (sym (eqb-true b 60 e)) refl) (or_cases (b == 61) (b == 60) h))))

greater : (b next : ℕ) → (b == 62) ≡ true → IsSymbolSlice b next (cond (next == 61) 2 1)
unfolding symbol_kind is_any_word same_kind
greater b next h = cond_both (next == 61) 2 1 (IsSymbolSlice b next)
    (λ g. inr (refl, two_bytes b next 62 61 refl (eqb-true b 62 h) (eqb-true next 61 g)))
    (λ _. inl (inr (refl, subst (λ x. IsOfKind (x ∷ [])) (sym (eqb-true b 62 h)) refl)))

not_or_bar : (b next : ℕ) → IsSymbolSlice b next (cond ((b == 33 && next == 61) || (b == 124 && next == 124)) 2 0)
unfolding symbol_kind is_any_word same_kind
not_or_bar b next = cond_both ((b == 33 && next == 61) || (b == 124 && next == 124)) 2 0 (IsSymbolSlice b next)
    (λ h. inr (
      refl,
      ⊎_elim (λ e. let p = and_parts (b == 33) (next == 61) e in two_bytes b next 33 61 refl (eqb-true b 33 p.0) (eqb-true next 61 p.1))
          (λ e. let p = and_parts (b == 124) (next == 124) e in two_bytes b next 124 124 refl (eqb-true b 124 p.0) (eqb-true next 124 p.1)) (or_cases (b == 33 && next == 61) (b == 124 && next == 124) h),
    ))
    (λ _. inl (inl refl))

symbol_slice : (b next : ℕ) → IsSymbolSlice b next (symbol_len b next)
symbol_slice b next = cond_both (b == 40 || b == 41 || b == 44 || b == 59 || b == 42 || b == 43 || b == 37) _ _ (IsSymbolSlice b next)
    (λ h. inl (inr (refl, one_byte b h)))
    (λ _. cond_both (b == 61 || b == 60) _ _ (IsSymbolSlice b next) (equal_or_less b next)
    (λ _. cond_both (b == 62) _ _ (IsSymbolSlice b next) (greater b next) (λ _. not_or_bar b next)))

minus_kind : IsOfKind (45 ∷ [])
unfolding symbol_kind is_any_word same_kind
minus_kind = refl

take_one : (z : Text) → 1 ≤ length z → take 1 z ≡ slice_index z 0 ∷ []
take_one [] le = absurd (omega arith)
take_one (b ∷ z) le = refl

take_two : (z : Text) → 2 ≤ length z → take 2 z ≡ slice_index z 0 ∷ slice_index z 1 ∷ []
take_two [] le = absurd (omega arith)
take_two (b ∷ []) le = absurd (omega arith)
take_two (b ∷ c ∷ z) le = refl

symbol_here : (z : Text) (len n : ℕ) → n ≤ length z → len ≡ n → 0 < n → IsSymbolSlice (slice_index z 0) (slice_index z 1) len → IsOfKind (take n z)
symbol_here z len n le e some (inl (inl zero_len)) = absurd (omega arith)
symbol_here z len n le e some (inl (inr one)) =
    let width : n ≡ 1 = omega (arith, one.0) in
    subst IsOfKind (sym (ap (λ m. take m z) width ∙ take_one z (omega arith))) one.1
symbol_here z len n le e some (inr two) =
    let width : n ≡ 2 = omega (arith, two.0) in
    subst IsOfKind (sym (ap (λ m. take m z) width ∙ take_two z (omega arith))) two.1

symbol_token : (z : Text) (n : ℕ) → n ≤ length z → IsFound token.Symbol z n → IsOfKind (take n z)
symbol_token z n le (inl (minus, one)) = subst IsOfKind (sym (ap (λ m. take m z) (sym one) ∙ take_one z (omega (arith, one)) ∙ ap (λ b. b ∷ []) minus)) minus_kind
symbol_token z n le (inr (same, some)) = symbol_here z (symbol_len (slice_index z 0) (slice_index z 1)) n le same some (symbol_slice (slice_index z 0) (slice_index z 1))

-- ---- the lexeme of any token

pub spellable_parts : (z : Text) (n : ℕ) (kind : TokenKind) → 0 < n → n ≤ length z → IsFound kind z n → IsReadable kind (take n z) → is_too_large Sign kind (take n z) ≡ false → is_spellable (lexeme kind (take n z)) ≡ true
spellable_parts z n token.Word some le h u small =
    let all = subst (λ m. list_all (is_in class.Word) (take m z) ≡ true) h.1 (run_passes class.Word z) in
    word_spellable (word_kind (take n z)) (take n z) (word_any (take n z)) (front_letter z n some h.0 all le) (same_self (word_kind (take n z)))
spellable_parts z n token.Quoted some le h u small =
    let len = run class.Quoted (drop 1 z) in
    let same : inside (take n z) ≡ take len (drop 1 z) = ap (λ m. inside (take m z)) (sym h.1) ∙ inside_is z len (omega (arith, h.1)) in
    let room : 0 < length (take len (drop 1 z)) = omega (arith, length-take len (drop 1 z), length-drop 1 z, h.1, h.2) in
    and_from _ _ (subst (λ s. is_quotable s ≡ true) (sym same) (quotable (take len (drop 1 z)) room (run_passes class.Quoted (drop 1 z)) (subst (λ s. is_utf8 s ≡ true) same (is_utf8-from_IsUtf8 (inside (take n z)) u)))) refl
spellable_parts z n token.Str some le h u small = and_from _ _ (is_utf8-from_IsUtf8 (unescaped false (inside (take n z))) (IsUtf8-unescaped (inside (take n z)) u)) refl
spellable_parts z n token.Number some le h u small = le-leb (capped_value (take n z)) (2 ^ 63) (ltb-false (2 ^ 63) (capped_value (take n z)) small)
spellable_parts z n token.Symbol some le h u small = symbol_token z n le h

spellable_of : (text : Text) (t : tokens.Token) → IsUtf8 text → t.end ≤ length text → IsTokenOf text t → is_spellable (lexeme_of text t) ≡ true
spellable_of text t u within h =
    spellable_parts (drop t.start text) (t.end - t.start) t.kind (omega (arith, h.some)) (omega (arith, length-drop t.start text)) (found (drop t.start text) t.kind (t.end - t.start) h.longest) (readable text t u within h) h.small

pub spellable_all : (text : Text) (from : ℕ) (ts : List tokens.Token) → IsUtf8 text → IsSliced text from (length text) ts → list_all is_spellable (map (lexeme_of text) ts) ≡ true
spellable_all text from [] u h = refl
spellable_all text from (t ∷ ts) u h =
    let head = sliced_head text from (length text) t ts h in
    and_from _ _ (spellable_of text t u head.0 head.1) (spellable_all text t.end ts u head.2)

-- ---- the text of lexemes

words_utf8 : (z : Text) → is_word z ≡ true → IsUtf8 z
words_utf8 [] h = absurd (cc)
words_utf8 (b ∷ z) h = let parts = and_parts _ _ h in IsUtf8-from_ascii (b ∷ z) (words_ascii (b ∷ z) (and_from _ _ (letter parts.0) parts.1))
  where
    letter : (is_ascii_alphabetic b || b == 95) ≡ true → is_in class.Word b ≡ true
    letter e = grind (arith, nat_tests)

around : (q : ℕ) (z : Text) → q < 128 → IsUtf8 z → IsUtf8 (q ∷ z ++ q ∷ [])
around q z low u =
    let quote : IsUtf8 (q ∷ []) = IsUtf8-from_ascii (q ∷ []) (IsAscii-cons q [] low IsAscii-nil) in
    IsUtf8-append (q ∷ z) (q ∷ []) (IsUtf8-append (q ∷ []) z quote u) quote

quotable_utf8 : (z : Text) → is_quotable z ≡ true → IsUtf8 z
quotable_utf8 [] h = absurd (cc)
quotable_utf8 (b ∷ z) h = IsUtf8-from_is_utf8 (b ∷ z) (and_parts _ _ h).1

digit_word : (b : ℕ) → is_in class.Digit b ≡ true → is_in class.Word b ≡ true
digit_word b e = grind (arith, nat_tests)

digits_words : (z : Text) → list_all (is_in class.Digit) z ≡ true → list_all (is_in class.Word) z ≡ true
digits_words [] h = refl
digits_words (b ∷ z) h = let parts = and_parts _ _ h in and_from _ _ (digit_word b parts.0) (digits_words z parts.1)

number_utf8 : (n : ℕ) → n ≤ 2 ^ 63 → IsUtf8 (decimal n)
number_utf8 n le = let d = decimal_number n (omega arith) in IsUtf8-from_ascii (decimal n) (words_ascii (decimal n) (digits_words (decimal n) d.1))

-- a word, or a symbol without text
other_utf8 : (front text : Text) (any : Bool) (same : Bool) (value : ℕ) → IsUtf8 front → (cond any (is_word text && same) (bytes_eq text []) && value == 0) ≡ true → IsUtf8 (front ++ text)
other_utf8 front text any same value u h =
    let parts = and_parts _ (value == 0) h in
    IsUtf8-append front text u (⊎_elim (λ e. words_utf8 text (and_parts _ _ (sym (cond-true any _ _ e) ∙ parts.0)).0)
    (λ e. subst IsUtf8 (sym ((bytes_eq-Decides text []).0 (sym (cond-false any _ _ e) ∙ parts.0))) IsUtf8-nil) (cases_Bool any))

symbol_test : (kind : LexemeKind) → is_utf8 (symbol kind) ≡ true
unfolding is_utf8 chars encode
symbol_test k.End = refl
symbol_test _ = refl

symbol_utf8 : (kind : LexemeKind) → IsUtf8 (symbol kind)
symbol_utf8 kind = IsUtf8-from_is_utf8 (symbol kind) (symbol_test kind)

spelling_utf8 : (kind : LexemeKind) (text : Text) (value : ℕ) → is_spellable (record { kind = kind; text = text; value = value }) ≡ true → IsUtf8 (spelling (record { kind = kind; text = text; value = value }))
spelling_utf8 k.End text value h = absurd (cc)
spelling_utf8 k.Quoted text value h = around 96 text (omega arith) (quotable_utf8 text (and_parts _ (value == 0) h).0)
spelling_utf8 k.Str text value h = around 39 (escaped text) (omega arith) (IsUtf8-escaped text (IsUtf8-from_is_utf8 text (and_parts _ (value == 0) h).0))
spelling_utf8 k.Number text value h = number_utf8 value (leb-true value (2 ^ 63) (and_parts _ (nat_le value (2 ^ 63)) h).1)
spelling_utf8 kind text value h = other_utf8 (symbol kind) text (is_any_word kind) (same_kind (word_kind text) kind) value (symbol_utf8 kind) h

spelled_utf8_behind : (ts : List Lexeme) (second first : LexemeKind) → are_spellable_behind second first ts ≡ true → IsUtf8 (spelled_behind second first ts)
spelled_utf8_behind [] second first h = IsUtf8-nil
spelled_utf8_behind (t ∷ ts) second first h =
    let parts = and_parts (is_spellable t && is_within_limit second first t) (are_spellable_behind first t.kind ts) h in
    let one = spelling_utf8 t.kind t.text t.value (and_parts (is_spellable t) (is_within_limit second first t) parts.0).0 in
    let blank : IsUtf8 (32 ∷ []) = IsUtf8-from_ascii (32 ∷ []) (IsAscii-cons 32 [] (omega arith) IsAscii-nil) in
    let front : IsUtf8 (gap second first t.kind) = cond_both (same_kind first k.End || (same_kind first k.Minus && not (ends_operand second) && same_kind t.kind k.Number)) [] (32 ∷ []) IsUtf8 (λ _. IsUtf8-nil) (λ _. blank) in
    IsUtf8-append (gap second first t.kind ++ spelling t) (spelled_behind first t.kind ts) (IsUtf8-append (gap second first t.kind) (spelling t) front one) (spelled_utf8_behind ts first t.kind parts.1)

pub spelled_utf8 : (ts : List Lexeme) → are_spellable ts ≡ true → IsUtf8 (spelled ts)
unfolding spelled are_spellable
spelled_utf8 ts h = spelled_utf8_behind ts k.End k.End h
