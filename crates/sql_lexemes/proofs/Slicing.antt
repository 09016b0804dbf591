-- What the slices of tokens are.
use Rattle.std.proofs.Common.{◌≡◌, ℕ, suc, ◌+◌, ◌-◌, ◌≤◌, ◌<◌, Bool, true, false, cond, ◌&&◌, ◌||◌, ◌==◌, nat_lt, List, [], ◌∷◌, length, take, drop, slice_index, Option, Some, None, refl, sym, ap, ◌∙◌, subst, arith, ◌⊎◌, inl, inr, ⊎_elim, IsUtf8, IsAscii, length-take, length-drop, get_or-drop, take-take, drop-drop}
use Rattle.std.specs.List.{list_all}
use Rattle.std.proofs.lemmas.Bool.{and_parts, and_from, cond-true, cond-false, cases_Bool, eqb-true, ltb-true}
use Rattle.std.proofs.lemmas.Bool.Decides.{nat_tests}
use Rattle.std.proofs.lemmas.Str.{IsUtf8-between, IsCharBoundary-after_ascii, IsCharBoundary-before_ascii, IsUtf8-from_ascii}
use Rattle.std.proofs.lemmas.Str.Ascii.{IsAscii-nil, IsAscii-cons}
use Rattle.sql_tokens.specs.declared.token.Token as tokens
use Rattle.sql_tokens.specs.declared.token.TokenKind.{TokenKind}
use Rattle.sql_tokens.specs.declared.token.TokenKind.TheVariants as token
use Rattle.sql_tokens.specs.declared.lexical.Class.{Class}
use Rattle.sql_tokens.specs.declared.lexical.Class.TheVariants as class
use Rattle.sql_tokens.specs.declared.lexical.Piece.TheVariants.{Blank, Token, Bad}
use Rattle.sql_tokens.specs.Lexical.{Text, piece, is_in, run, closing, is_escape, number, quoted, string, string_to, minus, slash, comment, comment_to, symbol, symbol_len}
use Rattle.sql_tokens.specs.Slices.{slice, IsTokenOf, IsSliced}
use Rattle.sql_lexemes.specs.Lexing.{inside}
use Rattle.sql_lexemes.specs.Readable.{IsReadable}

-- ---- which token begins with which byte

abbrev pub IsFound : TokenKind → Text → ℕ → Type 0
IsFound token.Word z len = (is_in class.Letter (slice_index z 0) ≡ true) × (run class.Word z ≡ len)
IsFound token.Number z len = Unit {0}
IsFound token.Quoted z len = (slice_index z 0 ≡ 96) × (run class.Quoted (drop 1 z) + 2 ≡ len) × (0 < run class.Quoted (drop 1 z)) × (slice_index z (run class.Quoted (drop 1 z) + 1) ≡ 96)
IsFound token.Str z len = (slice_index z 0 < 128) × (closing (slice_index z 0) false 1 (drop 1 z) ≡ Some len)
IsFound token.Symbol z len = ((slice_index z 0 ≡ 45) × (1 ≡ len)) ⊎ ((symbol_len (slice_index z 0) (slice_index z 1) ≡ len) × (0 < len))

found_word : (z : Text) (kind : TokenKind) (len : ℕ) → is_in class.Letter (slice_index z 0) ≡ true → Token token.Word (run class.Word z) ≡ Token kind len → IsFound kind z len
found_word z kind len letter e =
    let same_kind : token.Word ≡ kind = cc in
    let same_len : run class.Word z ≡ len = cc in
    subst (λ x. IsFound x z len) same_kind (letter, same_len)

found_number : (z : Text) (kind : TokenKind) (len : ℕ) → number z ≡ Token kind len → IsFound kind z len
found_number z kind len e = ⊎_elim bad good (cases_Bool (is_in class.Word (slice_index z (run class.Digit z)) || slice_index z (run class.Digit z) == 46))
  where
    bad : (is_in class.Word (slice_index z (run class.Digit z)) || slice_index z (run class.Digit z) == 46) ≡ true → IsFound kind z len
    bad h = let no : Bad ≡ Token kind len = sym (cond-true _ _ _ h) ∙ e in absurd (cc)

    good : (is_in class.Word (slice_index z (run class.Digit z)) || slice_index z (run class.Digit z) == 46) ≡ false → IsFound kind z len
    good h =
        let yes : Token token.Number (run class.Digit z) ≡ Token kind len = sym (cond-false _ _ _ h) ∙ e in
        let same_kind : token.Number ≡ kind = cc in
        subst (λ x. IsFound x z len) same_kind tt

found_quoted : (z : Text) (kind : TokenKind) (len : ℕ) → slice_index z 0 ≡ 96 → quoted z ≡ Token kind len → IsFound kind z len
found_quoted z kind len first e = ⊎_elim good bad (cases_Bool (nat_lt 0 (run class.Quoted (drop 1 z)) && slice_index z (run class.Quoted (drop 1 z) + 1) == 96))
  where
    bad : (nat_lt 0 (run class.Quoted (drop 1 z)) && slice_index z (run class.Quoted (drop 1 z) + 1) == 96) ≡ false → IsFound kind z len
    bad h = let no : Bad ≡ Token kind len = sym (cond-false _ _ _ h) ∙ e in absurd (cc)

    good : (nat_lt 0 (run class.Quoted (drop 1 z)) && slice_index z (run class.Quoted (drop 1 z) + 1) == 96) ≡ true → IsFound kind z len
    good h =
        let yes : Token token.Quoted (run class.Quoted (drop 1 z) + 2) ≡ Token kind len = sym (cond-true _ _ _ h) ∙ e in
        let same_kind : token.Quoted ≡ kind = cc in
        let same_len : run class.Quoted (drop 1 z) + 2 ≡ len = cc in
        let parts = and_parts _ _ h in
        subst (λ x. IsFound x z len) same_kind (first, same_len, ltb-true 0 (run class.Quoted (drop 1 z)) parts.0, eqb-true _ 96 parts.1)

string_is : (end : Option ℕ) (kind : TokenKind) (len : ℕ) → string_to end ≡ Token kind len → (token.Str ≡ kind) × (end ≡ Some len)
string_is (Some end) kind len e = (cc, cc)
string_is None kind len e = absurd (cc)

found_string : (z : Text) (kind : TokenKind) (len : ℕ) → slice_index z 0 < 128 → string z ≡ Token kind len → IsFound kind z len
found_string z kind len low e =
    let both = string_is (closing (slice_index z 0) false 1 (drop 1 z)) kind len e in
    subst (λ x. IsFound x z len) both.0 (low, both.1)

found_minus : (z : Text) (kind : TokenKind) (len : ℕ) → slice_index z 0 ≡ 45 → minus z ≡ Token kind len → IsFound kind z len
found_minus z kind len first e = ⊎_elim bad good (cases_Bool (slice_index z 1 == 45))
  where
    bad : (slice_index z 1 == 45) ≡ true → IsFound kind z len
    bad h = let no : Blank (2 + run class.Line (drop 2 z)) ≡ Token kind len = sym (cond-true _ _ _ h) ∙ e in absurd (cc)

    good : (slice_index z 1 == 45) ≡ false → IsFound kind z len
    good h =
        let yes : Token token.Symbol 1 ≡ Token kind len = sym (cond-false _ _ _ h) ∙ e in
        let same_kind : token.Symbol ≡ kind = cc in
        let same_len : 1 ≡ len = cc in
        subst (λ x. IsFound x z len) same_kind (inl (first, same_len))

comment_is_not : (end : Option ℕ) (kind : TokenKind) (len : ℕ) → comment_to end ≡ Token kind len → ⊥
comment_is_not (Some end) kind len e = absurd (cc)
comment_is_not None kind len e = absurd (cc)

slash_is_not : (z : Text) (kind : TokenKind) (len : ℕ) → slash z ≡ Token kind len → ⊥
slash_is_not z kind len e = ⊎_elim (λ h. comment_is_not (comment 1 0 2 (drop 2 z)) kind len (sym (cond-true _ _ _ h) ∙ e))
    (λ h. let no : Bad ≡ Token kind len = sym (cond-false _ _ _ h) ∙ e in absurd (cc)) (cases_Bool (slice_index z 1 == 42))

found_symbol : (z : Text) (kind : TokenKind) (len : ℕ) → symbol z ≡ Token kind len → IsFound kind z len
found_symbol z kind len e = ⊎_elim bad good (cases_Bool (symbol_len (slice_index z 0) (slice_index z 1) == 0))
  where
    bad : (symbol_len (slice_index z 0) (slice_index z 1) == 0) ≡ true → IsFound kind z len
    bad h = let no : Bad ≡ Token kind len = sym (cond-true _ _ _ h) ∙ e in absurd (cc)

    good : (symbol_len (slice_index z 0) (slice_index z 1) == 0) ≡ false → IsFound kind z len
    good h =
        let yes : Token token.Symbol (symbol_len (slice_index z 0) (slice_index z 1)) ≡ Token kind len = sym (cond-false _ _ _ h) ∙ e in
        let same_kind : token.Symbol ≡ kind = cc in
        let same_len : symbol_len (slice_index z 0) (slice_index z 1) ≡ len = cc in
        subst (λ x. IsFound x z len) same_kind (inr (same_len, some_of _ h same_len))
      where
        some_of : (n : ℕ) → (n == 0) ≡ false → n ≡ len → 0 < len
        some_of n h e = grind (arith, nat_tests)

pub found : (z : Text) (kind : TokenKind) (len : ℕ) → piece z ≡ Token kind len → IsFound kind z len
unfolding piece
found z kind len e0 = ⊎_elim blank letter (cases_Bool (is_in class.Blank (slice_index z 0)))
  where
    blank : is_in class.Blank (slice_index z 0) ≡ true → IsFound kind z len
    blank h = let no : Blank (run class.Blank z) ≡ Token kind len = sym (cond-true _ _ _ h) ∙ e0 in absurd (cc)

    slashes : cond (slice_index z 0 == 47) (slash z) (symbol z) ≡ Token kind len → IsFound kind z len
    slashes e = ⊎_elim (λ h. absurd (slash_is_not z kind len (sym (cond-true _ _ _ h) ∙ e))) (λ h. found_symbol z kind len (sym (cond-false _ _ _ h) ∙ e)) (cases_Bool (slice_index z 0 == 47))

    minuses : cond (slice_index z 0 == 45) (minus z) (cond (slice_index z 0 == 47) (slash z) (symbol z)) ≡ Token kind len → IsFound kind z len
    minuses e = ⊎_elim (λ h. found_minus z kind len (eqb-true _ 45 h) (sym (cond-true _ _ _ h) ∙ e)) (λ h. slashes (sym (cond-false _ _ _ h) ∙ e)) (cases_Bool (slice_index z 0 == 45))

    low_quote : (slice_index z 0 == 39 || slice_index z 0 == 34) ≡ true → slice_index z 0 < 128
    low_quote h = grind (arith, nat_tests)

    strings : cond (slice_index z 0 == 39 || slice_index z 0 == 34) (string z) (cond (slice_index z 0 == 45) (minus z) (cond (slice_index z 0 == 47) (slash z) (symbol z))) ≡ Token kind len → IsFound kind z len
    strings e = ⊎_elim (λ h. found_string z kind len (low_quote h) (sym (cond-true _ _ _ h) ∙ e)) (λ h. minuses (sym (cond-false _ _ _ h) ∙ e)) (cases_Bool (slice_index z 0 == 39 || slice_index z 0 == 34))

    quotes : cond (slice_index z 0 == 96) (quoted z) (cond (slice_index z 0 == 39 || slice_index z 0 == 34) (string z) (cond (slice_index z 0 == 45) (minus z) (cond (slice_index z 0 == 47) (slash z) (symbol z)))) ≡ Token kind len → IsFound kind z len
    quotes e = ⊎_elim (λ h. found_quoted z kind len (eqb-true _ 96 h) (sym (cond-true _ _ _ h) ∙ e)) (λ h. strings (sym (cond-false _ _ _ h) ∙ e)) (cases_Bool (slice_index z 0 == 96))

    digits : cond (is_in class.Digit (slice_index z 0)) (number z) (cond (slice_index z 0 == 96) (quoted z) (cond (slice_index z 0 == 39 || slice_index z 0 == 34) (string z) (cond (slice_index z 0 == 45) (minus z) (cond (slice_index z 0 == 47) (slash z) (symbol z))))) ≡ Token kind len → IsFound kind z len
    digits e = ⊎_elim (λ h. found_number z kind len (sym (cond-true _ _ _ h) ∙ e)) (λ h. quotes (sym (cond-false _ _ _ h) ∙ e)) (cases_Bool (is_in class.Digit (slice_index z 0)))

    letter : is_in class.Blank (slice_index z 0) ≡ false → IsFound kind z len
    letter h0 =
        let e = sym (cond-false _ _ _ h0) ∙ e0 in
        ⊎_elim (λ h. found_word z kind len h (sym (cond-true _ _ _ h) ∙ e)) (λ h. digits (sym (cond-false _ _ _ h) ∙ e)) (cases_Bool (is_in class.Letter (slice_index z 0)))

-- ---- the bytes that are copied are UTF-8

pub run_passes : (c : Class) (z : Text) → list_all (is_in c) (take (run c z) z) ≡ true
run_passes c [] = refl
run_passes c (b ∷ z) = ⊎_elim (yes (run_passes c z)) no (cases_Bool (is_in c b))
  where
    yes : list_all (is_in c) (take (run c z) z) ≡ true → is_in c b ≡ true → list_all (is_in c) (take (run c (b ∷ z)) (b ∷ z)) ≡ true
    yes more h =
        let len : run c (b ∷ z) ≡ suc (run c z) = cond-true (is_in c b) (1 + run c z) 0 h ∙ omega arith in
        subst (λ n. list_all (is_in c) (take n (b ∷ z)) ≡ true) (sym len) (and_from _ _ h more)

    no : is_in c b ≡ false → list_all (is_in c) (take (run c (b ∷ z)) (b ∷ z)) ≡ true
    no h = subst (λ n. list_all (is_in c) (take n (b ∷ z)) ≡ true) (sym (cond-false (is_in c b) (1 + run c z) 0 h)) refl

word_low : (b : ℕ) → is_in class.Word b ≡ true → b < 128
word_low b h = grind (arith, nat_tests)

pub words_ascii : (z : Text) → list_all (is_in class.Word) z ≡ true → IsAscii z
words_ascii [] h = IsAscii-nil
words_ascii (b ∷ z) h = let parts = and_parts _ _ h in IsAscii-cons b z (word_low b parts.0) (words_ascii z parts.1)

index_more : (b : ℕ) (z : Text) (n m : ℕ) → n ≡ suc m → slice_index (b ∷ z) n ≡ slice_index z m
index_more b z n m e = ap (slice_index (b ∷ z)) e

abbrev IsClosed : ℕ → ℕ → Text → ℕ → Type 0
IsClosed quote at z end = (at < end) × (end ≤ at + length z) × (slice_index z (end - 1 - at) ≡ quote)

closed_more : (quote at b : ℕ) (z : Text) (end : ℕ) → IsClosed quote (at + 1) z end → IsClosed quote at (b ∷ z) end
closed_more quote at b z end h = (omega (arith, h.0), omega (arith, h.1), index_more b z (end - 1 - at) (end - 1 - (at + 1)) (omega (arith, h.0)) ∙ h.2)

closed_here : (quote at b : ℕ) (z : Text) (end : ℕ) → b ≡ quote → Some (at + 1) ≡ Some end → IsClosed quote at (b ∷ z) end
closed_here quote at b z end same e =
    let here : at + 1 ≡ end = cc in
    (omega arith, omega arith, ap (slice_index (b ∷ z)) (let zero_at : end - 1 - at ≡ 0 = omega arith in zero_at) ∙ same)

closed : (quote : ℕ) (is_escaped : Bool) (at : ℕ) (z : Text) (end : ℕ) → closing quote is_escaped at z ≡ Some end → IsClosed quote at z end
closed quote is_escaped at [] end e = absurd (cc)
closed quote true at (b ∷ z) end e = ⊎_elim
    (λ h. closed_more quote at b z end (closed quote false (at + 1) z end (sym (cond-true (is_escape b) _ _ h) ∙ e)))
    (λ h. let no : None ≡ Some end = sym (cond-false (is_escape b) _ _ h) ∙ e in absurd (cc)) (cases_Bool (is_escape b))
closed quote false at (b ∷ z) end e = ⊎_elim
    (λ h. closed_here quote at b z end (eqb-true b quote h) (sym (cond-true (b == quote) _ _ h) ∙ e))
    (λ h. closed_more quote at b z end (closed quote (b == 92) (at + 1) z end (sym (cond-false (b == quote) _ _ h) ∙ e))) (cases_Bool (b == quote))

pub inside_is : (z : Text) (n : ℕ) → n + 2 ≤ length z → inside (take (n + 2) z) ≡ take n (drop 1 z)
inside_is [] n h = absurd (omega arith)
inside_is (b ∷ z) n h =
    let more : n + 2 ≡ suc (n + 1) = omega arith in
    ap inside (ap (λ m. take m (b ∷ z)) more) ∙ ap (λ m. take m (take (n + 1) z)) (width n z (omega arith)) ∙ take-take n (n + 1) z (omega arith)
  where
    width : (n : ℕ) (z : Text) → n + 1 ≤ length z → suc (length (take (n + 1) z)) - 2 ≡ n
    width n z h = omega (arith, length-take (n + 1) z)

-- between two ASCII bytes of a text
between_utf8 : (text : Text) (start n : ℕ) → IsUtf8 text → start + (n + 2) ≤ length text → slice_index (drop start text) 0 < 128 → slice_index (drop start text) (n + 1) < 128 →
    IsUtf8 (inside (take (n + 2) (drop start text)))
between_utf8 text start n u within low lower =
    let first : slice_index (drop start text) 0 ≡ slice_index text start = get_or-drop start text 0 0 ∙ ap (slice_index text) (let e : start + 0 ≡ start = omega arith in e) in
    let last : slice_index (drop start text) (n + 1) ≡ slice_index text (start + 1 + n) = get_or-drop start text (n + 1) 0 ∙ ap (slice_index text) (let e : start + (n + 1) ≡ start + 1 + n = omega arith in e) in
    let whole : IsUtf8 (take (start + 1 + n - (start + 1)) (drop (start + 1) text)) = IsUtf8-between text (start + 1) (start + 1 + n) u (omega arith)
    (IsCharBoundary-after_ascii text start u (omega arith) (omega (arith, first)))
    (IsCharBoundary-before_ascii text (start + 1 + n) (omega arith) (omega (arith, last))) in
    let width : start + 1 + n - (start + 1) ≡ n = omega arith in
    subst IsUtf8 (ap (λ m. take m (drop (start + 1) text)) width ∙ ap (take n) (sym (drop-drop 1 start text)) ∙ sym (inside_is (drop start text) n (omega (arith, length-drop start text)))) whole

readable_parts : (text : Text) (start n : ℕ) (kind : TokenKind) → IsUtf8 text → start + n ≤ length text → IsFound kind (drop start text) n → IsReadable kind (take n (drop start text))
readable_parts text start n token.Word u within h =
    subst (λ m. IsUtf8 (take m (drop start text))) h.1 (IsUtf8-from_ascii _ (words_ascii (take (run class.Word (drop start text)) (drop start text)) (run_passes class.Word (drop start text))))
readable_parts text start n token.Number u within h = tt
readable_parts text start n token.Symbol u within h = tt
readable_parts text start n token.Quoted u within h =
    let len = run class.Quoted (drop 1 (drop start text)) in
    subst (λ m. IsUtf8 (inside (take m (drop start text)))) h.1 (between_utf8 text start len u (omega (arith, h.1)) (omega (arith, h.0)) (omega (arith, h.3)))
readable_parts text start n token.Str u within h =
    let z = drop start text in
    let c = closed (slice_index z 0) false 1 (drop 1 z) n h.1 in
    let width : n - 2 + 2 ≡ n = omega (arith, c.0) in
    let last : slice_index z (n - 2 + 1) < 128 = (let same : slice_index z (n - 2 + 1) ≡ slice_index z 0 = (ap (slice_index z) (let e : n - 2 + 1 ≡ 1 + (n - 1 - 1) = omega (arith, c.0) in e) ∙ sym (get_or-drop 1 z (n - 1 - 1) 0) ∙ c.2) in omega (arith, same, h.0)) in
    subst (λ m. IsUtf8 (inside (take m z))) width (between_utf8 text start (n - 2) u (omega (arith, c.0)) h.0 last)

pub readable : (text : Text) (t : tokens.Token) → IsUtf8 text → t.end ≤ length text → IsTokenOf text t → IsReadable t.kind (slice text t)
readable text t u within h = readable_parts text t.start (t.end - t.start) t.kind u (omega (arith, h.some)) (found (drop t.start text) t.kind (t.end - t.start) h.longest)

-- ---- tokens in order

sliced_le : (text : Text) (from end : ℕ) (ts : List tokens.Token) → IsSliced text from end ts → from ≤ end
sliced_le text from end [] h = h
sliced_le text from end (t ∷ ts) h = omega (arith, h.0, h.1.some, sliced_le text t.end end ts h.2)

pub sliced_head : (text : Text) (from end : ℕ) (t : tokens.Token) (ts : List tokens.Token) → IsSliced text from end (t ∷ ts) → (t.end ≤ end) × IsTokenOf text t × IsSliced text t.end end ts
sliced_head text from end t ts h = (sliced_le text t.end end ts h.2, h.1, h.2)
