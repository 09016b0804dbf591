-- What the spelling of one lexeme reads as.
use Rattle.std.proofs.Common.{◌≡◌, ℕ, ◌+◌, ◌-◌, ◌*◌, ◌/◌, ◌%◌, ◌^◌, ◌≤◌, ◌<◌, min, Bool, true, false, not, cond, ◌&&◌, ◌||◌, ◌==◌, nat_lt, nat_le, [], ◌∷◌, ◌++◌, length, slice_index, refl, sym, ap, ◌∙◌, subst, arith, rules, bytes_eq, ◌⊎◌, inl, inr, ⊎_elim, decimal, append_assoc, length-append}
use Rattle.std.specs.List.{list_all}
use Rattle.std.specs.Char.{is_ascii_alphabetic}
use Rattle.std.proofs.lemmas.Bool.{and_parts, and_from, or_parts, or_cases, cond-true, cond-false, cases_Bool, eqb-true, leb-true, le-ltb}
use Rattle.std.proofs.lemmas.Bool.Decides.{nat_tests}
use Rattle.std.proofs.lemmas.Slice.Eq.{bytes_eq-Decides}
use Rattle.std.proofs.lemmas.Fmt.{decimal_by_steps}
use Rattle.std.proofs.lemmas.List.Sums.{fold_push}
use Rattle.std.proofs.lemmas.List.{take_at}
use denote.Enum.Bare.{same_true}
use Rattle.sql_tree.specs.contracts.lexeme.LexemeKind.{the_type}
use Rattle.sql_tokens.specs.declared.token.TokenKind.{TokenKind}
use Rattle.sql_tokens.specs.declared.token.TokenKind.TheVariants as token
use Rattle.sql_tokens.specs.declared.lexical.Class.TheVariants as class
use Rattle.sql_tokens.specs.declared.lexical.Context.{Context}
use Rattle.sql_tokens.specs.declared.lexical.Context.TheVariants.{Open, Sign, Operand}
use Rattle.sql_tokens.specs.declared.lexical.Piece.TheVariants.{Token}
use Rattle.sql_tokens.specs.Lexical.{Text, piece, is_in, after, inner_words, is_among, is_too_large, capped_value, cap, limit}
use Rattle.sql_tree.specs.declared.lexeme.LexemeKind.{LexemeKind}
use Rattle.sql_tree.specs.declared.lexeme.LexemeKind.TheVariants as k
use Rattle.sql_tree.specs.declared.lexeme.Lexeme.{Lexeme}
use Rattle.sql_tree.specs.Lexemes.{same_kind, word_kind, is_any_word}
use Rattle.sql_tree.specs.Spelling.{is_word, escaped, symbol, spelling, ends_operand}
use Rattle.sql_lexemes.specs.Lexing.{symbol_kind, unescaped, inside, lexeme}
use Rattle.sql_lexemes.specs.Spellable.{is_spellable, is_within_limit, is_quotable}
use Rattle.sql_lexemes.proofs.Pieces.{is_apart, IsSymbol, word_piece, number_piece, quoted_piece, string_piece, symbol_piece}
use Rattle.sql_lexemes.proofs.Words.{inner_word}

-- what stands before a token, by the kinds of the two lexemes there
abbrev pub context : LexemeKind → LexemeKind → Context
context second first = cond (ends_operand first) Operand (cond (same_kind first k.Minus && not (ends_operand second)) Sign Open)

pub record Reads (token : TokenKind) (t : Lexeme) : Type 0 where
  pub some : 0 < length (spelling t)
  pub front : is_in class.Blank (slice_index (spelling t) 0) ≡ false
  pub piece_is : (rest : Text) → is_apart rest ≡ true → piece (spelling t ++ rest) ≡ Token token (length (spelling t))
  pub means : lexeme token (spelling t) ≡ t
  pub after_is : (second first : LexemeKind) → after (context second first) token (spelling t) ≡ context first t.kind
  pub small : (second first : LexemeKind) → is_within_limit second first t ≡ true → is_too_large (context second first) token (spelling t) ≡ false

-- ---- words

word_spelling : (kind : LexemeKind) (z : Text) (value : ℕ) → is_any_word kind ≡ true → spelling (record { kind = kind; text = z; value = value }) ≡ z
unfolding is_any_word same_kind
word_spelling k.End z value h = absurd (cc)
word_spelling _ z value h = first_of (search rules, grind arith)

word_no_minus : (kind : LexemeKind) → is_any_word kind ≡ true → same_kind kind k.Minus ≡ false
unfolding is_any_word same_kind
word_no_minus k.End h = absurd (cc)
word_no_minus _ h = first_of (search rules, grind arith)

word_front : (z : Text) → is_word z ≡ true → (0 < length z) × (is_in class.Blank (slice_index z 0) ≡ false)
word_front [] h = absurd (cc)
word_front (b ∷ z) h = (omega arith, letter (and_parts _ _ h).0)
  where
    letter : (is_ascii_alphabetic b || b == 95) ≡ true → is_in class.Blank b ≡ false
    letter e = grind (arith, nat_tests)

word_after : (c : Context) (first kind : LexemeKind) (z : Text) → word_kind z ≡ kind → is_any_word kind ≡ true → after c token.Word z ≡ context first kind
unfolding after
word_after c first kind z h any =
    let inner : is_among inner_words z ≡ not (ends_operand kind) = inner_word z ∙ ap (λ x. not (ends_operand x)) h in
    ap (λ b. cond b Open Operand) inner ∙ flip (ends_operand kind) ∙
    ap (λ b. cond (ends_operand kind) Operand (cond (b && not (ends_operand first)) Sign Open)) (sym (word_no_minus kind any))
  where
    flip : (b : Bool) → cond (not b) Open Operand ≡ cond b Operand Open
    flip true = refl
    flip false = refl

reads_word : (kind : LexemeKind) (z : Text) → is_word z ≡ true → word_kind z ≡ kind → is_any_word kind ≡ true → Reads token.Word (record { kind = kind; text = z; value = 0 })
reads_word kind z word same any =
    let e = word_spelling kind z 0 any in record {
      some = subst (λ s. 0 < length s) (sym e) (word_front z word).0;
      front = subst (λ s. is_in class.Blank (slice_index s 0) ≡ false) (sym e) (word_front z word).1;
      piece_is = λ rest apart. subst (λ s. piece (s ++ rest) ≡ Token token.Word (length s)) (sym e) (word_piece z rest word apart);
      means = ap (lexeme token.Word) e ∙ ap (λ x. record { kind = x; text = z; value = 0 }) same;
      after_is = λ second first. subst (λ s. after (context second first) token.Word s ≡ context first kind) (sym e) (word_after (context second first) first kind z same any);
      small = λ second first _. refl;
    }

-- ---- names and strings

quoted_inside : (b : ℕ) (z : Text) → inside (96 ∷ b ∷ z ++ 96 ∷ []) ≡ b ∷ z
quoted_inside b z = take_at (b ∷ z) (96 ∷ []) _ (omega (arith, length-append (b ∷ z) (96 ∷ [])))

reads_quoted : (b : ℕ) (z : Text) → list_all (is_in class.Quoted) (b ∷ z) ≡ true → Reads token.Quoted (record { kind = k.Quoted; text = b ∷ z; value = 0 })
unfolding after
reads_quoted b z all = record {
  some = omega arith;
  front = refl;
  piece_is = λ rest apart. ap piece (ap (λ s. 96 ∷ s) (append_assoc (b ∷ z) (96 ∷ []) rest)) ∙ quoted_piece b z rest all ∙ ap (Token token.Quoted) (omega (arith, length-append (b ∷ z) (96 ∷ [])));
  means = ap (λ s. record { kind = k.Quoted; text = s; value = 0 }) (quoted_inside b z);
  after_is = λ second first. refl;
  small = λ second first _. refl;
}

unescaped_marked : (b : ℕ) (z : Text) → (b == 39 || b == 92) ≡ true → unescaped false (92 ∷ b ∷ z) ≡ b ∷ unescaped false z
unescaped_marked b z h = ⊎_elim (λ e. subst (λ b. unescaped false (92 ∷ b ∷ z) ≡ b ∷ unescaped false z) (sym (eqb-true b 39 e)) refl)
    (λ e. subst (λ b. unescaped false (92 ∷ b ∷ z) ≡ b ∷ unescaped false z) (sym (eqb-true b 92 e)) refl) (or_cases (b == 39) (b == 92) h)

unescaped_plain : (b : ℕ) (z : Text) → (b == 39 || b == 92) ≡ false → unescaped false (b ∷ z) ≡ b ∷ unescaped false z
unescaped_plain b z h = cond-false _ _ _ (or_parts (b == 39) (b == 92) h).1

pub unescaped-escaped : (z : Text) → unescaped false (escaped z) ≡ z
unescaped-escaped [] = refl
unescaped-escaped (b ∷ z) = ⊎_elim (marked (unescaped-escaped z)) (plain (unescaped-escaped z)) (cases_Bool (b == 39 || b == 92))
  where
    marked : unescaped false (escaped z) ≡ z → (b == 39 || b == 92) ≡ true → unescaped false (escaped (b ∷ z)) ≡ b ∷ z
    marked more h = ap (unescaped false) (cond-true _ (92 ∷ b ∷ escaped z) (b ∷ escaped z) h) ∙ unescaped_marked b (escaped z) h ∙ ap (λ s. b ∷ s) more

    plain : unescaped false (escaped z) ≡ z → (b == 39 || b == 92) ≡ false → unescaped false (escaped (b ∷ z)) ≡ b ∷ z
    plain more h = ap (unescaped false) (cond-false _ (92 ∷ b ∷ escaped z) (b ∷ escaped z) h) ∙ unescaped_plain b (escaped z) h ∙ ap (λ s. b ∷ s) more

string_inside : (z : Text) → inside (39 ∷ z ++ 39 ∷ []) ≡ z
string_inside z = take_at z (39 ∷ []) _ (omega (arith, length-append z (39 ∷ [])))

reads_string : (z : Text) → Reads token.Str (record { kind = k.Str; text = z; value = 0 })
unfolding after
reads_string z = record {
  some = omega arith;
  front = refl;
  piece_is = λ rest apart. ap piece (ap (λ s. 39 ∷ s) (append_assoc (escaped z) (39 ∷ []) rest)) ∙ string_piece z rest ∙ ap (Token token.Str) (omega (arith, length-append (escaped z) (39 ∷ [])));
  means = ap (λ s. record { kind = k.Str; text = s; value = 0 }) (ap (unescaped false) (string_inside (escaped z)) ∙ unescaped-escaped z);
  after_is = λ second first. refl;
  small = λ second first _. refl;
}

-- ---- numbers

digit_of : (n : ℕ) → n < 10 → is_in class.Digit (48 + n) ≡ true
digit_of n h = grind (arith, nat_tests)

all_push : (z : Text) (b : ℕ) → list_all (is_in class.Digit) z ≡ true → is_in class.Digit b ≡ true → list_all (is_in class.Digit) (z ++ b ∷ []) ≡ true
all_push [] b all h = and_from _ _ h refl
all_push (c ∷ z) b all h = let parts = and_parts _ _ all in and_from _ _ parts.0 (all_push z b parts.1 h)

abbrev IsNumber : ℕ → Text → Type 0
IsNumber n ds = (0 < length ds) × (list_all (is_in class.Digit) ds ≡ true) × (n ≤ cap → capped_value ds ≡ n)

one_digit : (n : ℕ) → n < 10 → IsNumber n ((48 + n) ∷ [])
one_digit n h = (omega arith, and_from _ _ (digit_of n h) refl, λ le. omega arith)

one_more : (n : ℕ) (ds : Text) → 10 ≤ n → IsNumber (n / 10) ds → IsNumber n (ds ++ ((48 + n % 10) ∷ []))
one_more n ds ge h = (
  omega (arith, length-append ds ((48 + n % 10) ∷ [])),
  all_push ds (48 + n % 10) h.1 (digit_of (n % 10) (omega arith)),
  λ le. fold_push (λ n b. min (10 * n + (b - 48)) cap) 0 ds (48 + n % 10) ∙ ap (λ m. min (10 * m + (48 + n % 10 - 48)) cap) (h.2 (omega arith)) ∙ omega arith,
)

pub decimal_number : (n : ℕ) → n < 2 ^ 64 → IsNumber n (decimal n)
decimal_number n h = decimal_by_steps IsNumber one_digit one_more n h

digits_piece : (z rest : Text) → 0 < length z → list_all (is_in class.Digit) z ≡ true → is_apart rest ≡ true → piece (z ++ rest) ≡ Token token.Number (length z)
digits_piece [] rest some all apart = absurd (omega arith)
digits_piece (b ∷ z) rest some all apart = number_piece b z rest all apart

pub digits_front : (z : Text) → 0 < length z → list_all (is_in class.Digit) z ≡ true → is_in class.Digit (slice_index z 0) ≡ true
digits_front [] some all = absurd (omega arith)
digits_front (b ∷ z) some all = (and_parts _ _ all).0

front_digit : (b : ℕ) → is_in class.Digit b ≡ true → is_in class.Blank b ≡ false
front_digit b h = grind (arith, nat_tests)

small_plain : (c : Context) (n : ℕ) → n ≤ 2 ^ 63 - 1 → nat_lt (limit c) n ≡ false
small_plain Sign n h = grind (arith, nat_tests)
small_plain Open n h = grind (arith, nat_tests)
small_plain Operand n h = grind (arith, nat_tests)

behind_minus : (second first : LexemeKind) → (same_kind first k.Minus && not (ends_operand second)) ≡ true → context second first ≡ Sign
unfolding same_kind
behind_minus second first h =
    let parts = and_parts (same_kind first k.Minus) (not (ends_operand second)) h in
    let minus : first ≡ k.Minus = same_true the_type (search rules) _ _ parts.0 in
    cond-false (ends_operand first) _ _ (ap ends_operand minus) ∙ cond-true _ Sign Open h

number_small : (second first : LexemeKind) (n : ℕ) → n ≤ 2 ^ 63 → is_within_limit second first (record { kind = k.Number; text = []; value = n }) ≡ true → nat_lt (limit (context second first)) n ≡ false
unfolding same_kind
number_small second first n le h = ⊎_elim (λ e. small_plain (context second first) n (leb-true n (2 ^ 63 - 1) e))
    (λ e. ap (λ c. nat_lt (limit c) n) (behind_minus second first e) ∙ le-ltb (2 ^ 63) n le) (or_cases (nat_le n (2 ^ 63 - 1)) _ h)

reads_number : (n : ℕ) → n ≤ 2 ^ 63 → Reads token.Number (record { kind = k.Number; text = []; value = n })
unfolding after
reads_number n le =
    let d = decimal_number n (omega arith) in
    let value : capped_value (decimal n) ≡ n = d.2 (omega arith) in record {
      some = d.0;
      front = front_digit (slice_index (decimal n) 0) (digits_front (decimal n) d.0 d.1);
      piece_is = λ rest apart. digits_piece (decimal n) rest d.0 d.1 apart;
      means = ap (λ v. record { kind = k.Number; text = []; value = v }) value;
      after_is = λ second first. refl;
      small = λ second first within. ap (nat_lt (limit (context second first))) value ∙ number_small second first n le within;
    }

-- ---- symbols

symbol_spelling : (kind : LexemeKind) → IsSymbol kind → spelling (record { kind = kind; text = []; value = 0 }) ≡ symbol kind
symbol_spelling k.End h = absurd (omega arith)
symbol_spelling _ h = first_of (search rules, grind arith)

symbol_means : (kind : LexemeKind) → IsSymbol kind → symbol_kind (symbol kind) ≡ kind
unfolding symbol_kind
symbol_means k.End h = absurd (omega arith)
symbol_means _ h = first_of (search rules, grind arith)

symbol_front : (kind : LexemeKind) → IsSymbol kind → is_in class.Blank (slice_index (symbol kind) 0) ≡ false
symbol_front k.End h = absurd (omega arith)
symbol_front _ h = first_of (search rules, grind arith)

abbrev context_by : Bool → Bool → Bool → Context
context_by first_ends minus second_ends = cond first_ends Operand (cond (minus && not second_ends) Sign Open)

symbol_after : (kind : LexemeKind) (first_ends minus second_ends : Bool) → IsSymbol kind →
    after (context_by first_ends minus second_ends) token.Symbol (symbol kind) ≡ context_by (ends_operand kind) (same_kind kind k.Minus) first_ends
unfolding after same_kind
symbol_after k.End _ _ _ h = absurd (omega arith)
symbol_after _ true _ _ h = first_of (search rules, grind arith)
symbol_after _ false true true h = first_of (search rules, grind arith)
symbol_after _ false true false h = first_of (search rules, grind arith)
symbol_after _ false false _ h = first_of (search rules, grind arith)

reads_symbol : (kind : LexemeKind) → IsSymbol kind → Reads token.Symbol (record { kind = kind; text = []; value = 0 })
reads_symbol kind h =
    let e = symbol_spelling kind h in record {
      some = subst (λ s. 0 < length s) (sym e) h;
      front = subst (λ s. is_in class.Blank (slice_index s 0) ≡ false) (sym e) (symbol_front kind h);
      piece_is = λ rest apart. subst (λ s. piece (s ++ rest) ≡ Token token.Symbol (length s)) (sym e) (symbol_piece kind rest h apart);
      means = ap (lexeme token.Symbol) e ∙ ap (λ x. record { kind = x; text = []; value = 0 }) (symbol_means kind h);
      after_is = λ second first. subst (λ s. after (context second first) token.Symbol s ≡ context first kind) (sym e) (symbol_after kind (ends_operand first) (same_kind first k.Minus) (ends_operand second) h);
      small = λ second first _. refl;
    }

-- ---- any lexeme

abbrev pub IsRead : Lexeme → Type 0
IsRead t = (token : TokenKind) × Reads token t

no_text : (text : Text) → bytes_eq text [] ≡ true → text ≡ []
no_text text h = (bytes_eq-Decides text []).0 h

reads_quotable : (text : Text) (value : ℕ) → (is_quotable text && value == 0) ≡ true → IsRead (record { kind = k.Quoted; text = text; value = value })
reads_quotable [] value h = absurd (cc)
reads_quotable (b ∷ z) value h =
    let parts = and_parts _ (value == 0) h in
    subst (λ v. IsRead (record { kind = k.Quoted; text = b ∷ z; value = v })) (sym (eqb-true value 0 parts.1)) (token.Quoted, reads_quoted b z (and_parts _ _ parts.0).0)

reads_other : (kind : LexemeKind) (text : Text) (value : ℕ) → (is_any_word kind ≡ true) ⊎ ((is_any_word kind ≡ false) × IsSymbol kind) →
    (cond (is_any_word kind) (is_word text && same_kind (word_kind text) kind) (bytes_eq text []) && value == 0) ≡ true → IsRead (record { kind = kind; text = text; value = value })
unfolding same_kind
reads_other kind text value (inl any) h =
    let parts = and_parts _ (value == 0) h in
    let both = and_parts (is_word text) (same_kind (word_kind text) kind) (sym (cond-true (is_any_word kind) _ _ any) ∙ parts.0) in
    subst (λ v. IsRead (record { kind = kind; text = text; value = v })) (sym (eqb-true value 0 parts.1))
    (token.Word, reads_word kind text both.0 (same_true the_type (search rules) _ _ both.1) any)
reads_other kind text value (inr (none, is)) h =
    let parts = and_parts _ (value == 0) h in
    let empty = no_text text (sym (cond-false (is_any_word kind) _ _ none) ∙ parts.0) in
    subst (λ v. IsRead (record { kind = kind; text = text; value = v })) (sym (eqb-true value 0 parts.1))
    (subst (λ z. IsRead (record { kind = kind; text = z; value = 0 })) (sym empty) (token.Symbol, reads_symbol kind is))

reads_parts : (kind : LexemeKind) (text : Text) (value : ℕ) → is_spellable (record { kind = kind; text = text; value = value }) ≡ true → IsRead (record { kind = kind; text = text; value = value })
unfolding is_any_word same_kind
reads_parts k.End text value h = absurd (cc)
reads_parts k.Quoted text value h = reads_quotable text value h
reads_parts k.Str text value h =
    let parts = and_parts _ (value == 0) h in
    subst (λ v. IsRead (record { kind = k.Str; text = text; value = v })) (sym (eqb-true value 0 parts.1)) (token.Str, reads_string text)
reads_parts k.Number text value h =
    let parts = and_parts _ (nat_le value (2 ^ 63)) h in
    subst (λ z. IsRead (record { kind = k.Number; text = z; value = value })) (sym (no_text text parts.0)) (token.Number, reads_number value (leb-true value (2 ^ 63) parts.1))
reads_parts k.LParen text value h = reads_other _ text value (inr (refl, omega arith)) h
reads_parts k.RParen text value h = reads_other _ text value (inr (refl, omega arith)) h
reads_parts k.Comma text value h = reads_other _ text value (inr (refl, omega arith)) h
reads_parts k.Semicolon text value h = reads_other _ text value (inr (refl, omega arith)) h
reads_parts k.Star text value h = reads_other _ text value (inr (refl, omega arith)) h
reads_parts k.Plus text value h = reads_other _ text value (inr (refl, omega arith)) h
reads_parts k.Minus text value h = reads_other _ text value (inr (refl, omega arith)) h
reads_parts k.Percent text value h = reads_other _ text value (inr (refl, omega arith)) h
reads_parts k.Eq text value h = reads_other _ text value (inr (refl, omega arith)) h
reads_parts k.Ne text value h = reads_other _ text value (inr (refl, omega arith)) h
reads_parts k.Lt text value h = reads_other _ text value (inr (refl, omega arith)) h
reads_parts k.Le text value h = reads_other _ text value (inr (refl, omega arith)) h
reads_parts k.Gt text value h = reads_other _ text value (inr (refl, omega arith)) h
reads_parts k.Ge text value h = reads_other _ text value (inr (refl, omega arith)) h
reads_parts k.Concat text value h = reads_other _ text value (inr (refl, omega arith)) h
reads_parts k.Arrow text value h = reads_other _ text value (inr (refl, omega arith)) h
reads_parts _ text value h = reads_other _ text value (inl refl) h

pub reads : (t : Lexeme) → is_spellable t ≡ true → IsRead t
reads t h = reads_parts t.kind t.text t.value h
