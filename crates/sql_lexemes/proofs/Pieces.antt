-- The token at the front of a lexeme's spelling.
use Rattle.std.proofs.Common.{◌≡◌, ℕ, ◌+◌, ◌<◌, Bool, true, false, not, ◌&&◌, ◌||◌, ◌==◌, [], ◌∷◌, ◌++◌, length, slice_index, Some, refl, sym, ap, ◌∙◌, subst, arith, rules, ◌⊎◌, inl, inr, ⊎_elim, nat_lt}
use Rattle.std.specs.List.{list_all}
use Rattle.std.proofs.lemmas.Bool.Decides.{nat_tests}
use Rattle.std.proofs.lemmas.Bool.{and_parts, and_from, not-true, eqb-true, cond-true, cond-false, cases_Bool, or_parts, lt-ltb, eq-eqb}
use Rattle.sql_tokens.specs.declared.token.TokenKind.TheVariants.{Word, Quoted, Str, Number, Symbol}
use Rattle.sql_tokens.specs.declared.lexical.Class.{Class}
use Rattle.sql_tokens.specs.declared.lexical.Class.TheVariants as class
use Rattle.sql_tokens.specs.declared.lexical.Piece.TheVariants.{Blank, Token}
use Rattle.sql_tokens.specs.Lexical.{Text, is_in, run, piece, closing, is_escape, string_to}
use Rattle.sql_tree.specs.declared.lexeme.LexemeKind.{LexemeKind}
use Rattle.sql_tree.specs.declared.lexeme.LexemeKind.TheVariants as k
use Rattle.sql_tree.specs.Spelling.{is_word, escaped, symbol}

-- nothing or a blank, which no token goes on with
abbrev pub is_apart : Text → Bool
is_apart [] = true
is_apart (b ∷ z) = b == 32

-- the class goes no further
abbrev pub stops : Class → Text → Bool
stops c [] = true
stops c (b ∷ z) = not (is_in c b)

pub run_all : (c : Class) (z rest : Text) → list_all (is_in c) z ≡ true → stops c rest ≡ true → run c (z ++ rest) ≡ length z
run_all c [] [] all stop = refl
run_all c [] (b ∷ rest) all stop = cond-false (is_in c b) _ _ (not-true (is_in c b) stop)
run_all c (b ∷ z) rest all stop =
    let parts = and_parts (is_in c b) (list_all (is_in c) z) all in
    cond-true (is_in c b) _ _ parts.0 ∙ omega (arith, run_all c z rest parts.1 stop)

apart_stops : (c : Class) (rest : Text) → is_in c 32 ≡ false → is_apart rest ≡ true → stops c rest ≡ true
apart_stops c [] out apart = refl
apart_stops c (b ∷ z) out apart = ap (λ x. not (is_in c x)) (eqb-true b 32 apart) ∙ ap not out

letter_not_blank : (b : ℕ) → is_in class.Letter b ≡ true → is_in class.Blank b ≡ false
letter_not_blank b h = grind (arith, nat_tests)

letter_is_word : (b : ℕ) → is_in class.Letter b ≡ true → is_in class.Word b ≡ true
letter_is_word b h = grind (arith, nat_tests)

digit_not_blank : (b : ℕ) → is_in class.Digit b ≡ true → is_in class.Blank b ≡ false
digit_not_blank b h = grind (arith, nat_tests)

digit_not_letter : (b : ℕ) → is_in class.Digit b ≡ true → is_in class.Letter b ≡ false
digit_not_letter b h = grind (arith, nat_tests)

pub word_piece : (z rest : Text) → is_word z ≡ true → is_apart rest ≡ true → piece (z ++ rest) ≡ Token Word (length z)
unfolding piece
word_piece [] rest word apart = absurd (cc)
word_piece (b ∷ z) rest word apart =
    let parts = and_parts (is_in class.Letter b) (list_all (is_in class.Word) z) word in
    cond-false (is_in class.Blank b) _ _ (letter_not_blank b parts.0) ∙ cond-true (is_in class.Letter b) _ _ parts.0 ∙
    ap (Token Word) (run_all class.Word (b ∷ z) rest (and_from _ _ (letter_is_word b parts.0) parts.1) (apart_stops class.Word rest refl apart))

pub first_apart : (rest : Text) → is_apart rest ≡ true → (slice_index rest 0 ≡ 0) ⊎ (slice_index rest 0 ≡ 32)
first_apart [] apart = inl refl
first_apart (b ∷ z) apart = inr (eqb-true b 32 apart)

-- what may follow a number
ends_number : (n : ℕ) → (n ≡ 0) ⊎ (n ≡ 32) → (is_in class.Word n || n == 46) ≡ false
ends_number n (inl e) = ap (λ n. is_in class.Word n || n == 46) e
ends_number n (inr e) = ap (λ n. is_in class.Word n || n == 46) e

index_behind : (z rest : Text) → slice_index (z ++ rest) (length z) ≡ slice_index rest 0
index_behind [] rest = refl
index_behind (b ∷ z) rest = index_behind z rest

pub number_piece : (b : ℕ) (z rest : Text) → list_all (is_in class.Digit) (b ∷ z) ≡ true → is_apart rest ≡ true → piece (b ∷ z ++ rest) ≡ Token Number (length (b ∷ z))
unfolding piece
number_piece b z rest all apart =
    let parts = and_parts (is_in class.Digit b) (list_all (is_in class.Digit) z) all in
    let len = run_all class.Digit (b ∷ z) rest all (apart_stops class.Digit rest refl apart) in
    let next : slice_index (b ∷ z ++ rest) (run class.Digit (b ∷ z ++ rest)) ≡ slice_index rest 0 = ap (slice_index (b ∷ z ++ rest)) len ∙ index_behind (b ∷ z) rest in
    cond-false (is_in class.Blank b) _ _ (digit_not_blank b parts.0) ∙ cond-false (is_in class.Letter b) _ _ (digit_not_letter b parts.0) ∙ cond-true (is_in class.Digit b) _ _ parts.0 ∙
    (cond-false _ _ _ (ap (λ n. is_in class.Word n || n == 46) next ∙ ends_number (slice_index rest 0) (first_apart rest apart)) ∙ ap (Token Number) len)

pub quoted_piece : (b : ℕ) (z rest : Text) → list_all (is_in class.Quoted) (b ∷ z) ≡ true → piece (96 ∷ b ∷ z ++ 96 ∷ rest) ≡ Token Quoted (length (b ∷ z) + 2)
unfolding piece
quoted_piece b z rest all =
    let text : Text = 96 ∷ b ∷ z ++ 96 ∷ rest in
    let len = run_all class.Quoted (b ∷ z) (96 ∷ rest) all refl in
    let close : slice_index text (length (b ∷ z) + 1) ≡ 96 =
    (let width : length (b ∷ z) + 1 ≡ length (96 ∷ b ∷ z) = omega arith in ap (slice_index text) width ∙ index_behind (96 ∷ b ∷ z) (96 ∷ rest)) in
    let some : (nat_lt 0 (length (b ∷ z)) && slice_index text (length (b ∷ z) + 1) == 96) ≡ true = and_from _ _ (lt-ltb 0 (length (b ∷ z)) (omega arith)) (eq-eqb _ _ close) in
    cond-true _ _ _ (ap (λ n. nat_lt 0 n && slice_index text (n + 1) == 96) len ∙ some) ∙ ap (λ n. Token Quoted (n + 2)) len

escaped_marked : (b : ℕ) (z : Text) → (b == 39 || b == 92) ≡ true → escaped (b ∷ z) ≡ 92 ∷ b ∷ escaped z
escaped_marked b z h = cond-true _ _ _ h

escaped_plain : (b : ℕ) (z : Text) → (b == 39 || b == 92) ≡ false → escaped (b ∷ z) ≡ b ∷ escaped z
escaped_plain b z h = cond-false _ _ _ h

marked_escape : (b : ℕ) → (b == 39 || b == 92) ≡ true → is_escape b ≡ true
marked_escape b h = grind (arith, nat_tests)

closes_marked : (b : ℕ) (z : Text) (at : ℕ) → (b == 39 || b == 92) ≡ true → closing 39 false at (92 ∷ b ∷ z) ≡ closing 39 false (at + 1 + 1) z
closes_marked b z at h = cond-true _ _ _ (marked_escape b h)

closes_plain : (b : ℕ) (z : Text) (at : ℕ) → (b == 39 || b == 92) ≡ false → closing 39 false at (b ∷ z) ≡ closing 39 false (at + 1) z
closes_plain b z at h =
    let parts = or_parts (b == 39) (b == 92) h in
    cond-false _ _ _ parts.0 ∙ ap (λ t. closing 39 t (at + 1) z) parts.1

escaped_closes : (z rest : Text) (at : ℕ) → closing 39 false at (escaped z ++ 39 ∷ rest) ≡ Some (at + length (escaped z) + 1)
escaped_closes [] rest at = ap Some (omega arith)
escaped_closes (b ∷ z) rest at = ⊎_elim (marked (escaped_closes z rest (at + 1 + 1))) (plain (escaped_closes z rest (at + 1))) (cases_Bool (b == 39 || b == 92))
  where
    marked : closing 39 false (at + 1 + 1) (escaped z ++ 39 ∷ rest) ≡ Some (at + 1 + 1 + length (escaped z) + 1) → (b == 39 || b == 92) ≡ true →
        closing 39 false at (escaped (b ∷ z) ++ 39 ∷ rest) ≡ Some (at + length (escaped (b ∷ z)) + 1)
    marked more h = subst (λ s. closing 39 false at (s ++ 39 ∷ rest) ≡ Some (at + length s + 1)) (sym (escaped_marked b z h))
        (closes_marked b (escaped z ++ 39 ∷ rest) at h ∙ more ∙ ap Some (omega arith))

    plain : closing 39 false (at + 1) (escaped z ++ 39 ∷ rest) ≡ Some (at + 1 + length (escaped z) + 1) → (b == 39 || b == 92) ≡ false →
        closing 39 false at (escaped (b ∷ z) ++ 39 ∷ rest) ≡ Some (at + length (escaped (b ∷ z)) + 1)
    plain more h = subst (λ s. closing 39 false at (s ++ 39 ∷ rest) ≡ Some (at + length s + 1)) (sym (escaped_plain b z h))
        (closes_plain b (escaped z ++ 39 ∷ rest) at h ∙ more ∙ ap Some (omega arith))

pub string_piece : (z rest : Text) → piece (39 ∷ escaped z ++ 39 ∷ rest) ≡ Token Str (length (escaped z) + 2)
unfolding piece
string_piece z rest = ap string_to (escaped_closes z rest 1) ∙ ap (Token Str) (omega arith)

abbrev pub IsSymbol : LexemeKind → Type 0
IsSymbol kind = 0 < length (symbol kind)

symbol_at_end : (kind : LexemeKind) → IsSymbol kind → piece (symbol kind ++ []) ≡ Token Symbol (length (symbol kind))
unfolding piece
symbol_at_end k.End is = absurd (omega arith)
symbol_at_end _ is = first_of (search rules, grind arith)

symbol_at_blank : (kind : LexemeKind) (rest : Text) → IsSymbol kind → piece (symbol kind ++ 32 ∷ rest) ≡ Token Symbol (length (symbol kind))
unfolding piece
symbol_at_blank k.End rest is = absurd (omega arith)
symbol_at_blank _ rest is = first_of (search rules, grind arith)

-- a symbol whose longer form does not stand there
pub symbol_piece : (kind : LexemeKind) (rest : Text) → IsSymbol kind → is_apart rest ≡ true → piece (symbol kind ++ rest) ≡ Token Symbol (length (symbol kind))
symbol_piece kind [] is apart = symbol_at_end kind is
symbol_piece kind (b ∷ rest) is apart = subst (λ b. piece (symbol kind ++ b ∷ rest) ≡ Token Symbol (length (symbol kind))) (sym (eqb-true b 32 apart)) (symbol_at_blank kind rest is)

pub minus_piece : (b : ℕ) (rest : Text) → is_in class.Digit b ≡ true → piece (45 ∷ b ∷ rest) ≡ Token Symbol 1
unfolding piece
minus_piece b rest digit = cond-false _ _ _ (not_minus b digit)
  where
    not_minus : (b : ℕ) → is_in class.Digit b ≡ true → (b == 45) ≡ false
    not_minus b h = grind (arith, nat_tests)

pub blank_piece : (b : ℕ) (rest : Text) → is_in class.Blank b ≡ false → piece (32 ∷ b ∷ rest) ≡ Blank 1
unfolding piece
blank_piece b rest h = ap (λ n. Blank (1 + n)) (cond-false (is_in class.Blank b) _ _ h)
