-- The texts of strings stay UTF-8.
use Rattle.std.proofs.Common.{◌≡◌, ℕ, ◌≤◌, ◌<◌, Bool, true, false, ltb, ◌||◌, ◌==◌, nat_le, List, [], ◌∷◌, ◌++◌, length, refl, sym, ap, ◌∙◌, subst, arith, ⊎_elim, IsUtf8, encode_utf8, encode_utf8_all, append-nil}
use Rattle.std.specs.List.{list_all}
use Rattle.std.specs.Str.{all_scalars}
use Rattle.std.proofs.lemmas.Bool.{and_parts, and_from, cond-false, cond_both, cases_lt, ltb-true}
use Rattle.std.proofs.lemmas.Bool.Decides.{nat_tests}
use Rattle.std.proofs.lemmas.Str.{length-encode, len_utf8_bounds, IsUtf8-append, IsUtf8-nil, IsUtf8-from_ascii}
use Rattle.std.proofs.lemmas.Str.Ascii.{encode_ascii, IsAscii-nil, IsAscii-cons}
use Rattle.std.proofs.Math.Utf8.{encode}
use Rattle.sql_tokens.specs.Lexical.{Text}
use Rattle.sql_tree.specs.Spelling.{escaped}
use Rattle.sql_lexemes.specs.Lexing.{unescaped, meaning}

abbrev is_high : Text → Bool
is_high = list_all (nat_le 128)

-- each byte of a character that is not ASCII is 128 or above
encode_high : (c : ℕ) → 128 ≤ c → is_high (encode_utf8 c) ≡ true
unfolding encode
encode_high c h = cond_both (ltb c 128) _ _ (λ z. is_high z ≡ true) (λ low. absurd (omega (arith, ltb-true c 128 low)))
    (λ _. cond_both (ltb c 2048) _ _ (λ z. is_high z ≡ true) (λ _. grind (arith, nat_tests))
    (λ _. cond_both (ltb c 65536) _ _ (λ z. is_high z ≡ true) (λ _. grind (arith, nat_tests)) (λ _. grind (arith, nat_tests))))

encode_some : (c : ℕ) → 0 < length (encode_utf8 c)
encode_some c = omega (arith, length-encode c, (len_utf8_bounds c).0)

high_plain : (b : ℕ) → nat_le 128 b ≡ true → (b == 92) ≡ false
high_plain b h = grind (arith, nat_tests)

high_meaning : (b : ℕ) → nat_le 128 b ≡ true → meaning b ≡ b
high_meaning b h = grind (arith, nat_tests)

high_unmarked : (b : ℕ) → nat_le 128 b ≡ true → (b == 39 || b == 92) ≡ false
high_unmarked b h = grind (arith, nat_tests)

unescaped_high : (z rest : Text) → is_high z ≡ true → unescaped false (z ++ rest) ≡ z ++ unescaped false rest
unescaped_high [] rest h = refl
unescaped_high (b ∷ z) rest h =
    let parts = and_parts (nat_le 128 b) (is_high z) h in
    cond-false (b == 92) _ _ (high_plain b parts.0) ∙ ap (λ s. b ∷ s) (unescaped_high z rest parts.1)

behind_high : (z rest : Text) → 0 < length z → is_high z ≡ true → unescaped true (z ++ rest) ≡ z ++ unescaped false rest
behind_high [] rest some h = absurd (omega arith)
behind_high (b ∷ z) rest some h =
    let parts = and_parts (nat_le 128 b) (is_high z) h in
    ap (λ m. m ∷ unescaped false (z ++ rest)) (high_meaning b parts.0) ∙ ap (λ s. b ∷ s) (unescaped_high z rest parts.1)

escaped_high : (z rest : Text) → is_high z ≡ true → escaped (z ++ rest) ≡ z ++ escaped rest
escaped_high [] rest h = refl
escaped_high (b ∷ z) rest h =
    let parts = and_parts (nat_le 128 b) (is_high z) h in
    cond-false _ _ _ (high_unmarked b parts.0) ∙ ap (λ s. b ∷ s) (escaped_high z rest parts.1)

byte_utf8 : (b : ℕ) (rest : Text) → b < 128 → IsUtf8 rest → IsUtf8 (b ∷ rest)
byte_utf8 b rest low u = IsUtf8-append (b ∷ []) rest (IsUtf8-from_ascii (b ∷ []) (IsAscii-cons b [] low IsAscii-nil)) u

char_utf8 : (c : ℕ) (cs : List ℕ) → all_scalars (c ∷ cs) ≡ true → IsUtf8 (encode_utf8 c)
char_utf8 c cs h = (c ∷ [], (and_from _ _ (and_parts _ _ h).0 refl, append-nil (encode_utf8 c)))

low_meaning : (b : ℕ) → b < 128 → meaning b < 128
low_meaning b h = cond_both (b == 110) _ _ (λ m. m < 128) (λ _. omega arith) (λ _. cond_both (b == 116) _ _ (λ m. m < 128) (λ _. omega arith) (λ _. cond_both (b == 114) _ _ (λ m. m < 128) (λ _. omega arith) (λ _. h)))

abbrev BothUtf8 : Text → Type 0
BothUtf8 z = IsUtf8 (unescaped false z) × IsUtf8 (unescaped true z)

unescaped_char : (c : ℕ) (cs : List ℕ) (rest : Text) → all_scalars (c ∷ cs) ≡ true → BothUtf8 rest → BothUtf8 (encode_utf8 c ++ rest)
unescaped_char c cs rest h u = ⊎_elim low high (cases_lt c 128)
  where
    low : c < 128 → BothUtf8 (encode_utf8 c ++ rest)
    low l = subst (λ z. BothUtf8 (z ++ rest)) (sym (encode_ascii c l)) (
      cond_both (c == 92) _ _ IsUtf8 (λ _. u.1) (λ _. byte_utf8 c (unescaped false rest) l u.0),
      byte_utf8 (meaning c) (unescaped false rest) (low_meaning c l) u.0,
    )

    high : 128 ≤ c → BothUtf8 (encode_utf8 c ++ rest)
    high l =
        let whole = IsUtf8-append (encode_utf8 c) (unescaped false rest) (char_utf8 c cs h) u.0 in (
          subst IsUtf8 (sym (unescaped_high (encode_utf8 c) rest (encode_high c l))) whole,
          subst IsUtf8 (sym (behind_high (encode_utf8 c) rest (encode_some c) (encode_high c l))) whole,
        )

unescaped_chars : (cs : List ℕ) → all_scalars cs ≡ true → BothUtf8 (encode_utf8_all cs)
unescaped_chars [] h = (IsUtf8-nil, IsUtf8-nil)
unescaped_chars (c ∷ cs) h = unescaped_char c cs (encode_utf8_all cs) h (unescaped_chars cs (and_parts _ _ h).1)

pub IsUtf8-unescaped : (z : Text) → IsUtf8 z → IsUtf8 (unescaped false z)
IsUtf8-unescaped z (cs, (scalars, same)) = subst (λ z. IsUtf8 (unescaped false z)) same (unescaped_chars cs scalars).0

escaped_char : (c : ℕ) (cs : List ℕ) (rest : Text) → all_scalars (c ∷ cs) ≡ true → IsUtf8 (escaped rest) → IsUtf8 (escaped (encode_utf8 c ++ rest))
escaped_char c cs rest h u = ⊎_elim low high (cases_lt c 128)
  where
    low : c < 128 → IsUtf8 (escaped (encode_utf8 c ++ rest))
    low l = subst (λ z. IsUtf8 (escaped (z ++ rest))) (sym (encode_ascii c l))
        (cond_both (c == 39 || c == 92) _ _ IsUtf8 (λ _. byte_utf8 92 (c ∷ escaped rest) (omega arith) (byte_utf8 c (escaped rest) l u)) (λ _. byte_utf8 c (escaped rest) l u))

    high : 128 ≤ c → IsUtf8 (escaped (encode_utf8 c ++ rest))
    high l = subst IsUtf8 (sym (escaped_high (encode_utf8 c) rest (encode_high c l))) (IsUtf8-append (encode_utf8 c) (escaped rest) (char_utf8 c cs h) u)

escaped_chars : (cs : List ℕ) → all_scalars cs ≡ true → IsUtf8 (escaped (encode_utf8_all cs))
escaped_chars [] h = IsUtf8-nil
escaped_chars (c ∷ cs) h = escaped_char c cs (encode_utf8_all cs) h (escaped_chars cs (and_parts _ _ h).1)

pub IsUtf8-escaped : (z : Text) → IsUtf8 z → IsUtf8 (escaped z)
IsUtf8-escaped z (cs, (scalars, same)) = subst (λ z. IsUtf8 (escaped z)) same (escaped_chars cs scalars)
