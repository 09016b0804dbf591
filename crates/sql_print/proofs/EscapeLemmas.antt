-- The escapes of a text by its characters.
use Rattle.std.proofs.Common.{◌≡◌, ℕ, ◌≤◌, ◌<◌, Bool, true, false, ltb, ◌||◌, ◌==◌, nat_le, List, [], ◌∷◌, ◌++◌, refl, sym, ap, ◌∙◌, arith, ⊎_elim, encode_utf8, encode_utf8_all, append-nil, append_assoc}
use Rattle.std.specs.List.{list_all}
use Rattle.std.proofs.lemmas.Bool.{and_parts, cond-true, cond-false, cond_both, cases_Bool, cases_lt, ltb-true}
use Rattle.std.proofs.lemmas.Bool.Decides.{nat_tests}
use Rattle.std.proofs.lemmas.Str.Ascii.{encode_ascii}
use Rattle.std.proofs.Math.Utf8.{encode}
use Rattle.sql_tree.specs.Spelling.{escaped}

pub escaped-append : (y z : List ℕ) → escaped (y ++ z) ≡ escaped y ++ escaped z
escaped-append [] z = refl
escaped-append (b ∷ y) z = ⊎_elim (λ h. cond-true _ _ _ h ∙ ap (λ s. 92 ∷ b ∷ s) (escaped-append y z) ∙ ap (λ s. s ++ escaped z) (sym (cond-true (b == 39 || b == 92) (92 ∷ b ∷ escaped y) (b ∷ escaped y) h)))
    (λ h. cond-false _ _ _ h ∙ ap (λ s. b ∷ s) (escaped-append y z) ∙ ap (λ s. s ++ escaped z) (sym (cond-false (b == 39 || b == 92) (92 ∷ b ∷ escaped y) (b ∷ escaped y) h))) (cases_Bool (b == 39 || b == 92))

encodes-append : (cs : List ℕ) (c : ℕ) → encode_utf8_all (cs ++ c ∷ []) ≡ encode_utf8_all cs ++ encode_utf8 c
encodes-append [] c = append-nil (encode_utf8 c)
encodes-append (d ∷ cs) c = ap (λ s. encode_utf8 d ++ s) (encodes-append cs c) ∙ sym (append_assoc (encode_utf8 d) (encode_utf8_all cs) (encode_utf8 c))

abbrev is_high : List ℕ → Bool
is_high = list_all (nat_le 128)

encode_high : (c : ℕ) → 128 ≤ c → is_high (encode_utf8 c) ≡ true
unfolding encode
encode_high c h = cond_both (ltb c 128) _ _ (λ z. is_high z ≡ true) (λ low. absurd (omega (arith, ltb-true c 128 low)))
    (λ _. cond_both (ltb c 2048) _ _ (λ z. is_high z ≡ true) (λ _. grind (arith, nat_tests))
    (λ _. cond_both (ltb c 65536) _ _ (λ z. is_high z ≡ true) (λ _. grind (arith, nat_tests)) (λ _. grind (arith, nat_tests))))

high_unmarked : (b : ℕ) → nat_le 128 b ≡ true → (b == 39 || b == 92) ≡ false
high_unmarked b h = grind (arith, nat_tests)

escaped_high : (z : List ℕ) → is_high z ≡ true → escaped z ≡ z
escaped_high [] h = refl
escaped_high (b ∷ z) h =
    let parts = and_parts (nat_le 128 b) (is_high z) h in
    cond-false _ _ _ (high_unmarked b parts.0) ∙ ap (λ s. b ∷ s) (escaped_high z parts.1)

pub escaped_marked : (c : ℕ) → (c == 39 || c == 92) ≡ true → escaped (encode_utf8 c) ≡ 92 ∷ encode_utf8 c
escaped_marked c h = ap escaped (encode_ascii c low) ∙ cond-true _ _ _ h ∙ ap (λ s. 92 ∷ s) (sym (encode_ascii c low))
  where
    low : c < 128
    low = grind (arith, nat_tests)

pub escaped_plain : (c : ℕ) → (c == 39 || c == 92) ≡ false → escaped (encode_utf8 c) ≡ encode_utf8 c
escaped_plain c h = ⊎_elim (λ l. ap escaped (encode_ascii c l) ∙ cond-false _ _ _ h ∙ sym (encode_ascii c l)) (λ l. escaped_high (encode_utf8 c) (encode_high c l)) (cases_lt c 128)

-- one character more
pub escaped_more : (cs : List ℕ) (c : ℕ) → escaped (encode_utf8_all (cs ++ c ∷ [])) ≡ escaped (encode_utf8_all cs) ++ escaped (encode_utf8 c)
escaped_more cs c = ap escaped (encodes-append cs c) ∙ escaped-append (encode_utf8_all cs) (encode_utf8 c)
