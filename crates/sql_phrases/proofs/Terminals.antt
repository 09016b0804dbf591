-- One token: its reader, and tests of kinds.
use Rattle.std.proofs.Common.{◌≡◌, ◌≢◌, ℕ, ◌+◌, ◌≤◌, Bool, true, false, cond, List, [], ◌∷◌, ◌++◌, length, Result, Ok, Err, refl, sym, ap, ◌∙◌, subst, arith, rules, le_trans}
use denote.Enum.Bare.{same_true, sameb}
use Rattle.sql_tree.specs.contracts.lexeme.LexemeKind.{the_type}
use Rattle.sql_tree.specs.declared.lexeme.LexemeKind.{LexemeKind}
use Rattle.sql_tree.specs.declared.lexeme.LexemeKind.TheVariants.{End}
use Rattle.sql_tree.specs.declared.lexeme.Lexeme.{Lexeme}
use Rattle.sql_tree.specs.Lexemes.{kind, same_kind}
use Rattle.sql_phrases.specs.Parsers.{Outcome, Parser, next, skip, eat, expect, sees, and_then, ◌>>=◌, ◌>>◌}
use Rattle.sql_phrases.proofs.Phrases.{Language, Some_word, ◌⨾◌, the, behind, meets_weaker, meets_bind, meets_as, meets_by, meets_first, meets_less, Meets, Taken, Stuck, front, front_nil, front_cons, same_kinds}

pub kinds_alike : (a b : LexemeKind) → same_kind a b ≡ true → a ≡ b
unfolding same_kind
kinds_alike a b h = same_true the_type (search rules) a b h

pub alike_self : (a : LexemeKind) → same_kind a a ≡ true
unfolding same_kind
alike_self End = refl
alike_self _ = refl

pub alike : (a b : LexemeKind) → a ≡ b → same_kind a b ≡ true
alike a b e = subst (λ c. same_kind a c ≡ true) e (alike_self a)

-- a lexeme with nothing but its kind
abbrev pub plain : LexemeKind → Lexeme
plain k = record { kind = k; text = []; value = 0 }

pub expect_takes : (wanted : LexemeKind) (t : Lexeme) (ts : List Lexeme) → same_kind t.kind wanted ≡ true → expect wanted (t ∷ ts) ≡ Ok (tt, ts)
unfolding expect
expect_takes wanted t ts h = ap (λ b. cond b (Ok (tt, ts)) (Err (t ∷ ts))) h

pub expect_refuses : (wanted : LexemeKind) (i : List Lexeme) → same_kind (kind i) wanted ≡ false → expect wanted i ≡ Err i
unfolding expect
expect_refuses wanted i h = ap (λ b. cond b (Ok (tt, next i)) (Err i)) h

the_some : (wanted : LexemeKind) → (w : List Lexeme) × (x : Unit {0}) × the wanted w x
the_some wanted = (plain wanted ∷ [], tt, (plain wanted, refl, refl))

-- by the test at the next token
meets_expect_by : (b : ℕ) (wanted : LexemeKind) (t : Lexeme) (ts : List Lexeme) (found : Bool) → same_kind t.kind wanted ≡ found →
    Meets b (λ e m. expect wanted) (the wanted) (t ∷ ts) (cond found (Ok (tt, ts)) (Err (t ∷ ts)))
meets_expect_by b wanted t ts true h = record {
  word = t ∷ [];
  split = refl;
  holds = (t, refl, kinds_alike t.kind wanted h);
  echoes = λ e m c f n k. expect_takes wanted t c h;
}
meets_expect_by b wanted t ts false h = record {
  word = [];
  split = refl;
  begins = the_some wanted;
  echoes = λ e m c f n k. expect_refuses wanted c (ap (λ a. same_kind a wanted) (same_kinds c (t ∷ ts) f) ∙ h);
}

pub meets_expect : (b : ℕ) (wanted : LexemeKind) (i : List Lexeme) → same_kind End wanted ≡ false →
    Meets b (λ e m. expect wanted) (the wanted) i (expect wanted i)
unfolding expect
meets_expect b wanted [] never = rw never (record {
  word = [];
  split = refl;
  begins = the_some wanted;
  echoes = λ e m c f n k. expect_refuses wanted c (ap (λ a. same_kind a wanted) (same_kinds c [] f) ∙ never);
})
meets_expect b wanted (t ∷ ts) never = meets_expect_by b wanted t ts (same_kind t.kind wanted) refl

-- a phrase, a token, and what follows it
abbrev pub joined : {A B : Type 0} → Language A → LexemeKind → (A → Language B) → Language B
joined L wanted M w y = (u : List Lexeme) × (t : Lexeme) × (v : List Lexeme) × (x : _) × (w ≡ u ++ t ∷ v) × L u x × (t.kind ≡ wanted) × M x v y

pub meets_joined : {A B : Type 0} (b : ℕ) (P : ℕ → ℕ → Parser A) (wanted : LexemeKind) (Q : A → ℕ → ℕ → Parser B) (L : Language A) (M : A → Language B) (i : List Lexeme) (p : Outcome A) (q : A → Parser B) →
    same_kind End wanted ≡ false → ((x : A) → Some_word (M x)) → Meets b P L i p → ((x : A) (o : List Lexeme) → length o ≤ length i → Meets b (Q x) (M x) o (q x o)) →
    Meets b (λ e m. P e m >>= (λ x. expect wanted >>= (λ _. Q x e m))) (joined L wanted M) i (and_then p (λ x. expect wanted >>= (λ _. q x)))
meets_joined b P wanted Q L M i p q never some h next =
    meets_weaker b _ (L ⨾ (λ x. the wanted ⨾ (λ _. M x))) (joined L wanted M) i _
    (λ w y g. let token = g.5.4 in
    (g.0, token.0, g.5.1, g.2, g.3 ∙ ap (λ z. g.0 ++ z) (g.5.3 ∙ ap (λ z. z ++ g.5.1) token.1), g.4, token.2, g.5.5))
    (meets_bind b P (λ x e m. expect wanted >>= (λ _. Q x e m)) L (λ x. the wanted ⨾ (λ _. M x)) i p (λ x. expect wanted >>= (λ _. q x))
    (λ x. (plain wanted ∷ (some x).0, (some x).1, (plain wanted ∷ [], (some x).0, tt, refl, (plain wanted, refl, refl), (some x).2)))
    h
    (λ x o less. meets_bind b (λ e m. expect wanted) (λ _. Q x) (the wanted) (λ _. M x) o (expect wanted o) (λ _. q x) (λ _. some x) (meets_expect b wanted o never)
    (λ _ r fewer. next x r (le_trans fewer less))))

-- a token, and what follows it
abbrev pub opened : {B : Type 0} → LexemeKind → Language B → Language B
opened wanted M w y = (t : Lexeme) × (v : List Lexeme) × (w ≡ t ∷ v) × (t.kind ≡ wanted) × M v y

pub meets_opened : {B : Type 0} (b : ℕ) (wanted : LexemeKind) (Q : ℕ → ℕ → Parser B) (M : Language B) (i : List Lexeme) (q : Parser B) →
    same_kind End wanted ≡ false → Some_word M → ((o : List Lexeme) → length o ≤ length i → Meets b Q M o (q o)) →
    Meets b (λ e m. expect wanted >>= (λ _. Q e m)) (opened wanted M) i ((expect wanted >>= (λ _. q)) i)
meets_opened b wanted Q M i q never some next =
    meets_weaker b _ (the wanted ⨾ (λ _. M)) (opened wanted M) i _
    (λ w y g. (g.4.0, g.1, g.3 ∙ ap (λ z. z ++ g.1) g.4.1, g.4.2, g.5))
    (meets_bind b (λ e m. expect wanted) (λ _. Q) (the wanted) (λ _. M) i (expect wanted i) (λ _. q) (λ _. some) (meets_expect b wanted i never) (λ _. next))

pub some_joined : {A B : Type 0} (L : Language A) (wanted : LexemeKind) (M : A → Language B) → Some_word L → ((x : A) → Some_word (M x)) → Some_word (joined L wanted M)
some_joined L wanted M s next =
    let after = next s.1 in
    (s.0 ++ plain wanted ∷ after.0, after.1, (s.0, plain wanted, after.0, s.1, refl, s.2, refl, after.2))

pub some_opened : {B : Type 0} (wanted : LexemeKind) (M : Language B) → Some_word M → Some_word (opened wanted M)
some_opened wanted M s = (plain wanted ∷ s.0, s.1, (plain wanted, s.0, refl, refl, s.2))

-- a token that may be there
abbrev after_eating : {B : Type 0} → LexemeKind → LexemeKind → (Bool → Parser B) → Parser B
after_eating wanted found q = λ j. cond (same_kind found wanted) (q true (next j)) (q false j)

eats : {B : Type 0} (wanted : LexemeKind) (q : Bool → Parser B) (j : List Lexeme) → (eat wanted >>= q) j ≡ after_eating wanted (kind j) q j
eats wanted q j = by_test (same_kind (kind j) wanted)
  where
    by_test : (b : Bool) → q b (cond b (next j) j) ≡ cond b (q true (next j)) (q false j)
    by_test true = refl
    by_test false = refl

pub meets_eat : {B : Type 0} (wanted : LexemeKind) (Q : Bool → ℕ → ℕ → Parser B) (L : Language B) (i : List Lexeme) (q : Bool → Parser B) →
    same_kind End wanted ≡ false →
    (same_kind (kind i) wanted ≡ false → Meets 0 (Q false) L i (q false i)) →
    ((t : Lexeme) (ts : List Lexeme) → i ≡ t ∷ ts → t.kind ≡ wanted → Meets 0 (Q true) (λ w. L (t ∷ w)) ts (q true ts)) →
    Meets 0 (λ e m. eat wanted >>= (λ b. Q b e m)) L i ((eat wanted >>= q) i)
meets_eat wanted Q L i q never absent present =
    subst (λ r. Meets 0 (λ e m. eat wanted >>= (λ b. Q b e m)) L i r) (sym (eats wanted q i))
    (meets_as 0 (λ e m j. after_eating wanted (kind j) (λ b. Q b e m) j) _ L i _ (λ e m j _ _. eats wanted (λ b. Q b e m) j)
    (meets_by 0 (λ found e m. after_eating wanted found (λ b. Q b e m)) L i _ (by_kind i (same_kind (kind i) wanted) refl absent present)))
  where
    by_kind : (i : List Lexeme) (b : Bool) → same_kind (kind i) wanted ≡ b →
        (same_kind (kind i) wanted ≡ false → Meets 0 (Q false) L i (q false i)) →
        ((t : Lexeme) (ts : List Lexeme) → i ≡ t ∷ ts → t.kind ≡ wanted → Meets 0 (Q true) (λ w. L (t ∷ w)) ts (q true ts)) →
        Meets 0 (λ e m. after_eating wanted (kind i) (λ b. Q b e m)) L i (cond b (q true (next i)) (q false i))
    by_kind i false h absent present = meets_as 0 (Q false) _ L i _ (λ e m j _ _. ap (λ b. cond b (Q true e m (next j)) (Q false e m j)) h) (absent h)
    by_kind [] true h absent present = absurd (cc)
    by_kind (t ∷ ts) true h absent present =
        meets_as 0 (λ e m. skip >> Q true e m) _ L (t ∷ ts) _ (λ e m j _ _. ap (λ b. cond b (Q true e m (next j)) (Q false e m j)) h)
        (meets_less _ L (t ∷ ts) _ (meets_weaker 1 _ (behind t (λ w. L (t ∷ w))) L (t ∷ ts) _ (λ w x g. subst (λ z. L z x) (sym g.1) g.2)
        (meets_first (Q true) _ t ts _ (present t ts refl (kinds_alike t.kind wanted h)))))
