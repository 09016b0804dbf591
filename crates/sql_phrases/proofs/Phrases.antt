-- Languages of tokens with values, and readers that meet them: what is read is in the language, what is refused is
-- the first token with which nothing in the language goes on, and the answer depends on no later token.
use Rattle.std.proofs.Common.{◌≡◌, ℕ, ◌+◌, ◌-◌, ◌≤◌, ◌<◌, le_refl, List, [], ◌∷◌, ◌++◌, length, Result, Ok, Err, refl, sym, ap, ◌∙◌, subst, append_assoc, append-nil, arith, length-append}
use Rattle.sql_tree.specs.declared.lexeme.LexemeKind.{LexemeKind}
use Rattle.sql_tree.specs.declared.lexeme.Lexeme.{Lexeme}
use Rattle.sql_tree.specs.Lexemes.{kind}
use Rattle.sql_phrases.specs.Parsers.{Outcome, Parser, and_then, ◌>>=◌, ◌>>◌, pure, skip}

abbrev pub Language : Type 0 → Type 1
Language A = List Lexeme → A → Type 0

-- one token of a kind
abbrev pub the : LexemeKind → Language (Unit {0})
the wanted w _ = (t : Lexeme) × (w ≡ t ∷ []) × (t.kind ≡ wanted)

-- one after the other
infixr 12 ◌⨾◌
abbrev pub ◌⨾◌ : {A B : Type 0} → Language A → (A → Language B) → Language B
(L ⨾ M) w y = (u : List Lexeme) × (v : List Lexeme) × (x : _) × (w ≡ u ++ v) × L u x × M x v y

-- nothing, for this value
abbrev pub nothing : {A : Type 0} → A → Language A
nothing a w x = (w ≡ []) × (a ≡ x)

-- behind this token
abbrev pub behind : {A : Type 0} → Lexeme → Language A → Language A
behind t L w x = (v : List Lexeme) × (w ≡ t ∷ v) × L v x

abbrev pub Some_word : {A : Type 0} → Language A → Type 0
Some_word {A} L = (w : List Lexeme) × (x : A) × L w x

-- the token in front
abbrev pub front : List Lexeme → List Lexeme
front [] = []
front (t ∷ ts) = t ∷ []

pub front_nil : (c : List Lexeme) → front c ≡ [] → c ≡ []
front_nil [] e = refl
front_nil (t ∷ c) e = cc

pub front_cons : (c : List Lexeme) (t : Lexeme) → front c ≡ t ∷ [] → (more : List Lexeme) × (c ≡ t ∷ more)
front_cons [] t e = absurd (cc)
front_cons (s ∷ c) t e = (c, cc)

pub kind_of_front : (c : List Lexeme) → kind (front c) ≡ kind c
kind_of_front [] = refl
kind_of_front (t ∷ c) = refl

pub same_kinds : (c r : List Lexeme) → front c ≡ front r → kind c ≡ kind r
same_kinds c r e = sym (kind_of_front c) ∙ ap kind e ∙ kind_of_front r

pub front_append : (v c r : List Lexeme) → front c ≡ front r → front (v ++ c) ≡ front (v ++ r)
front_append [] c r e = e
front_append (t ∷ v) c r e = refl

-- Whatever stands behind the next token, the answer is the same. A reader is given a depth and a number
-- of turns, which are enough where they are no less than the tokens; the first number is what its depth leaves out.
abbrev pub Echoes : {A : Type 0} → ℕ → (ℕ → ℕ → Parser A) → List Lexeme → (List Lexeme → Outcome A) → List Lexeme → Type 0
Echoes b P w answer r = (e m : ℕ) (c : List Lexeme) → front c ≡ front r → length (w ++ c) ≤ b + e → length (w ++ c) ≤ m → P e m (w ++ c) ≡ answer c

pub record Taken {A : Type 0} (b : ℕ) (P : ℕ → ℕ → Parser A) (L : Language A) (i : List Lexeme) (x : A) (o : List Lexeme) : Type 0 where
  pub word : List Lexeme
  pub split : i ≡ word ++ o
  pub holds : L word x
  pub echoes : Echoes b P word (λ c. Ok (x, c)) o

pub record Stuck {A : Type 0} (b : ℕ) (P : ℕ → ℕ → Parser A) (L : Language A) (i r : List Lexeme) : Type 0 where
  pub word : List Lexeme
  pub split : i ≡ word ++ r
  pub begins : (c : List Lexeme) × (x : A) × L (word ++ c) x
  pub echoes : Echoes b P word Err r

abbrev pub Meets : {A : Type 0} → ℕ → (ℕ → ℕ → Parser A) → Language A → List Lexeme → Outcome A → Type 0
Meets b P L i (Ok p) = Taken b P L i p.0 p.1
Meets b P L i (Err r) = Stuck b P L i r

pub meets_weaker : {A : Type 0} (b : ℕ) (P : ℕ → ℕ → Parser A) (L M : Language A) (i : List Lexeme) (r : Outcome A) →
    ((w : List Lexeme) (x : A) → L w x → M w x) → Meets b P L i r → Meets b P M i r
meets_weaker b P L M i (Ok p) f h = record { word = h.word; split = h.split; holds = f h.word p.0 h.holds; echoes = h.echoes }
meets_weaker b P L M i (Err r) f h =
    record { word = h.word; split = h.split; begins = (h.begins.0, h.begins.1, f (h.word ++ h.begins.0) h.begins.1 h.begins.2); echoes = h.echoes }

echoes_after : {A B : Type 0} (b : ℕ) (P : ℕ → ℕ → Parser A) (Q : A → ℕ → ℕ → Parser B) (u v o r : List Lexeme) (x : A) (answer : List Lexeme → Outcome B) →
    o ≡ v ++ r → Echoes b P u (λ c. Ok (x, c)) o → Echoes b (Q x) v answer r → Echoes b (λ e m. P e m >>= (λ y. Q y e m)) (u ++ v) answer r
echoes_after b P Q u v o r x answer split first second e m c f n k =
    let same = front_append v c r f ∙ sym (ap front split) in
    let fits : length (u ++ (v ++ c)) ≤ b + e = rw append_assoc at n in
    let turns : length (u ++ (v ++ c)) ≤ m = rw append_assoc at k in
    let less : length (v ++ c) ≤ b + e = omega (arith, length-append u (v ++ c), fits) in
    let fewer : length (v ++ c) ≤ m = omega (arith, length-append u (v ++ c), turns) in
    ap (λ z. and_then (P e m z) (λ y. Q y e m)) (append_assoc u v c)
    ∙ ap (λ z. and_then z (λ y. Q y e m)) (first e m (v ++ c) same fits turns)
    ∙ second e m c f less fewer

meets_after : {A B : Type 0} (b : ℕ) (P : ℕ → ℕ → Parser A) (Q : A → ℕ → ℕ → Parser B) (L : Language A) (M : A → Language B) (i o : List Lexeme) (x : A) (r : Outcome B) →
    Taken b P L i x o → Meets b (Q x) (M x) o r → Meets b (λ e m. P e m >>= (λ y. Q y e m)) (L ⨾ M) i r
meets_after b P Q L M i o x (Ok p) h g = record {
  word = h.word ++ g.word;
  split = h.split ∙ ap (λ z. h.word ++ z) g.split ∙ sym (append_assoc h.word g.word p.1);
  holds = (h.word, g.word, x, refl, h.holds, g.holds);
  echoes = echoes_after b P Q h.word g.word o p.1 x (λ c. Ok (p.0, c)) g.split h.echoes g.echoes;
}
meets_after b P Q L M i o x (Err r) h g = record {
  word = h.word ++ g.word;
  split = h.split ∙ ap (λ z. h.word ++ z) g.split ∙ sym (append_assoc h.word g.word r);
  begins = (g.begins.0, g.begins.1, (h.word, g.word ++ g.begins.0, x, append_assoc h.word g.word g.begins.0, h.holds, g.begins.2));
  echoes = echoes_after b P Q h.word g.word o r x Err g.split h.echoes g.echoes;
}

length_rest : (i w o : List Lexeme) → i ≡ w ++ o → length o ≤ length i
length_rest i w o e = omega (arith, ap length e, length-append w o)

pub meets_bind : {A B : Type 0} (b : ℕ) (P : ℕ → ℕ → Parser A) (Q : A → ℕ → ℕ → Parser B) (L : Language A) (M : A → Language B) (i : List Lexeme) (p : Outcome A) (q : A → Parser B) →
    ((x : A) → Some_word (M x)) → Meets b P L i p → ((x : A) (o : List Lexeme) → length o ≤ length i → Meets b (Q x) (M x) o (q x o)) →
    Meets b (λ e m. P e m >>= (λ y. Q y e m)) (L ⨾ M) i (and_then p q)
meets_bind b P Q L M i (Ok p) q some h next = meets_after b P Q L M i p.1 p.0 (q p.0 p.1) h (next p.0 p.1 (length_rest i h.word p.1 h.split))
meets_bind b P Q L M i (Err r) q some h next =
    let c = h.begins.0 in
    let x = h.begins.1 in
    record {
      word = h.word;
      split = h.split;
      begins = (c ++ (some x).0, (some x).1, (h.word ++ c, (some x).0, x, sym (append_assoc h.word c (some x).0), h.begins.2, (some x).2));
      echoes = λ e m d f n k. ap (λ z. and_then z (λ y. Q y e m)) (h.echoes e m d f n k);
    }

pub meets_pure : {A : Type 0} (b : ℕ) (a : A) (i : List Lexeme) → Meets b (λ e m. pure a) (nothing a) i (Ok (a, i))
meets_pure b a i = record { word = []; split = refl; holds = (refl, refl); echoes = λ e m c f n k. refl }

-- a token, and then what stands behind it
pub meets_first : {A : Type 0} (T : ℕ → ℕ → Parser A) (L : Language A) (t : Lexeme) (ts : List Lexeme) (r : Outcome A) →
    Meets 0 T L ts r → Meets 1 (λ e m. skip >> T e m) (behind t L) (t ∷ ts) r
meets_first T L t ts (Ok p) h =
    record { word = t ∷ h.word; split = ap (λ z. t ∷ z) h.split; holds = (h.word, refl, h.holds); echoes = λ e m c f n k. h.echoes e m c f (omega (arith, n)) (omega (arith, k)) }
meets_first T L t ts (Err r) h =
    record { word = t ∷ h.word; split = ap (λ z. t ∷ z) h.split; begins = (h.begins.0, h.begins.1, (h.word ++ h.begins.0, refl, h.begins.2)); echoes = λ e m c f n k. h.echoes e m c f (omega (arith, n)) (omega (arith, k)) }

-- a reader that goes by the kind of the next token
pub meets_by : {A : Type 0} (b : ℕ) (By : LexemeKind → ℕ → ℕ → Parser A) (L : Language A) (i : List Lexeme) (r : Outcome A) →
    Meets b (By (kind i)) L i r → Meets b (λ e m j. By (kind j) e m j) L i r
meets_by b By L i (Ok p) h =
    let seen = λ (c : List Lexeme) (f : front c ≡ front p.1). same_kinds (h.word ++ c) i (front_append h.word c p.1 f ∙ sym (ap front h.split)) in
    record { word = h.word; split = h.split; holds = h.holds; echoes = λ e m c f n turns. ap (λ k. By k e m (h.word ++ c)) (seen c f) ∙ h.echoes e m c f n turns }
meets_by b By L i (Err r) h =
    let seen = λ (c : List Lexeme) (f : front c ≡ front r). same_kinds (h.word ++ c) i (front_append h.word c r f ∙ sym (ap front h.split)) in
    record { word = h.word; split = h.split; begins = h.begins; echoes = λ e m c f n turns. ap (λ k. By k e m (h.word ++ c)) (seen c f) ∙ h.echoes e m c f n turns }

-- a token that nothing begins with
pub meets_refuse : {A : Type 0} (b : ℕ) (L : Language A) (i : List Lexeme) → Some_word L → Meets b (λ e m j. Err j) L i (Err i)
meets_refuse b L i some = record { word = []; split = refl; begins = some; echoes = λ e m c f n k. refl }

-- what is read, behind a function
abbrev pub mapped : {A B : Type 0} → (A → B) → Language A → Language B
mapped f L w y = (x : _) × L w x × (f x ≡ y)

pub meets_mapped : {A B : Type 0} (b : ℕ) (P : ℕ → ℕ → Parser A) (L : Language A) (f : A → B) (i : List Lexeme) (p : Outcome A) →
    Meets b P L i p → Meets b (λ e m. P e m >>= (λ x. pure (f x))) (mapped f L) i (and_then p (λ x. pure (f x)))
meets_mapped b P L f i (Ok p) h =
    record { word = h.word; split = h.split; holds = (p.0, h.holds, refl); echoes = λ e m c g n k. ap (λ z. and_then z (λ x. pure (f x))) (h.echoes e m c g n k) }
meets_mapped b P L f i (Err r) h = record {
  word = h.word;
  split = h.split;
  begins = (h.begins.0, f h.begins.1, (h.begins.1, h.begins.2, refl));
  echoes = λ e m c g n k. ap (λ z. and_then z (λ x. pure (f x))) (h.echoes e m c g n k);
}

-- another way to write the same reader
pub meets_as : {A : Type 0} (b : ℕ) (P Q : ℕ → ℕ → Parser A) (L : Language A) (i : List Lexeme) (r : Outcome A) →
    ((e m : ℕ) (j : List Lexeme) → length j ≤ b + e → length j ≤ m → Q e m j ≡ P e m j) → Meets b P L i r → Meets b Q L i r
meets_as b P Q L i (Ok p) same h =
    record { word = h.word; split = h.split; holds = h.holds; echoes = λ e m c f n k. same e m (h.word ++ c) n k ∙ h.echoes e m c f n k }
meets_as b P Q L i (Err r) same h =
    record { word = h.word; split = h.split; begins = h.begins; echoes = λ e m c f n k. same e m (h.word ++ c) n k ∙ h.echoes e m c f n k }

-- ---- a part that takes a token, before a part of one turn less. The second language may name the first word.

infixr 12 ◌⨟◌
abbrev pub ◌⨟◌ : {A B : Type 0} → Language A → (List Lexeme → A → Language B) → Language B
(L ⨟ M) w y = (u : List Lexeme) × (v : List Lexeme) × (x : _) × (w ≡ u ++ v) × L u x × M u x v y

turns_after : {A B : Type 0} (b : ℕ) (P : ℕ → ℕ → Parser A) (Q : A → ℕ → ℕ → Parser B) (u v o r : List Lexeme) (x : A) (answer : List Lexeme → Outcome B) →
    b ≤ 1 → 0 < length u → o ≡ v ++ r → Echoes b P u (λ c. Ok (x, c)) o → Echoes 0 (Q x) v answer r → Echoes b (λ e m. P e m >>= (λ y. Q y e (m - 1))) (u ++ v) answer r
turns_after b P Q u v o r x answer low some split first second e m c f n k =
    let same = front_append v c r f ∙ sym (ap front split) in
    let fits : length (u ++ (v ++ c)) ≤ b + e = rw append_assoc at n in
    let turns : length (u ++ (v ++ c)) ≤ m = rw append_assoc at k in
    let less : length (v ++ c) ≤ 0 + e = omega (arith, length-append u (v ++ c), fits) in
    let fewer : length (v ++ c) ≤ m - 1 = omega (arith, length-append u (v ++ c), turns) in
    ap (λ z. and_then (P e m z) (λ y. Q y e (m - 1))) (append_assoc u v c)
    ∙ ap (λ z. and_then z (λ y. Q y e (m - 1))) (first e m (v ++ c) same fits turns)
    ∙ second e (m - 1) c f less fewer

turn_after : {A B : Type 0} (b : ℕ) (P : ℕ → ℕ → Parser A) (Q : A → ℕ → ℕ → Parser B) (L : Language A) (M : List Lexeme → A → Language B) (i o : List Lexeme) (x : A) (r : Outcome B) →
    b ≤ 1 → (h : Taken b P L i x o) → 0 < length h.word → Meets 0 (Q x) (M h.word x) o r → Meets b (λ e m. P e m >>= (λ y. Q y e (m - 1))) (L ⨟ M) i r
turn_after b P Q L M i o x (Ok p) low h some g = record {
  word = h.word ++ g.word;
  split = h.split ∙ ap (λ z. h.word ++ z) g.split ∙ sym (append_assoc h.word g.word p.1);
  holds = (h.word, g.word, x, refl, h.holds, g.holds);
  echoes = turns_after b P Q h.word g.word o p.1 x (λ c. Ok (p.0, c)) low some g.split h.echoes g.echoes;
}
turn_after b P Q L M i o x (Err r) low h some g = record {
  word = h.word ++ g.word;
  split = h.split ∙ ap (λ z. h.word ++ z) g.split ∙ sym (append_assoc h.word g.word r);
  begins = (g.begins.0, g.begins.1, (h.word, g.word ++ g.begins.0, x, append_assoc h.word g.word g.begins.0, h.holds, g.begins.2));
  echoes = turns_after b P Q h.word g.word o r x Err low some g.split h.echoes g.echoes;
}

pub meets_turn : {A B : Type 0} (b : ℕ) (P : ℕ → ℕ → Parser A) (Q : A → ℕ → ℕ → Parser B) (L : Language A) (M : List Lexeme → A → Language B) (i : List Lexeme) (p : Outcome A) (q : A → Parser B) →
    b ≤ 1 → ((u : List Lexeme) (x : A) → L u x → 0 < length u) → ((u : List Lexeme) (x : A) → L u x → Some_word (M u x)) → Meets b P L i p →
    ((u o : List Lexeme) (x : A) → L u x → length o < length i → Meets 0 (Q x) (M u x) o (q x o)) →
    Meets b (λ e m. P e m >>= (λ y. Q y e (m - 1))) (L ⨟ M) i (and_then p q)
meets_turn b P Q L M i (Ok p) q low long some h next =
    let taken = long h.word p.0 h.holds in
    turn_after b P Q L M i p.1 p.0 (q p.0 p.1) low h taken (next h.word p.1 p.0 h.holds (omega (arith, ap length h.split, length-append h.word p.1)))
meets_turn b P Q L M i (Err r) q low long some h next =
    let c = h.begins.0 in
    let x = h.begins.1 in
    let word = some (h.word ++ c) x h.begins.2 in
    record {
      word = h.word;
      split = h.split;
      begins = (c ++ word.0, word.1, (h.word ++ c, word.0, x, sym (append_assoc h.word c word.0), h.begins.2, word.2));
      echoes = λ e m d f n k. ap (λ z. and_then z (λ y. Q y e (m - 1))) (h.echoes e m d f n k);
    }

-- a reader that bounds its turns by the tokens itself
pub meets_turns : {A : Type 0} (P : ℕ → ℕ → Parser A) (L : Language A) (i : List Lexeme) (r : Outcome A) → Meets 0 P L i r → Meets 0 (λ e m j. P e (length j) j) L i r
meets_turns P L i (Ok p) h =
    record { word = h.word; split = h.split; holds = h.holds; echoes = λ e m c f n k. h.echoes e (length (h.word ++ c)) c f n (le_refl (length (h.word ++ c))) }
meets_turns P L i (Err r) h =
    record { word = h.word; split = h.split; begins = h.begins; echoes = λ e m c f n k. h.echoes e (length (h.word ++ c)) c f n (le_refl (length (h.word ++ c))) }

pub meets_less : {A : Type 0} (P : ℕ → ℕ → Parser A) (L : Language A) (i : List Lexeme) (r : Outcome A) → Meets 1 P L i r → Meets 0 P L i r
meets_less P L i (Ok p) h = record { word = h.word; split = h.split; holds = h.holds; echoes = λ e m c f n k. h.echoes e m c f (omega (arith, n)) k }
meets_less P L i (Err r) h = record { word = h.word; split = h.split; begins = h.begins; echoes = λ e m c f n k. h.echoes e m c f (omega (arith, n)) k }

-- a reader that goes by the kind of the token behind the first
pub meets_first_if : {A : Type 0} (Q T : ℕ → ℕ → Parser A) (L : Language A) (t : Lexeme) (ts : List Lexeme) (r : Outcome A) →
    ((e m : ℕ) (j : List Lexeme) → kind j ≡ kind ts → Q e m (t ∷ j) ≡ T e m j) → Meets 0 T L ts r → Meets 1 Q (behind t L) (t ∷ ts) r
meets_first_if Q T L t ts (Ok p) same h =
    let seen = λ (c : List Lexeme) (f : front c ≡ front p.1). same_kinds (h.word ++ c) ts (front_append h.word c p.1 f ∙ sym (ap front h.split)) in
    record {
      word = t ∷ h.word;
      split = ap (λ z. t ∷ z) h.split;
      holds = (h.word, refl, h.holds);
      echoes = λ e m c f n k. same e m (h.word ++ c) (seen c f) ∙ h.echoes e m c f (omega (arith, n)) (omega (arith, k));
    }
meets_first_if Q T L t ts (Err r) same h =
    let seen = λ (c : List Lexeme) (f : front c ≡ front r). same_kinds (h.word ++ c) ts (front_append h.word c r f ∙ sym (ap front h.split)) in
    record {
      word = t ∷ h.word;
      split = ap (λ z. t ∷ z) h.split;
      begins = (h.begins.0, h.begins.1, (h.word ++ h.begins.0, refl, h.begins.2));
      echoes = λ e m c f n k. same e m (h.word ++ c) (seen c f) ∙ h.echoes e m c f (omega (arith, n)) (omega (arith, k));
    }

-- another reader that answers the same on tokens that begin alike
pub meets_alike : {A : Type 0} (b : ℕ) (P Q : ℕ → ℕ → Parser A) (L : Language A) (i : List Lexeme) (r : Outcome A) →
    ((e m : ℕ) (j : List Lexeme) → kind j ≡ kind i → length j ≤ b + e → length j ≤ m → Q e m j ≡ P e m j) → Meets b P L i r → Meets b Q L i r
meets_alike b P Q L i (Ok p) same h =
    let seen = λ (c : List Lexeme) (f : front c ≡ front p.1). same_kinds (h.word ++ c) i (front_append h.word c p.1 f ∙ sym (ap front h.split)) in
    record { word = h.word; split = h.split; holds = h.holds; echoes = λ e m c f n k. same e m (h.word ++ c) (seen c f) n k ∙ h.echoes e m c f n k }
meets_alike b P Q L i (Err r) same h =
    let seen = λ (c : List Lexeme) (f : front c ≡ front r). same_kinds (h.word ++ c) i (front_append h.word c r f ∙ sym (ap front h.split)) in
    record { word = h.word; split = h.split; begins = h.begins; echoes = λ e m c f n k. same e m (h.word ++ c) (seen c f) n k ∙ h.echoes e m c f n k }
