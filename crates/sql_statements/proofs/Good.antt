-- Readers that do what a language says: they read its words, they stop where none of its words goes on or where an
-- outermost expression is too long, and their answer depends on no token behind the next one.
use Rattle.std.proofs.Common.{◌≡◌, ◌≢◌, ℕ, ◌+◌, ◌-◌, ◌≤◌, ◌<◌, le_refl, Bool, true, false, cond, if◌then◌else◌, List, [], ◌∷◌, ◌++◌, length, Option, Some, None, Ok, Err, refl, sym, ap, ◌∙◌, subst, append_assoc, append-nil, arith, length-append, ◌⊎◌, inl, inr, ⊎_elim}
use Rattle.sql_tree.specs.declared.expr.SqlExpr.{SqlExpr}
use Rattle.sql_tree.specs.declared.lexeme.LexemeKind.TheVariants as k
use Rattle.sql_tree.specs.declared.lexeme.Lexeme.{Lexeme}
use Rattle.sql_tree.specs.Lexemes.{kind}
use Rattle.sql_phrases.specs.Parsers.{next}
use Rattle.sql_phrases.proofs.Phrases.{front, front_append}
use Rattle.sql_phrases.proofs.Terminals.{alike}
use Rattle.sql_expr.specs.Operators.{binds}
use Rattle.sql_expr.specs.Grammar.{IsExpr, BeginsExpr}
use Rattle.sql_expr.proofs.Reading.{nonempty, no_star}
use Rattle.sql_statements.specs.declared.error.ParseError.{ParseError}
use Rattle.sql_statements.specs.declared.error.ParseError.TheVariants.{Memory, Unexpected, TooLong}
use Rattle.sql_statements.specs.Languages.{Language, one, nothing, either, ◌>>=◌ as ◌⨾◌}
use Rattle.sql_statements.specs.Parsers.{Outcome, Parser, and_then, ◌>>=◌, pure, some_token, of_next, token, begins, choose}
use Rattle.sql_statements.specs.Limits.{max_tokens, IsShort, IsMarked, mark, AreTokens, unlimited, limited, IsFull, Cut}
use Rattle.sql_statements.proofs.Marks.{tokens_before, tokens_behind, only_mark, not_empty, place, same_before, front_more}

-- a language over the language of the outermost expressions
abbrev pub Over : Type 0 → Type 1
Over A = Language SqlExpr → Language A

abbrev pub Wider : Language SqlExpr → Language SqlExpr → Type 0
Wider X Y = (w : List Lexeme) (x : SqlExpr) → X w x → Y w x

pub short_wider : Wider IsShort IsShort
short_wider w x h = h

pub marked_wider : Wider IsShort IsMarked
marked_wider w x h = inl h

-- ---- what a reader did

-- a beginning of an expression that has not more than the most tokens
abbrev pub IsOpen : List Lexeme → Type 0
IsOpen v = BeginsExpr v × (length v ≤ max_tokens)

-- a beginning whose outermost expressions are within the limit so far
abbrev pub Begun : {A : Type 0} → (Language SqlExpr → Language A) → List Lexeme → Type 0
Begun {A} L w = ((more : List Lexeme) × (x : A) × L IsShort (w ++ more) x) ⊎ Cut L IsOpen w

-- Whatever stands behind the next token, the answer is the same. The number is of turns, which are enough where they are
-- no less than the tokens.
abbrev pub Echoes : {A : Type 0} → (ℕ → Parser A) → List Lexeme → (List Lexeme → Outcome A) → List Lexeme → Type 0
Echoes P w answer r = (m : ℕ) (c : List Lexeme) → front c ≡ front r → length (w ++ c) ≤ m → P m (w ++ c) ≡ answer c

pub record Taken {A : Type 0} (P : ℕ → Parser A) (L : Over A) (i : List Lexeme) (x : A) (o : List Lexeme) : Type 0 where
  pub word : List Lexeme
  pub split : i ≡ word ++ o
  pub holds : L IsShort word x
  pub echoes : Echoes P word (λ c. Ok (x, c)) o

-- why it stops: where no word goes on, the tokens before begin one; where an expression is too long, it has the most tokens
abbrev pub Why : {A : Type 0} → ParseError → Over A → List Lexeme → List Lexeme → Type 0
Why Memory L w r = ⊥
Why Unexpected L w r = Begun L w
Why TooLong L w r = Cut L (IsFull r) w

pub record Halted {A : Type 0} (P : ℕ → Parser A) (L : Over A) (i : List Lexeme) (f : ParseError) (r : List Lexeme) : Type 0 where
  pub word : List Lexeme
  pub split : i ≡ word ++ r
  pub why : Why f L word r
  pub echoes : f ≡ Unexpected → Echoes P word (λ c. Err (Unexpected, c)) r

abbrev pub Meets : {A : Type 0} → (ℕ → Parser A) → Over A → List Lexeme → Outcome A → Type 0
Meets P L i (Ok p) = Taken P L i p.0 p.1
Meets P L i (Err q) = Halted P L i q.0 q.1

-- ---- languages inside others

-- words of the first stand in words of the second, behind these tokens
abbrev Inside : {A B : Type 0} → Over A → Over B → List Lexeme → Type 1
Inside {A} {B} L M pre = (Y : Language SqlExpr) → Wider IsShort Y → (w : List Lexeme) (x : A) → L Y w x → (more : List Lexeme) × (y : B) × M Y (pre ++ (w ++ more)) y

three : (a b c d : List Lexeme) → a ++ ((b ++ c) ++ d) ≡ (a ++ b) ++ (c ++ d)
three a b c d = simp append_assoc

cut_inside : {A B : Type 0} (L : Over A) (M : Over B) (Q : List Lexeme → Type 0) (pre w : List Lexeme) → Inside L M pre → Cut L Q w → Cut M Q (pre ++ w)
cut_inside L M Q pre w inside g =
    let h = inside IsMarked marked_wider (g.0 ++ mark ∷ g.2) g.3 g.6 in
    (pre ++ g.0, g.1, g.2 ++ h.0, h.1, ap (λ z. pre ++ z) g.4 ∙ sym (append_assoc pre g.0 g.1), g.5, subst (λ z. M IsMarked z h.1) (three pre g.0 (mark ∷ g.2) h.0) h.2)

begun_inside : {A B : Type 0} (L : Over A) (M : Over B) (pre w : List Lexeme) → Inside L M pre → Begun L w → Begun M (pre ++ w)
begun_inside L M pre w inside (inl g) =
    let h = inside IsShort short_wider (w ++ g.0) g.1 g.2 in
    inl (g.0 ++ h.0, h.1, subst (λ z. M IsShort z h.1) (three pre w g.0 h.0) h.2)
begun_inside L M pre w inside (inr g) = inr (cut_inside L M IsOpen pre w inside g)

pub why_inside : {A B : Type 0} (f : ParseError) (L : Over A) (M : Over B) (pre w r : List Lexeme) → Inside L M pre → Why f L w r → Why f M (pre ++ w) r
why_inside Memory L M pre w r inside h = h
why_inside Unexpected L M pre w r inside h = begun_inside L M pre w inside h
why_inside TooLong L M pre w r inside h = cut_inside L M (IsFull r) pre w inside h

-- ---- one after the other

length_after : (u v c : List Lexeme) (m : ℕ) → length ((u ++ v) ++ c) ≤ m → (length (u ++ (v ++ c)) ≤ m) × (length (v ++ c) ≤ m)
length_after u v c m h = let same = ap length (append_assoc u v c) in (omega (arith), omega (arith, length-append u (v ++ c)))

meets_after : {A B : Type 0} (P : ℕ → Parser A) (Q : A → ℕ → Parser B) (L : Over A) (M : A → Over B) (i o : List Lexeme) (x : A) (r : Outcome B) →
    Taken P L i x o → Meets (Q x) (M x) o r → ((X Y : Language SqlExpr) → Wider X Y → (w : List Lexeme) (x : A) → L X w x → L Y w x) →
    Meets (λ m. P m >>= (λ y. Q y m)) (λ X. L X ⨾ (λ y. M y X)) i r
meets_after P Q L M i o x (Ok p) h g wider = record {
  word = h.word ++ g.word;
  split = h.split ∙ ap (λ z. h.word ++ z) g.split ∙ sym (append_assoc h.word g.word p.1);
  holds = (h.word, g.word, x, refl, h.holds, g.holds);
  echoes = λ m c f n.
      let fits = length_after h.word g.word c m n in
      ap (λ z. and_then (P m z) (λ y. Q y m)) (append_assoc h.word g.word c)
      ∙ ap (λ z. and_then z (λ y. Q y m)) (h.echoes m (g.word ++ c) (front_append g.word c p.1 f ∙ sym (ap front g.split)) fits.0)
      ∙ g.echoes m c f fits.1;
}
meets_after P Q L M i o x (Err q) h g wider = record {
  word = h.word ++ g.word;
  split = h.split ∙ ap (λ z. h.word ++ z) g.split ∙ sym (append_assoc h.word g.word q.1);
  why = why_inside q.0 (M x) (λ X. L X ⨾ (λ y. M y X)) h.word g.word q.1
      (λ Y wide w y held. ([], y, (h.word, w, x, ap (λ z. h.word ++ z) (append-nil w), wider IsShort Y wide h.word x h.holds, held))) g.why;
  echoes = λ is m c f n.
      let fits = length_after h.word g.word c m n in
      ap (λ z. and_then (P m z) (λ y. Q y m)) (append_assoc h.word g.word c)
      ∙ ap (λ z. and_then z (λ y. Q y m)) (h.echoes m (g.word ++ c) (front_append g.word c q.1 f ∙ sym (ap front g.split)) fits.0)
      ∙ g.echoes is m c f fits.1;
}

pub meets_bind : {A B : Type 0} (P : ℕ → Parser A) (Q : A → ℕ → Parser B) (L : Over A) (M : A → Over B) (i : List Lexeme) (p : Outcome A) (q : A → Parser B) →
    ((X Y : Language SqlExpr) → Wider X Y → (w : List Lexeme) (x : A) → L X w x → L Y w x) →
    ((x : A) (Y : Language SqlExpr) → Wider IsShort Y → (w : List Lexeme) × (y : B) × M x Y w y) →
    Meets P L i p → ((x : A) (u o : List Lexeme) → i ≡ u ++ o → L IsShort u x → Meets (Q x) (M x) o (q x o)) →
    Meets (λ m. P m >>= (λ y. Q y m)) (λ X. L X ⨾ (λ y. M y X)) i (and_then p q)
meets_bind P Q L M i (Ok p) q wider some h after = meets_after P Q L M i p.1 p.0 (q p.0 p.1) h (after p.0 h.word p.1 h.split h.holds) wider
meets_bind P Q L M i (Err r) q wider some h after = record {
  word = h.word;
  split = h.split;
  why = why_inside r.0 L (λ X. L X ⨾ (λ y. M y X)) [] h.word r.1
      (λ Y wide w x held. let s = some x Y wide in (s.0, s.1, (w, s.0, x, refl, held, s.2))) h.why;
  echoes = λ is m c f n. ap (λ z. and_then z (λ y. Q y m)) (h.echoes is m c f n);
}

-- another way to write the same reader, where the tokens begin alike
pub meets_alike : {A : Type 0} (P Q : ℕ → Parser A) (L : Over A) (i : List Lexeme) (r : Outcome A) →
    ((m : ℕ) (j : List Lexeme) → front j ≡ front i → length j ≤ m → Q m j ≡ P m j) → Meets P L i r → Meets Q L i r
meets_alike P Q L i (Ok p) same h = record {
  word = h.word;
  split = h.split;
  holds = h.holds;
  echoes = λ m c f n. same m (h.word ++ c) (front_append h.word c p.1 f ∙ sym (ap front h.split)) n ∙ h.echoes m c f n;
}
meets_alike P Q L i (Err q) same h = record {
  word = h.word;
  split = h.split;
  why = h.why;
  echoes = λ is m c f n. same m (h.word ++ c) (front_append h.word c q.1 f ∙ sym (ap front h.split)) n ∙ h.echoes is m c f n;
}

-- in a language with more words
pub meets_weaker : {A : Type 0} (P : ℕ → Parser A) (L M : Over A) (i : List Lexeme) (r : Outcome A) →
    ((X : Language SqlExpr) (w : List Lexeme) (x : A) → L X w x → M X w x) → Meets P L i r → Meets P M i r
meets_weaker P L M i (Ok p) f h = record { word = h.word; split = h.split; holds = f IsShort h.word p.0 h.holds; echoes = h.echoes }
meets_weaker P L M i (Err q) f h = record {
  word = h.word;
  split = h.split;
  why = why_inside q.0 L M [] h.word q.1 (λ Y wide w x held. ([], x, subst (λ z. M Y z x) (sym (append-nil w)) (f Y w x held))) h.why;
  echoes = h.echoes;
}

-- ---- a reader of outermost expressions without the limit does the same, unless one is too long

abbrev pub IsLong : {A : Type 0} → Outcome A → Type 0
IsLong r = (o : List Lexeme) × (r ≡ Err (TooLong, o))

abbrev pub Agrees : {A : Type 0} → Outcome A → Outcome A → Type 0
Agrees r s = (r ≡ s) ⊎ IsLong r

pub agrees_bind : {A B : Type 0} (r s : Outcome A) (p q : A → Parser B) → Agrees r s → ((x : A) (o : List Lexeme) → Agrees (p x o) (q x o)) → Agrees (and_then r p) (and_then s q)
agrees_bind (Ok t) s p q (inl e) after =
    ⊎_elim (λ h. inl (h ∙ ap (λ z. and_then z q) e)) (λ h. inr h) (after t.0 t.1)
agrees_bind (Err t) s p q (inl e) after = inl (ap (λ z. and_then z q) e)
agrees_bind r s p q (inr g) after = inr (g.0, ap (λ z. and_then z p) g.1)

-- ---- all of it

-- no expression is empty or begins with a star
abbrev pub Proper : Language SqlExpr → Type 0
Proper X = (w : List Lexeme) (x : SqlExpr) → X w x → (0 < length w) × (kind w ≢ k.Star)

-- it reads the words of the language of outermost expressions
abbrev pub Completes : Parser SqlExpr → Language SqlExpr → Type 0
Completes E X = ((w o : List Lexeme) (x : SqlExpr) → X w x → binds (kind o) < 1 → E (w ++ o) ≡ Ok (x, o)) × Proper X

-- ---- where an expression stands at the mark

pub short_in : Wider IsShort IsExpr
short_in w x h = h.0

pub exprs_proper : Proper IsExpr
exprs_proper w x h = (nonempty h, no_star h)

-- words without a mark
abbrev pub Plain : {A : Type 0} → Over A → Type 0
Plain {A} L = (w : List Lexeme) (x : A) → AreTokens w → L IsMarked w x → L IsShort w x

-- tokens and then this expression begin a word
abbrev pub Filled : {A : Type 0} → Over A → List Lexeme → List Lexeme → Type 0
Filled {A} L u e = (rest : List Lexeme) × (z : A) × L IsExpr (u ++ (e ++ rest)) z

-- where the first mark stands any expression may stand
abbrev pub Fills : {A : Type 0} → Over A → Type 0
Fills {A} L = (u more : List Lexeme) (x : A) → AreTokens u → L IsMarked (u ++ mark ∷ more) x → (e : List Lexeme) (y : SqlExpr) → IsExpr e y → Filled L u e

-- Behind the tokens before the first mark the reader reads an outermost expression: it stops where that one does, if the
-- next token begins an expression.
abbrev pub Reaches : {A : Type 0} → Parser A → Over A → (List Lexeme → Type 0) → Type 0
Reaches {A} P L F =
    Completes limited IsShort → (u more : List Lexeme) (x : A) → AreTokens u → L IsMarked (u ++ mark ∷ more) x → (o : List Lexeme) → F o →
    (i e : List Lexeme) (y : SqlExpr) → IsExpr e y → front i ≡ front e → (q : ParseError × List Lexeme) → limited i ≡ Err q → P (u ++ i) ≡ Err q

-- The last is what may follow.
pub record Good {A : Type 0} (P : Parser SqlExpr → Parser A) (L : Over A) (F : List Lexeme → Type 0) : Type 1 where
  pub completes : (E : Parser SqlExpr) (X : Language SqlExpr) → Completes E X → (w o : List Lexeme) (x : A) → L X w x → F o → P E (w ++ o) ≡ Ok (x, o)
  pub meets : (i : List Lexeme) → Meets (λ m. P limited) L i (P limited i)
  pub agrees : (i : List Lexeme) → Agrees (P limited i) (P unlimited i)
  pub some : (w : List Lexeme) × (x : A) × L IsShort w x
  pub wider : (X Y : Language SqlExpr) → Wider X Y → (w : List Lexeme) (x : A) → L X w x → L Y w x
  pub plain : Plain L
  pub fills : Fills L
  pub reaches : Reaches (P limited) L F

abbrev pub Any : List Lexeme → Type 0
Any o = Unit {0}

pub some_in : {A : Type 0} (P : Parser SqlExpr → Parser A) (L : Over A) (F : List Lexeme → Type 0) → Good P L F → (Y : Language SqlExpr) → Wider IsShort Y → (w : List Lexeme) × (x : A) × L Y w x
some_in P L F g Y wide = (g.some.0, g.some.1, g.wider IsShort Y wide g.some.0 g.some.1 g.some.2)

-- ---- the first mark, in one word after another

pub plain_bind : {A B : Type 0} (L : Over A) (M : A → Over B) → Plain L → ((x : A) → Plain (M x)) → Plain (λ X. L X ⨾ (λ y. M y X))
plain_bind L M g h w y tokens held =
    let parts : AreTokens (held.0 ++ held.1) = subst AreTokens held.3 tokens in
    (held.0, held.1, held.2, held.3, g held.0 held.2 (tokens_before held.0 held.1 parts) held.4, h held.2 held.1 y (tokens_behind held.0 held.1 parts) held.5)

pub fills_bind : {A B : Type 0} (L : Over A) (M : A → Over B) → ((X Y : Language SqlExpr) → Wider X Y → (w : List Lexeme) (x : A) → L X w x → L Y w x) → Plain L → Fills L →
    ((x : A) → Fills (M x)) → ((x : A) (Y : Language SqlExpr) → Wider IsShort Y → (w : List Lexeme) × (y : B) × M x Y w y) → Fills (λ X. L X ⨾ (λ y. M y X))
fills_bind {A} {B} L M wider plain fills later some u more y tokens held e t is = ⊎_elim first second (place u more held.0 held.1 mark held.3)
  where
    first : ((r : List Lexeme) × (held.0 ≡ u ++ mark ∷ r) × (more ≡ r ++ held.1)) → Filled (λ X. L X ⨾ (λ y. M y X)) u e
    first (r, p_is, more_is) =
        let f = fills u r held.2 tokens (subst (λ z. L IsMarked z held.2) p_is held.4) e t is in
        let s = some f.1 IsExpr short_in in
        let split : u ++ (e ++ (f.0 ++ s.0)) ≡ (u ++ (e ++ f.0)) ++ s.0 = simp append_assoc in
        (f.0 ++ s.0, s.1, (u ++ (e ++ f.0), s.0, f.1, split, f.2, s.2))

    second : ((r : List Lexeme) × (u ≡ held.0 ++ r) × (held.1 ≡ r ++ mark ∷ more)) → Filled (λ X. L X ⨾ (λ y. M y X)) u e
    second (r, u_is, q_is) =
        let parts : AreTokens (held.0 ++ r) = subst AreTokens u_is tokens in
        let f = later held.2 r more y (tokens_behind held.0 r parts) (subst (λ z. M held.2 IsMarked z y) q_is held.5) e t is in
        (f.0, f.1, (held.0, r ++ (e ++ f.0), held.2, ap (λ z. z ++ (e ++ f.0)) u_is ∙ append_assoc held.0 r (e ++ f.0), wider IsShort IsExpr short_in held.0 held.2 (plain held.0 held.2 (tokens_before held.0 r parts) held.4), f.2))

-- the reader's answer is the same whatever stands behind the next token
again : {A : Type 0} (P : Parser A) (L : Over A) (p c d : List Lexeme) (x : A) → Meets (λ m. P) L (p ++ c) (P (p ++ c)) → P (p ++ c) ≡ Ok (x, c) → front d ≡ front c → P (p ++ d) ≡ Ok (x, d)
again P L p c d x meets ok f =
    let t : Taken (λ m. P) L (p ++ c) x c = subst (Meets (λ m. P) L (p ++ c)) ok meets in
    ap (λ z. P (z ++ d)) (sym (same_before p t.word c t.split)) ∙ t.echoes (length (t.word ++ d)) d f (le_refl (length (t.word ++ d)))

pub ahead : (r i e rest o : List Lexeme) → 0 < length e → front i ≡ front e → front (r ++ i) ≡ front ((r ++ (e ++ rest)) ++ o)
ahead r i e rest o some f =
    let split : (r ++ (e ++ rest)) ++ o ≡ r ++ (e ++ (rest ++ o)) = simp append_assoc in
    front_append r i (e ++ (rest ++ o)) (f ∙ sym (front_more e (rest ++ o) some)) ∙ sym (ap front split)

pub reaches_bind : {A B : Type 0} (P : Parser SqlExpr → Parser A) (Q : A → Parser B) (L : Over A) (M : A → Over B) (F G : List Lexeme → Type 0) → Good P L F → ((x : A) → Fills (M x)) →
    ((X : Language SqlExpr) (x : A) (o : List Lexeme) → G o → (v : List Lexeme) (y : B) → M x X v y → F (v ++ o)) → Completes limited IsShort →
    (u more : List Lexeme) (y : B) → AreTokens u → (L IsMarked ⨾ (λ x. M x IsMarked)) (u ++ mark ∷ more) y → (o : List Lexeme) → G o →
    (i e : List Lexeme) (t : SqlExpr) → IsExpr e t → front i ≡ front e → (q : ParseError × List Lexeme) → limited i ≡ Err q →
    ((x : A) (p r : List Lexeme) → u ≡ p ++ r → M x IsMarked (r ++ mark ∷ more) y → Q x (r ++ i) ≡ Err q) → and_then (P limited (u ++ i)) Q ≡ Err q
reaches_bind P Q L M F G g fills follows all u more y tokens held o fits i e t is f q stops later = ⊎_elim first second (place u more held.0 held.1 mark held.3)
  where
    first : ((r : List Lexeme) × (held.0 ≡ u ++ mark ∷ r) × (more ≡ r ++ held.1)) → and_then (P limited (u ++ i)) Q ≡ Err q
    first (r, p_is, more_is) =
        ap (λ z. and_then z Q)
        (g.reaches all u r held.2 tokens (subst (λ z. L IsMarked z held.2) p_is held.4) (held.1 ++ o) (follows IsMarked held.2 o fits held.1 y held.5) i e t is f q stops)

    second : ((r : List Lexeme) × (u ≡ held.0 ++ r) × (held.1 ≡ r ++ mark ∷ more)) → and_then (P limited (u ++ i)) Q ≡ Err q
    second (r, u_is, q_is) =
        let parts : AreTokens (held.0 ++ r) = subst AreTokens u_is tokens in
        let inside = subst (λ z. M held.2 IsMarked z y) q_is held.5 in
        let w = fills held.2 r more y (tokens_behind held.0 r parts) inside e t is in
        let c = (r ++ (e ++ w.0)) ++ o in
        let read = g.completes limited IsShort all held.0 c held.2 (g.plain held.0 held.2 (tokens_before held.0 r parts) held.4) (follows IsExpr held.2 o fits (r ++ (e ++ w.0)) w.1 w.2) in
        ap (λ z. and_then (P limited z) Q) (ap (λ z. z ++ i) u_is ∙ append_assoc held.0 r i)
        ∙ ap (λ z. and_then z Q) (again (P limited) L held.0 c (r ++ i) held.2 (g.meets (held.0 ++ c)) read (ahead r i e w.0 o (nonempty is) f))
        ∙ later held.2 held.0 r u_is inside

pub good_bind : {A B : Type 0} (P : Parser SqlExpr → Parser A) (Q : A → Parser SqlExpr → Parser B) (L : Over A) (M : A → Over B) (F G : List Lexeme → Type 0) →
    Good P L F → ((x : A) → Good (Q x) (M x) G) → ((X : Language SqlExpr) (x : A) (o : List Lexeme) → G o → (v : List Lexeme) (y : B) → M x X v y → F (v ++ o)) →
    Good (λ E. P E >>= (λ x. Q x E)) (λ X. L X ⨾ (λ x. M x X)) G
good_bind P Q L M F G g h follows = record {
  completes = λ E X e w o y held fits.
      ap (λ z. (P E >>= (λ x. Q x E)) (z ++ o)) held.3
      ∙ ap (λ z. and_then (P E z) (λ x. Q x E)) (append_assoc held.0 held.1 o)
      ∙ ap (λ z. and_then z (λ x. Q x E)) (g.completes E X e held.0 (held.1 ++ o) held.2 held.4 (follows X held.2 o fits held.1 y held.5))
      ∙ (h held.2).completes E X e held.1 o y held.5 fits;
  meets = λ i. meets_bind (λ m. P limited) (λ x m. Q x limited) L M i (P limited i) (λ x. Q x limited) g.wider (λ x Y wide. some_in (Q x) (M x) G (h x) Y wide) (g.meets i)
      (λ x u o e held. (h x).meets o);
  agrees = λ i. agrees_bind (P limited i) (P unlimited i) (λ x. Q x limited) (λ x. Q x unlimited) (g.agrees i) (λ x o. (h x).agrees o);
  some = (g.some.0 ++ (h g.some.1).some.0, (h g.some.1).some.1, (g.some.0, (h g.some.1).some.0, g.some.1, refl, g.some.2, (h g.some.1).some.2));
  wider = λ X Y wide w y held. (held.0, held.1, held.2, held.3, g.wider X Y wide held.0 held.2 held.4, (h held.2).wider X Y wide held.1 y held.5);
  plain = plain_bind L M g.plain (λ x. (h x).plain);
  fills = fills_bind L M g.wider g.plain g.fills (λ x. (h x).fills) (λ x Y wide. some_in (Q x) (M x) G (h x) Y wide);
  reaches = λ all u more y tokens held o fits i e t is f q stops.
      reaches_bind P (λ x. Q x limited) L M F G g (λ x. (h x).fills) follows all u more y tokens held o fits i e t is f q stops
      (λ x p r split inside. (h x).reaches all r more y (tokens_behind p r (subst AreTokens split tokens)) inside o fits i e t is f q stops);
}

pub good_pure : {A : Type 0} (a : A) (F : List Lexeme → Type 0) → Good (λ E. pure a) (λ X. nothing a) F
good_pure a F = record {
  completes = λ E X e w o x held fits. ap (λ z. Ok (a, z ++ o)) held.0 ∙ ap (λ z. Ok (z, o)) held.1;
  meets = λ i. record { word = []; split = refl; holds = (refl, refl); echoes = λ m c f n. refl };
  agrees = λ i. inl refl;
  some = ([], a, (refl, refl));
  wider = λ X Y wide w x held. held;
  plain = λ w x tokens held. held;
  fills = λ u more x tokens held e t is. absurd (not_empty u more held.0);
  reaches = λ all u more x tokens held o fits i e t is f q stops. absurd (not_empty u more held.0);
}

-- where fewer tokens may follow, and in another way to write it
pub good_as : {A : Type 0} (P Q : Parser SqlExpr → Parser A) (L M : Over A) (F G : List Lexeme → Type 0) → Good P L F →
    ((E : Parser SqlExpr) (i : List Lexeme) → Q E i ≡ P E i) → ((X : Language SqlExpr) (w : List Lexeme) (x : A) → L X w x → M X w x) →
    ((X : Language SqlExpr) (w : List Lexeme) (x : A) → M X w x → L X w x) → ((o : List Lexeme) → G o → F o) → Good Q M G
good_as P Q L M F G g same to from less = record {
  completes = λ E X e w o x held fits. same E (w ++ o) ∙ g.completes E X e w o x (from X w x held) (less o fits);
  meets = λ i. subst (λ r. Meets (λ m. Q limited) M i r) (sym (same limited i))
      (meets_alike (λ m. P limited) (λ m. Q limited) M i (P limited i) (λ m j f n. same limited j) (meets_weaker (λ m. P limited) L M i (P limited i) to (g.meets i)));
  agrees = λ i. subst (λ r. Agrees r (Q unlimited i)) (sym (same limited i)) (subst (λ r. Agrees (P limited i) r) (sym (same unlimited i)) (g.agrees i));
  some = (g.some.0, g.some.1, to IsShort g.some.0 g.some.1 g.some.2);
  wider = λ X Y wide w x held. to Y w x (g.wider X Y wide w x (from X w x held));
  plain = λ w x tokens held. to IsShort w x (g.plain w x tokens (from IsMarked w x held));
  fills = λ u more x tokens held e t is.
      let w = g.fills u more x tokens (from IsMarked (u ++ mark ∷ more) x held) e t is in
      (w.0, w.1, to IsExpr (u ++ (e ++ w.0)) w.1 w.2);
  reaches = λ all u more x tokens held o fits i e t is f q stops.
      same limited (u ++ i) ∙ g.reaches all u more x tokens (from IsMarked (u ++ mark ∷ more) x held) o (less o fits) i e t is f q stops;
}

-- ---- one token

token_some : {A : Type 0} (f : Lexeme → Option A) (t : Lexeme) (ts : List Lexeme) (x : A) → f t ≡ Some x → token f (t ∷ ts) ≡ Ok (x, ts)
unfolding token
token_some f t ts x h = ap (λ z. some_token z (t ∷ ts)) h

token_none : {A : Type 0} (f : Lexeme → Option A) (i : List Lexeme) → of_next f i ≡ None → token f i ≡ Err (Unexpected, i)
unfolding token
token_none f i h = ap (λ z. some_token z i) h

next_same : {A : Type 0} (f : Lexeme → Option A) (c r : List Lexeme) → front c ≡ front r → of_next f c ≡ of_next f r
next_same f [] [] e = refl
next_same f [] (t ∷ r) e = absurd (cc)
next_same f (s ∷ c) [] e = absurd (cc)
next_same f (s ∷ c) (t ∷ r) e = let same : s ≡ t = cc in ap f same

meets_token_by : {A : Type 0} (f : Lexeme → Option A) (s : Lexeme) (a : A) → f s ≡ Some a → (i : List Lexeme) (found : Option A) → of_next f i ≡ found →
    Meets (λ m. token f) (λ X. one f) i (some_token found i)
meets_token_by f s a hs [] (Some x) h = absurd (cc)
meets_token_by f s a hs (t ∷ ts) (Some x) h = record { word = t ∷ []; split = refl; holds = (t, refl, h); echoes = λ m c g n. token_some f t c x h }
meets_token_by f s a hs i None h = record {
  word = [];
  split = refl;
  why = inl (s ∷ [], a, (s, refl, hs));
  echoes = λ is m c g n. token_none f c (next_same f c i g ∙ h);
}

token_is : {A : Type 0} (f : Lexeme → Option A) (i : List Lexeme) → token f i ≡ some_token (of_next f i) i
unfolding token
token_is f i = refl

no_token : {A : Type 0} (f : Lexeme → Option A) (u more : List Lexeme) (x : A) → f mark ≡ None → one f (u ++ mark ∷ more) x → ⊥
no_token f u more x never held =
    let only = only_mark u more held.0 held.1 in
    let some = ap f (sym only.1) ∙ held.2 in
    cc

-- a token of which the function has a value, with one such token
pub good_token : {A : Type 0} (f : Lexeme → Option A) (s : Lexeme) (a : A) → f s ≡ Some a → f mark ≡ None → (F : List Lexeme → Type 0) → Good (λ E. token f) (λ X. one f) F
good_token f s a hs never F = record {
  completes = λ E X e w o x held fits. ap (λ z. token f (z ++ o)) held.1 ∙ token_some f held.0 o x held.2;
  meets = λ i. subst (λ r. Meets (λ m. token f) (λ X. one f) i r) (sym (token_is f i)) (meets_token_by f s a hs i (of_next f i) refl);
  agrees = λ i. inl refl;
  some = (s ∷ [], a, (s, refl, hs));
  wider = λ X Y wide w x held. held;
  plain = λ w x tokens held. held;
  fills = λ u more x tokens held e t is. absurd (no_token f u more x never held);
  reaches = λ all u more x tokens held o fits i e t is g q stops. absurd (no_token f u more x never held);
}

-- ---- one or the other

begins_same : (test : Lexeme → Bool) (c r : List Lexeme) → front c ≡ front r → begins test c ≡ begins test r
begins_same test [] [] e = refl
begins_same test [] (t ∷ r) e = absurd (cc)
begins_same test (s ∷ c) [] e = absurd (cc)
begins_same test (s ∷ c) (t ∷ r) e = let same : s ≡ t = cc in ap test same

begins_more : (test : Lexeme → Bool) (w o : List Lexeme) → begins test w ≡ true → begins test (w ++ o) ≡ true
begins_more test [] o h = absurd (cc)
begins_more test (t ∷ w) o h = h

meets_choose_by : {A : Type 0} (test : Lexeme → Bool) (P Q : Parser A) (L M : Over A) (i : List Lexeme) (b : Bool) → begins test i ≡ b →
    Meets (λ m. P) L i (P i) → Meets (λ m. Q) M i (Q i) → Meets (λ m. choose test P Q) (λ X. either (L X) (M X)) i (if b then P i else Q i)
meets_choose_by test P Q L M i true h first second =
    meets_alike (λ m. P) (λ m. choose test P Q) _ i _ (λ m j f n. ap (λ b. cond b (P j) (Q j)) (begins_same test j i f ∙ h))
    (meets_weaker (λ m. P) L (λ X. either (L X) (M X)) i _ (λ X w x held. inl held) first)
meets_choose_by test P Q L M i false h first second =
    meets_alike (λ m. Q) (λ m. choose test P Q) _ i _ (λ m j f n. ap (λ b. cond b (P j) (Q j)) (begins_same test j i f ∙ h))
    (meets_weaker (λ m. Q) M (λ X. either (L X) (M X)) i _ (λ X w x held. inr held) second)

agrees_choose : {A : Type 0} (b : Bool) (p q r s : Outcome A) → Agrees p r → Agrees q s → Agrees (if b then p else q) (if b then r else s)
agrees_choose true p q r s g h = g
agrees_choose false p q r s g h = h

fills_either : {A : Type 0} (L M : Over A) → Fills L → Fills M → Fills (λ X. either (L X) (M X))
fills_either L M g h u more x tokens (inl held) e t is = let w = g u more x tokens held e t is in (w.0, w.1, inl w.2)
fills_either L M g h u more x tokens (inr held) e t is = let w = h u more x tokens held e t is in (w.0, w.1, inr w.2)

reaches_choose : {A : Type 0} (test : Lexeme → Bool) (P Q : Parser SqlExpr → Parser A) (L M : Over A) (F G H : List Lexeme → Type 0) → Good P L F → Good Q M G →
    ((X : Language SqlExpr) (w : List Lexeme) (x : A) → L X w x → begins test w ≡ true) →
    ((X : Language SqlExpr) → Proper X → (w o : List Lexeme) (x : A) → M X w x → H o → begins test (w ++ o) ≡ false) →
    ((o : List Lexeme) → H o → F o) → ((o : List Lexeme) → H o → G o) → Reaches (choose test (P limited) (Q limited)) (λ X. either (L X) (M X)) H
reaches_choose test P Q L M F G H g h starts others to_first to_second all u more x tokens (inl held) o fits i e t is f q stops =
    let w = g.fills u more x tokens held e t is in
    let same : begins test (u ++ i) ≡ true =
    begins_same test (u ++ i) (u ++ (e ++ w.0)) (front_append u i (e ++ w.0) (f ∙ sym (front_more e w.0 (nonempty is)))) ∙ starts IsExpr (u ++ (e ++ w.0)) w.1 w.2 in
    ap (λ b. cond b (P limited (u ++ i)) (Q limited (u ++ i))) same ∙ g.reaches all u more x tokens held o (to_first o fits) i e t is f q stops
reaches_choose test P Q L M F G H g h starts others to_first to_second all u more x tokens (inr held) o fits i e t is f q stops =
    let w = h.fills u more x tokens held e t is in
    let same : begins test (u ++ i) ≡ false =
    begins_same test (u ++ i) ((u ++ (e ++ w.0)) ++ o) (ahead u i e w.0 o (nonempty is) f) ∙ others IsExpr exprs_proper (u ++ (e ++ w.0)) o w.1 w.2 fits in
    ap (λ b. cond b (P limited (u ++ i)) (Q limited (u ++ i))) same ∙ h.reaches all u more x tokens held o (to_second o fits) i e t is f q stops

-- where what the second begins with rests on what expressions begin with
pub good_choose_by : {A : Type 0} (test : Lexeme → Bool) (P Q : Parser SqlExpr → Parser A) (L M : Over A) (F G H : List Lexeme → Type 0) → Good P L F → Good Q M G →
    ((X : Language SqlExpr) (w : List Lexeme) (x : A) → L X w x → begins test w ≡ true) →
    ((X : Language SqlExpr) → Proper X → (w o : List Lexeme) (x : A) → M X w x → H o → begins test (w ++ o) ≡ false) →
    ((o : List Lexeme) → H o → F o) → ((o : List Lexeme) → H o → G o) →
    Good (λ E. choose test (P E) (Q E)) (λ X. either (L X) (M X)) H
good_choose_by test P Q L M F G H g h starts others to_first to_second = record {
  completes = λ E X e w o x held fits. ⊎_elim
      (λ first. ap (λ b. cond b (P E (w ++ o)) (Q E (w ++ o))) (begins_more test w o (starts X w x first)) ∙ g.completes E X e w o x first (to_first o fits))
      (λ second. ap (λ b. cond b (P E (w ++ o)) (Q E (w ++ o))) (others X e.1 w o x second fits) ∙ h.completes E X e w o x second (to_second o fits)) held;
  meets = λ i. meets_choose_by test (P limited) (Q limited) L M i (begins test i) refl (g.meets i) (h.meets i);
  agrees = λ i. agrees_choose (begins test i) (P limited i) (Q limited i) (P unlimited i) (Q unlimited i) (g.agrees i) (h.agrees i);
  some = (g.some.0, g.some.1, inl g.some.2);
  wider = λ X Y wide w x held. ⊎_elim (λ first. inl (g.wider X Y wide w x first)) (λ second. inr (h.wider X Y wide w x second)) held;
  plain = λ w x tokens held. ⊎_elim (λ first. inl (g.plain w x tokens first)) (λ second. inr (h.plain w x tokens second)) held;
  fills = fills_either L M g.fills h.fills;
  reaches = reaches_choose test P Q L M F G H g h starts others to_first to_second;
}

pub good_choose : {A : Type 0} (test : Lexeme → Bool) (P Q : Parser SqlExpr → Parser A) (L M : Over A) (F G H : List Lexeme → Type 0) → Good P L F → Good Q M G →
    ((X : Language SqlExpr) (w : List Lexeme) (x : A) → L X w x → begins test w ≡ true) →
    ((X : Language SqlExpr) (w o : List Lexeme) (x : A) → M X w x → H o → begins test (w ++ o) ≡ false) →
    ((o : List Lexeme) → H o → F o) → ((o : List Lexeme) → H o → G o) →
    Good (λ E. choose test (P E) (Q E)) (λ X. either (L X) (M X)) H
good_choose test P Q L M F G H g h starts others to_first to_second = good_choose_by test P Q L M F G H g h starts (λ X proper. others X) to_first to_second
