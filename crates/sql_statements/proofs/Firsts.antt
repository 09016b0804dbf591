-- What words of a statement begin with.
use Rattle.std.proofs.Common.{◌≡◌, ◌≢◌, ℕ, ◌<◌, Bool, true, false, List, [], ◌∷◌, ◌++◌, Option, Some, refl, sym, ap, ◌∙◌, append-nil, arith}
use Rattle.std.specs.Prelude.{◌&&◌}
use Rattle.std.specs.Str.{bytes_eq, str_eq_ignore_ascii_case, str_to_ascii_lowercase}
use Rattle.std.proofs.lemmas.Slice.Eq.{bytes_eq-Decides}
use Rattle.sql_tree.specs.declared.lexeme.LexemeKind.{LexemeKind}
use Rattle.sql_tree.specs.declared.lexeme.LexemeKind.TheVariants as k
use Rattle.sql_tree.specs.declared.lexeme.Lexeme.{Lexeme}
use Rattle.sql_tree.specs.Lexemes.{kind, same_kind, is_bare}
use Rattle.sql_tree.specs.Print.{word as word_token}
use Rattle.sql_phrases.proofs.Terminals.{kinds_alike, alike_self, plain}
use Rattle.sql_expr.specs.Operators.{binds}
use Rattle.sql_expr.proofs.Reading.{unlike, first_true}
use Rattle.sql_phrases.specs.Tokens.{is, if_so, the, the_word}
use Rattle.sql_statements.specs.Languages.{Language, one, nothing, ◌>>=◌ as ◌⨾◌}
use Rattle.sql_statements.specs.Parsers.{begins}

pub if_so_true : {A : Type 0} (b : Bool) (a x : A) → if_so b a ≡ Some x → b ≡ true
if_so_true true a x h = refl
if_so_true false a x h = absurd (cc)

pub the_self : (wanted : LexemeKind) → the wanted (plain wanted) ≡ Some tt
the_self wanted = ap (λ b. if_so b tt) (alike_self wanted)

pub word_self : (w : List ℕ) → str_eq_ignore_ascii_case w w ≡ true → the_word w (word_token w) ≡ Some tt
unfolding same_kind
word_self w h = ap (λ b. if_so b tt) h

pub the_kind : (wanted : LexemeKind) (t : Lexeme) (x : Unit {0}) → the wanted t ≡ Some x → t.kind ≡ wanted
the_kind wanted t x h = kinds_alike t.kind wanted (if_so_true (is wanted t) tt x h)

pub bare_kind : (w : List ℕ) (t : Lexeme) → is_bare w t ≡ true → t.kind ≡ k.Word
bare_kind w t h = kinds_alike t.kind k.Word (first_true (same_kind t.kind k.Word) _ h)

-- ---- what a word of a language begins with

pub opens_kind : {B : Type 0} (wanted : LexemeKind) (M : Language B) (v o : List Lexeme) (y : B) → (one (the wanted) ⨾ (λ _. M)) v y → kind (v ++ o) ≡ wanted
opens_kind wanted M v o y h = ap (λ z. kind (z ++ o)) (h.3 ∙ ap (λ z. z ++ h.1) h.4.1) ∙ the_kind wanted h.4.0 h.2 h.4.2

pub opens_word : {B : Type 0} (w : List ℕ) (M : Language B) (v o : List Lexeme) (y : B) → (one (the_word w) ⨾ (λ _. M)) v y → begins (is_bare w) (v ++ o) ≡ true
opens_word w M v o y h = ap (λ z. begins (is_bare w) (z ++ o)) (h.3 ∙ ap (λ z. z ++ h.1) h.4.1) ∙ if_so_true (is_bare w h.4.0) tt h.2 h.4.2

pub starts_kind : {B : Type 0} (wanted : LexemeKind) (M : Language B) (v : List Lexeme) (y : B) → (one (the wanted) ⨾ (λ _. M)) v y → begins (is wanted) v ≡ true
starts_kind wanted M v y h = ap (begins (is wanted)) (h.3 ∙ ap (λ z. z ++ h.1) h.4.1) ∙ if_so_true (is wanted h.4.0) tt h.2 h.4.2

pub starts_word : {B : Type 0} (w : List ℕ) (M : Language B) (v : List Lexeme) (y : B) → (one (the_word w) ⨾ (λ _. M)) v y → begins (is_bare w) v ≡ true
starts_word w M v y h = ap (begins (is_bare w)) (h.3 ∙ ap (λ z. z ++ h.1) h.4.1) ∙ if_so_true (is_bare w h.4.0) tt h.2 h.4.2

-- ---- tests of the next token

pub not_kind : (wanted : LexemeKind) (i : List Lexeme) → kind i ≢ wanted → begins (is wanted) i ≡ false
not_kind wanted [] h = refl
not_kind wanted (t ∷ ts) h = unlike t.kind wanted h

pub no_word : (w : List ℕ) (i : List Lexeme) → kind i ≢ k.Word → begins (is_bare w) i ≡ false
no_word w [] h = refl
no_word w (t ∷ ts) h = ap (λ b. b && str_eq_ignore_ascii_case t.text w) (unlike t.kind k.Word h)

pub word_kind : (w : List ℕ) (i : List Lexeme) → begins (is_bare w) i ≡ true → kind i ≡ k.Word
word_kind w [] h = absurd (cc)
word_kind w (t ∷ ts) h = bare_kind w t h

second_true : (a b : Bool) → (a && b) ≡ true → b ≡ true
second_true true b h = h
second_true false b h = absurd (cc)

-- the next token is one word and so not the other
pub other_word : (v w : List ℕ) (i : List Lexeme) → str_eq_ignore_ascii_case v w ≡ false → begins (is_bare v) i ≡ true → begins (is_bare w) i ≡ false
other_word v w [] apart h = refl
other_word v w (t ∷ ts) apart h =
    let same : str_to_ascii_lowercase t.text ≡ str_to_ascii_lowercase v = (bytes_eq-Decides (str_to_ascii_lowercase t.text) (str_to_ascii_lowercase v)).0 (second_true (same_kind t.kind k.Word) (str_eq_ignore_ascii_case t.text v) h) in
    ap (λ b. same_kind t.kind k.Word && b) (ap (λ z. bytes_eq z (str_to_ascii_lowercase w)) same ∙ apart) ∙ and_no (same_kind t.kind k.Word)
  where
    and_no : (b : Bool) → (b && false) ≡ false
    and_no true = refl
    and_no false = refl

-- a word ends an expression
pub word_ends : (i : List Lexeme) (kind_is : LexemeKind) → kind i ≡ kind_is → binds kind_is ≡ 0 → binds (kind i) < 1
word_ends i kind_is h none = omega (arith, ap binds h, none)

-- what begins with a word does not begin with another
pub opens_other : {B : Type 0} (v w : List ℕ) → str_eq_ignore_ascii_case v w ≡ false → (M : Language B) (H : List Lexeme → Type 0) (u o : List Lexeme) (y : B) →
    (one (the_word v) ⨾ (λ _. M)) u y → H o → begins (is_bare w) (u ++ o) ≡ false
opens_other v w apart M H u o y held fits = other_word v w (u ++ o) apart (opens_word v M u o y held)

-- what begins with a symbol or a reserved word does not begin with another one
pub opens_not : {B : Type 0} (v w : LexemeKind) → v ≢ w → (M : Language B) (H : List Lexeme → Type 0) (u o : List Lexeme) (y : B) →
    (one (the v) ⨾ (λ _. M)) u y → H o → begins (is w) (u ++ o) ≡ false
opens_not v w apart M H u o y held fits = not_kind w (u ++ o) (λ same. apart (sym (opens_kind v M u o y held) ∙ same))

-- nothing, and then what follows
pub nothing_then : {A : Type 0} (test : Lexeme → Bool) (a : A) (H : List Lexeme → Type 0) → ((o : List Lexeme) → H o → begins test o ≡ false) → (w o : List Lexeme) (x : A) → nothing a w x → H o → begins test (w ++ o) ≡ false
nothing_then test a H others w o x held fits = ap (λ z. begins test (z ++ o)) held.0 ∙ others o fits

-- an option that is there begins as it does
pub maybe_start : {B : Type 0} (test : Lexeme → Bool) (M : Language B) → ((w : List Lexeme) (x : B) → M w x → begins test w ≡ true) → (w : List Lexeme) (x : Option B) → (M ⨾ (λ x. nothing (Some x))) w x → begins test w ≡ true
maybe_start test M starts w x held = ap (begins test) (held.3 ∙ ap (λ z. held.0 ++ z) held.5.0 ∙ append-nil held.0) ∙ starts held.0 held.2 held.4
