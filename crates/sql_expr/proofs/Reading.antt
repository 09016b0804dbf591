-- What the grammar gives is what the reader reads.
use Rattle.std.proofs.Common.{◌≡◌, ◌≢◌, ℕ, zero, suc, ◌+◌, ◌≤◌, ◌<◌, ◌^◌, Bool, true, false, cond, ◌&&◌, List, [], ◌∷◌, ◌++◌, length, Option, Some, None, Result, Ok, Err, pos, refl, sym, ap, ◌∙◌, subst, append_assoc, append-nil, arith, length-append, add-one, le_refl}
use Rattle.std.proofs.lemmas.Bool.{lt-ltb, le-ltb, le-leb}
use Rattle.std.proofs.lemmas.Bool.Decides.{nat_tests}
use Rattle.sql_tree.specs.declared.expr.SqlOp.{SqlOp}
use Rattle.sql_tree.specs.declared.expr.SqlType.{SqlType}
use Rattle.sql_tree.specs.declared.expr.SqlExpr.{SqlExpr}
use Rattle.sql_tree.specs.declared.expr.SqlArm.{SqlArm}
use Rattle.sql_tree.specs.declared.expr.SqlExpr.TheVariants as e
use Rattle.sql_tree.specs.declared.lexeme.LexemeKind.{LexemeKind}
use Rattle.sql_tree.specs.declared.lexeme.LexemeKind.TheVariants as k
use Rattle.sql_tree.specs.declared.lexeme.Lexeme.{Lexeme}
use Rattle.sql_tree.specs.Lexemes.{kind, same_kind, is_bare, type_of}
use Rattle.sql_expr.specs.declared.operators.Function.{Function}
use Rattle.sql_expr.specs.declared.operators.Function.TheVariants as f
use Rattle.sql_expr.specs.Operators.{binds, operator, made, negated, function_of, function_at, call_at, call_of, cast_kind}
use Rattle.sql_expr.specs.Grammar.{IsNegation, absent, present, Reads, looser, number, negative, string, truth, falsity, null, word, quoted, parens, minus, plus, not, binary, is_null, in_list, between, cast, coalesce, count_all, aggregate, case, ReadsList, one, more, ReadsArms, last_arm, next_arm, ReadsElse, no_else, else_of, arm}
use Rattle.sql_expr.specs.Descent.{number as number_reader, negative as negative_reader, minus as minus_reader, named as named_reader, named_by, one_in_parens as one_reader, counted as counted_reader, list as list_reader, list_in_parens as in_parens_reader, parenthesized as parens_reader, cast as cast_reader, case as case_reader, arms as arms_reader, one_arm, arms_from, else_part, negation as negation_reader, is_null as is_null_reader, in_list as in_list_reader, between as between_reader, negated_test as negated_test_reader}
use Rattle.sql_phrases.specs.Parsers.{Outcome, Parser, and_then, pure, expect, type_name as type_reader, some_type}
use Rattle.sql_expr.specs.Descent.{expr, climb, level, prefix, prefix_by, start_level, operation, operation_by, operated, list_from, name as name_reader}
use Rattle.sql_phrases.proofs.Terminals.{kinds_alike, alike_self, alike, expect_takes}

-- ---- going on with operators

pub climb_stops : (inner : ℕ → Parser SqlExpr) (n least level : ℕ) (x : SqlExpr) (o : List Lexeme) → binds (kind o) < least →
    climb inner n least level x o ≡ Ok (x, o)
unfolding climb
climb_stops inner zero least level x o h = refl
climb_stops inner (suc n) least level x o h = rw (lt-ltb (binds (kind o)) least h)

climb_level : (inner : ℕ → Parser SqlExpr) (n least l : ℕ) (x : SqlExpr) (o : List Lexeme) → binds (kind o) ≤ l →
    climb inner n least (suc l) x o ≡ climb inner n least l x o
unfolding climb
climb_level inner zero least l x o h = refl
climb_level inner (suc n) least l x o h = rw (le-ltb (suc l) (binds (kind o)) (omega arith), le-ltb l (binds (kind o)) h)

pub climb_takes : (inner : ℕ → Parser SqlExpr) (n least l : ℕ) (x z : SqlExpr) (i o : List Lexeme) → least ≤ binds (kind i) → binds (kind i) ≤ l →
    operation inner x i ≡ Ok (z, o) → climb inner (suc n) least l x i ≡ climb inner n least (made (binds (kind i))) z o
unfolding climb
climb_takes inner n least l x z i o low high e = rw (le-ltb (binds (kind i)) least low, le-ltb l (binds (kind i)) high, e)

-- The reader has read an expression of a level, and goes on with operators.
abbrev pub Goes : ℕ → ℕ → ℕ → List Lexeme → SqlExpr → List Lexeme → Type 0
Goes d least l i x o = (n : ℕ) × (length o ≤ n) × (expr (suc d) least i ≡ climb (expr d) n least l x o)

goes_on : (d least l n : ℕ) (i j o : List Lexeme) (x z : SqlExpr) → length j ≤ n → length o < length j → expr (suc d) least i ≡ climb (expr d) n least l x j →
    least ≤ binds (kind j) → binds (kind j) ≤ l → operation (expr d) x j ≡ Ok (z, o) → Goes d least (made (binds (kind j))) i z o
goes_on d least l zero i j o x z fits less e low high op = absurd (omega arith)
goes_on d least l (suc n) i j o x z fits less e low high op = (n, omega arith, e ∙ climb_takes (expr d) n least l x z j o low high op)

-- ---- beginning

prefix_is : (d least : ℕ) (t : Lexeme) (ts : List Lexeme) (k : LexemeKind) → t.kind ≡ k → prefix (expr d) least (t ∷ ts) ≡ prefix_by (expr d) least k (t ∷ ts)
unfolding prefix
prefix_is d least t ts k h = ap (λ k. prefix_by (expr d) least k (t ∷ ts)) h

starts : (d least l : ℕ) (i o : List Lexeme) (x : SqlExpr) → prefix (expr d) least i ≡ Ok (x, o) → start_level (kind i) ≡ l → Goes d least l i x o
unfolding expr level
starts d least l i o x e s = (length o, le_refl (length o), rw (e, s))

starts_by : (d least l : ℕ) (k : LexemeKind) (t : Lexeme) (i v o : List Lexeme) (x : SqlExpr) → i ≡ t ∷ v → t.kind ≡ k → start_level k ≡ l →
    prefix_by (expr d) least k (t ∷ v) ≡ Ok (x, o) → Goes d least l i x o
starts_by d least l k t i v o x split h s e =
    subst (λ j. Goes d least l j x o) (sym split) (starts d least l (t ∷ v) o x (prefix_is d least t v k h ∙ e) (ap start_level h ∙ s))

-- ---- whole expressions inside

-- a front that is not empty, and two more pieces
longer : (v s t : List Lexeme) → 0 < length v → 0 < length ((v ++ s) ++ t)
longer v s t h = omega (arith, length-append (v ++ s) t, length-append v s)

pub nonempty : {l : ℕ} {w : List Lexeme} {x : SqlExpr} → Reads l w x → 0 < length w
nonempty (looser r) = nonempty r
nonempty (number t h f) = omega arith
nonempty (negative m t h g f) = omega arith
nonempty (string t h) = omega arith
nonempty (truth t h) = omega arith
nonempty (falsity t h) = omega arith
nonempty (null t h) = omega arith
nonempty (word t h) = omega arith
nonempty (quoted t h) = omega arith
nonempty (parens p q hp r hq) = omega arith
nonempty (minus m h other r) = omega arith
nonempty (plus p h r) = omega arith
nonempty (not n h r) = omega arith
nonempty (binary t {v = v} {w = w} r ho s) = omega (arith, length-append v (t ∷ w), nonempty r)
nonempty (is_null i n {v = v} {s = s} r hi hs hn) = longer v (i ∷ s) (n ∷ []) (nonempty r)
nonempty (in_list i p q {v = v} {s = s} {w = w} r hs hi hp ys hq) = omega (arith, length-append (v ++ s ++ i ∷ p ∷ w) (q ∷ []))
nonempty (between b a {v = v} {s = s} {w = w} {u = u} r hs hb y ha z) = omega (arith, length-append (v ++ s ++ b ∷ w) (a ∷ u))
nonempty (cast c p a t q hc hp r ha ht hq) = omega arith
nonempty (coalesce c p q hc hp xs hq) = omega arith
nonempty (count_all c p s q hc hp hs hq) = omega arith
nonempty (aggregate c p q hc hp r hq same) = omega arith
nonempty (case c n hc arms other hn) = omega arith

abbrev pub GoesWith : ℕ → List Lexeme → SqlExpr → Type 0
GoesWith l w x = (d least : ℕ) (o : List Lexeme) → least ≤ l → binds (kind o) ≤ l → length (w ++ o) ≤ suc d → Goes d least l (w ++ o) x o

pub settles : (l : ℕ) (w : List Lexeme) (x : SqlExpr) → GoesWith l w x → 0 < length w → (d least : ℕ) (o : List Lexeme) → least ≤ l → binds (kind o) < least →
    length (w ++ o) ≤ d → expr d least (w ++ o) ≡ Ok (x, o)
settles l w x g some zero least o le b fits = absurd (omega (arith, length-append w o))
settles l w x g some (suc d) least o le b fits =
    let s = g d least o le (omega arith) (omega arith) in
    s.2 ∙ climb_stops (expr d) s.0 least l x o b

-- ---- tests of kinds

binds_of : (t : Lexeme) (k : LexemeKind) (n : ℕ) → t.kind ≡ k → binds k ≡ n → binds t.kind ≡ n
binds_of t k n h e = ap binds h ∙ e

pub unlike : (a b : LexemeKind) → a ≢ b → same_kind a b ≡ false
unlike a b h = by_test (same_kind a b) refl
  where
    by_test : (found : Bool) → same_kind a b ≡ found → same_kind a b ≡ false
    by_test true e = absurd (h (kinds_alike a b e))
    by_test false e = e

sees_other : (t : Lexeme) (k other : LexemeKind) → t.kind ≡ k → same_kind k other ≡ false → same_kind t.kind other ≡ false
sees_other t k other h e = ap (λ a. same_kind a other) h ∙ e

pub same_some : {x y : SqlExpr} → ◌≡◌ {A = Option SqlExpr} (Some x) (Some y) → x ≡ y
same_some {x} {y} h = cc

pub first_true : (a b : Bool) → (a && b) ≡ true → a ≡ true
first_true true b h = refl
first_true false b h = cc

and_false : (a b : Bool) → b ≡ false → (a && b) ≡ false
and_false true b h = h
and_false false b h = refl

-- no operator binds as tightly as NOT or a sign
pub not_tight : (k : LexemeKind) → (binds k ≢ 3) × (binds k ≢ 8)
not_tight k.Or = (λ h. absurd (omega arith), λ h. absurd (omega arith))
not_tight _ = (λ h. absurd (omega arith), λ h. absurd (omega arith))

kind_append : (w o : List Lexeme) → 0 < length w → kind (w ++ o) ≡ kind w
kind_append [] o h = absurd (omega arith)
kind_append (t ∷ w) o h = refl

-- ---- beginnings of an expression

-- a function's word is a word
function_word : (t : Lexeme) (g : Function) → function_of t ≡ Some g → t.kind ≡ k.Word
function_word t g h = by_test (same_kind t.kind k.Word) refl h
  where
    by_test : (b : Bool) → same_kind t.kind k.Word ≡ b → function_of t ≡ Some g → t.kind ≡ k.Word
    by_test true same h = kinds_alike t.kind k.Word same
    by_test false same h =
        let none : function_of t ≡ None = rw same in
        absurd (cc)

cast_level : (trying : Bool) → start_level (cast_kind trying) ≡ 8
cast_level true = refl
cast_level false = refl

cast_prefix : (inner : ℕ → Parser SqlExpr) (least : ℕ) (trying : Bool) (c : Lexeme) (i : List Lexeme) → prefix_by inner least (cast_kind trying) (c ∷ i) ≡ cast_reader inner trying i
cast_prefix inner least true c i = refl
cast_prefix inner least false c i = refl

star_front : (v t : List Lexeme) → 0 < length v → kind v ≢ k.Star → kind (v ++ t) ≢ k.Star
star_front v t some starless same = starless (sym (kind_append v t some) ∙ same)

star_fronts : (v s t u : List Lexeme) → 0 < length v → kind v ≢ k.Star → kind (v ++ s ++ t ++ u) ≢ k.Star
star_fronts v s t u some starless same = star_front v (s ++ (t ++ u)) some starless (ap kind (sym (append_assoc v s (t ++ u)) ∙ sym (append_assoc (v ++ s) t u)) ∙ same)

-- no expression begins with a star
pub no_star : {l : ℕ} {w : List Lexeme} {x : SqlExpr} → Reads l w x → kind w ≢ k.Star
no_star (looser r) same = no_star r same
no_star (number t h f) same = cc
no_star (negative m t h g f) same = cc
no_star (string t h) same = cc
no_star (truth t h) same = cc
no_star (falsity t h) same = cc
no_star (null t h) same = cc
no_star (word t h) same = cc
no_star (quoted t h) same = cc
no_star (parens p q hp r hq) same = cc
no_star (minus m h other r) same = cc
no_star (plus p h r) same = cc
no_star (not n h r) same = cc
no_star (binary t {v = v} {w = w} r ho s) same = star_front v (t ∷ w) (nonempty r) (no_star r) same
no_star (is_null i n {v = v} {s = s} r hi hs hn) same = star_front v (i ∷ s ++ n ∷ []) (nonempty r) (no_star r) (ap kind (sym (append_assoc v (i ∷ s) (n ∷ []))) ∙ same)
no_star (in_list i p q {v = v} {s = s} {w = w} r hs hi hp ys hq) same = star_fronts v s (i ∷ p ∷ w) (q ∷ []) (nonempty r) (no_star r) same
no_star (between b a {v = v} {s = s} {w = w} {u = u} r hs hb y ha z) same = star_fronts v s (b ∷ w) (a ∷ u) (nonempty r) (no_star r) same
no_star (cast c p a t q {trying = true} hc hp r ha ht hq) same = cc
no_star (cast c p a t q {trying = false} hc hp r ha ht hq) same = cc
no_star (coalesce c p q hc hp xs hq) same = let word = function_word c f.Coalesce hc in cc
no_star (count_all c p s q hc hp hs hq) same = let word = function_word c f.Count hc in cc
no_star (aggregate c p q {g = g} hc hp r hq h) same = let word = function_word c g hc in cc
no_star (case c n hc arms other hn) same = cc

-- ---- each production as the reader reads it

number_reads : (t : Lexeme) (o : List Lexeme) → t.value < 2 ^ 63 → number_reader (t ∷ o) ≡ Ok (e.Number (pos t.value), o)
unfolding number_reader
number_reads t o h = rw (lt-ltb t.value (2 ^ 63) h)

negative_reads : (inner : ℕ → Parser SqlExpr) (t : Lexeme) (o : List Lexeme) → t.kind ≡ k.Number → t.value ≤ 2 ^ 63 →
    minus_reader inner (t ∷ o) ≡ Ok (e.Number (negated t.value), o)
unfolding minus_reader negative_reader
negative_reads inner t o h f = rw (alike t.kind k.Number h, le-leb t.value (2 ^ 63) f)

minus_reads : (inner : ℕ → Parser SqlExpr) (i o : List Lexeme) (x : SqlExpr) → kind i ≢ k.Number → inner 8 i ≡ Ok (x, o) → minus_reader inner i ≡ Ok (e.Neg x, o)
unfolding minus_reader
minus_reads inner i o x h e = rw (unlike (kind i) k.Number h, e)

name_reads : (inner : ℕ → Parser SqlExpr) (t : Lexeme) (o : List Lexeme) → binds (kind o) ≤ 8 → named_reader inner (t ∷ o) ≡ Ok (e.Name t.text, o)
unfolding named_reader
name_reads inner t o h =
    let other : same_kind (kind o) k.LParen ≡ false = unlike (kind o) k.LParen (λ same. absurd (omega (arith, ap binds same))) in
    ap (λ b. named_by inner (cond b (function_of t) None) (t ∷ o)) other

in_parens_reads : (inner : ℕ → Parser SqlExpr) (p q : Lexeme) (i o : List Lexeme) (xs : List SqlExpr) → p.kind ≡ k.LParen → list_reader inner i ≡ Ok (xs, q ∷ o) → q.kind ≡ k.RParen →
    in_parens_reader inner (p ∷ i) ≡ Ok (xs, o)
unfolding in_parens_reader
in_parens_reads inner p q i o xs hp e hq =
    rw (expect_takes k.LParen p i (alike p.kind k.LParen hp), e, expect_takes k.RParen q o (alike q.kind k.RParen hq))

call_is : (c p : Lexeme) (i : List Lexeme) (g : Function) → function_of c ≡ Some g → p.kind ≡ k.LParen → call_at (c ∷ p ∷ i) ≡ Some g
call_is c p i g hc hp = ap (λ b. cond b (function_of c) None) (alike p.kind k.LParen hp) ∙ hc

named_is : (inner : ℕ → Parser SqlExpr) (c p : Lexeme) (i : List Lexeme) (g : Function) → function_of c ≡ Some g → p.kind ≡ k.LParen →
    named_reader inner (c ∷ p ∷ i) ≡ named_by inner (Some g) (c ∷ p ∷ i)
unfolding named_reader
named_is inner c p i g hc hp = ap (λ found. named_by inner found (c ∷ p ∷ i)) (call_is c p i g hc hp)

coalesce_reads : (inner : ℕ → Parser SqlExpr) (c p : Lexeme) (i o : List Lexeme) (xs : List SqlExpr) → function_of c ≡ Some f.Coalesce → p.kind ≡ k.LParen → in_parens_reader inner (p ∷ i) ≡ Ok (xs, o) →
    named_reader inner (c ∷ p ∷ i) ≡ Ok (e.Coalesce xs, o)
coalesce_reads inner c p i o xs hc hp reads = named_is inner c p i f.Coalesce hc hp ∙ ap (λ r. and_then r (λ xs. pure (e.Coalesce xs))) reads

one_reads : (inner : ℕ → Parser SqlExpr) (p q : Lexeme) (i o : List Lexeme) (x : SqlExpr) → p.kind ≡ k.LParen → inner 1 i ≡ Ok (x, q ∷ o) → q.kind ≡ k.RParen →
    one_reader inner (p ∷ i) ≡ Ok (x, o)
unfolding one_reader
one_reads inner p q i o x hp e hq = rw (expect_takes k.LParen p i (alike p.kind k.LParen hp), e, expect_takes k.RParen q o (alike q.kind k.RParen hq))

count_all_reads : (inner : ℕ → Parser SqlExpr) (p s q : Lexeme) (o : List Lexeme) → p.kind ≡ k.LParen → s.kind ≡ k.Star → q.kind ≡ k.RParen →
    counted_reader inner (p ∷ s ∷ q ∷ o) ≡ Ok (e.CountAll, o)
unfolding counted_reader
count_all_reads inner p s q o hp hs hq =
    rw (expect_takes k.LParen p (s ∷ q ∷ o) (alike p.kind k.LParen hp), alike s.kind k.Star hs, expect_takes k.RParen q o (alike q.kind k.RParen hq))

count_reads : (inner : ℕ → Parser SqlExpr) (p q : Lexeme) (i o : List Lexeme) (x : SqlExpr) → p.kind ≡ k.LParen → kind i ≢ k.Star → inner 1 i ≡ Ok (x, q ∷ o) → q.kind ≡ k.RParen →
    counted_reader inner (p ∷ i) ≡ Ok (e.Count x, o)
unfolding counted_reader
count_reads inner p q i o x hp starless reads hq =
    rw (expect_takes k.LParen p i (alike p.kind k.LParen hp), unlike (kind i) k.Star starless, reads, expect_takes k.RParen q o (alike q.kind k.RParen hq))

-- a call of one expression
aggregate_reads : (inner : ℕ → Parser SqlExpr) (c p q : Lexeme) (i o : List Lexeme) (x y : SqlExpr) (g : Function) → function_of c ≡ Some g → p.kind ≡ k.LParen → kind i ≢ k.Star →
    inner 1 i ≡ Ok (x, q ∷ o) → q.kind ≡ k.RParen → call_of g x ≡ Some y → named_reader inner (c ∷ p ∷ i) ≡ Ok (y, o)
aggregate_reads inner c p q i o x y f.Coalesce hc hp starless reads hq same = absurd (cc)
aggregate_reads inner c p q i o x y f.Count hc hp starless reads hq same =
    named_is inner c p i f.Count hc hp ∙ count_reads inner p q i o x hp starless reads hq ∙ ap (λ z. Ok (z, o)) (same_some same)
aggregate_reads inner c p q i o x y f.Sum hc hp starless reads hq same =
    named_is inner c p i f.Sum hc hp ∙ ap (λ r. and_then r (λ x. pure (e.Sum x))) (one_reads inner p q i o x hp reads hq) ∙ ap (λ z. Ok (z, o)) (same_some same)
aggregate_reads inner c p q i o x y f.Min hc hp starless reads hq same =
    named_is inner c p i f.Min hc hp ∙ ap (λ r. and_then r (λ x. pure (e.Min x))) (one_reads inner p q i o x hp reads hq) ∙ ap (λ z. Ok (z, o)) (same_some same)
aggregate_reads inner c p q i o x y f.Max hc hp starless reads hq same =
    named_is inner c p i f.Max hc hp ∙ ap (λ r. and_then r (λ x. pure (e.Max x))) (one_reads inner p q i o x hp reads hq) ∙ ap (λ z. Ok (z, o)) (same_some same)

parens_reads : (inner : ℕ → Parser SqlExpr) (q : Lexeme) (i o : List Lexeme) (x : SqlExpr) → inner 1 i ≡ Ok (x, q ∷ o) → q.kind ≡ k.RParen → parens_reader inner i ≡ Ok (x, o)
unfolding parens_reader
parens_reads inner q i o x e hq = rw (e, expect_takes k.RParen q o (alike q.kind k.RParen hq))

type_reads : (t : Lexeme) (o : List Lexeme) (type : SqlType) → type_of t ≡ Some type → type_reader (t ∷ o) ≡ Ok (type, o)
unfolding type_reader
type_reads t o type h = ap (λ found. some_type found (t ∷ o)) h

cast_reads : (inner : ℕ → Parser SqlExpr) (p a t q : Lexeme) (i o : List Lexeme) (x : SqlExpr) (type : SqlType) → p.kind ≡ k.LParen → inner 1 i ≡ Ok (x, a ∷ t ∷ q ∷ o) → a.kind ≡ k.As →
    type_of t ≡ Some type → q.kind ≡ k.RParen → (trying : Bool) → cast_reader inner trying (p ∷ i) ≡ Ok (e.Cast x type trying, o)
unfolding cast_reader
cast_reads inner p a t q i o x type hp e ha ht hq trying =
    rw (
      expect_takes k.LParen p i (alike p.kind k.LParen hp),
      e,
      expect_takes k.As a (t ∷ q ∷ o) (alike a.kind k.As ha),
      type_reads t (q ∷ o) type ht,
      expect_takes k.RParen q o (alike q.kind k.RParen hq),
    )

negation_reads : (inner : ℕ → Parser SqlExpr) (least : ℕ) (n : Lexeme) (i o : List Lexeme) (x : SqlExpr) → least ≤ 3 → inner 3 i ≡ Ok (x, o) →
    negation_reader inner least (n ∷ i) ≡ Ok (e.Not x, o)
unfolding negation_reader
negation_reads inner least n i o x le e = rw (le-leb least 3 le, e)

list_last : (inner : ℕ → Parser SqlExpr) (n : ℕ) (found : List SqlExpr) (i o : List Lexeme) (x : SqlExpr) → 0 < n → inner 1 i ≡ Ok (x, o) → kind o ≢ k.Comma →
    list_from inner n found i ≡ Ok (found ++ x ∷ [], o)
unfolding list_from
list_last inner zero found i o x some e h = absurd (omega arith)
list_last inner (suc n) found i o x some e h = rw (e, unlike (kind o) k.Comma h)

list_more : (inner : ℕ → Parser SqlExpr) (n : ℕ) (found xs : List SqlExpr) (c : Lexeme) (i j o : List Lexeme) (x : SqlExpr) → length j < n → inner 1 i ≡ Ok (x, c ∷ j) → c.kind ≡ k.Comma →
    ((n : ℕ) (found : List SqlExpr) → length j ≤ n → list_from inner n found j ≡ Ok (found ++ xs, o)) → list_from inner n found i ≡ Ok (found ++ x ∷ xs, o)
unfolding list_from
list_more inner zero found xs c i j o x fits e hc others = absurd (omega arith)
list_more inner (suc n) found xs c i j o x fits e hc others =
    rw (e, alike c.kind k.Comma hc) (others n (found ++ x ∷ []) (omega arith) ∙ ap (λ ys. Ok (ys, o)) (append_assoc found (x ∷ []) xs))

-- ---- CASE

one_arm_reads : (inner : ℕ → Parser SqlExpr) (w t : Lexeme) (i j o : List Lexeme) (x y : SqlExpr) → w.kind ≡ k.When → inner 1 i ≡ Ok (x, t ∷ j) → t.kind ≡ k.Then → inner 1 j ≡ Ok (y, o) →
    one_arm inner (w ∷ i) ≡ Ok (arm x y, o)
unfolding one_arm
one_arm_reads inner w t i j o x y hw ex ht ey = rw (expect_takes k.When w i (alike w.kind k.When hw), ex, expect_takes k.Then t j (alike t.kind k.Then ht), ey)

arms_last : (inner : ℕ → Parser SqlExpr) (n : ℕ) (found : List SqlArm) (i o : List Lexeme) (x : SqlArm) → 0 < n → one_arm inner i ≡ Ok (x, o) → kind o ≢ k.When →
    arms_from inner n found i ≡ Ok (found ++ x ∷ [], o)
unfolding arms_from
arms_last inner zero found i o x some read h = absurd (omega arith)
arms_last inner (suc n) found i o x some read h = rw (read, unlike (kind o) k.When h)

arms_more : (inner : ℕ → Parser SqlExpr) (n : ℕ) (found xs : List SqlArm) (i j o : List Lexeme) (x : SqlArm) → length j < n → one_arm inner i ≡ Ok (x, j) → kind j ≡ k.When →
    ((n : ℕ) (found : List SqlArm) → length j ≤ n → arms_from inner n found j ≡ Ok (found ++ xs, o)) → arms_from inner n found i ≡ Ok (found ++ x ∷ xs, o)
unfolding arms_from
arms_more inner zero found xs i j o x fits read h others = absurd (omega arith)
arms_more inner (suc n) found xs i j o x fits read h others =
    rw (read, alike (kind j) k.When h) (others n (found ++ x ∷ []) (omega arith) ∙ ap (λ ys. Ok (ys, o)) (append_assoc found (x ∷ []) xs))

case_reads : (inner : ℕ → Parser SqlExpr) (n : Lexeme) (i j o : List Lexeme) (arms : List SqlArm) (other : Option SqlExpr) → arms_from inner (length i) [] i ≡ Ok (arms, j) → else_part inner j ≡ Ok (other, n ∷ o) → n.kind ≡ k.EndWord →
    case_reader inner i ≡ Ok (e.Case arms other, o)
unfolding case_reader arms_reader
case_reads inner n i j o arms other all rest hn = rw (all, rest, expect_takes k.EndWord n o (alike n.kind k.EndWord hn))

else_kind : {s : List Lexeme} {other : Option SqlExpr} → ReadsElse s other → (n : Lexeme) (o : List Lexeme) → n.kind ≡ k.EndWord → (binds (kind (s ++ n ∷ o)) ≡ 0) × (kind (s ++ n ∷ o) ≢ k.When)
else_kind no_else n o hn = (binds_of n k.EndWord 0 hn refl, λ same. cc)
else_kind (else_of l hl r) n o hn = (binds_of l k.Else 0 hl refl, λ same. cc)

arms_kind : {w : List Lexeme} {arms : List SqlArm} → ReadsArms w arms → (o : List Lexeme) → kind (w ++ o) ≡ k.When
arms_kind (last_arm w t hw r ht s) o = hw
arms_kind (next_arm w t hw r ht s others) o = hw

else_none : (inner : ℕ → Parser SqlExpr) (o : List Lexeme) → kind o ≢ k.Else → else_part inner o ≡ Ok (None, o)
unfolding else_part
else_none inner o h = rw (unlike (kind o) k.Else h)

else_some : (inner : ℕ → Parser SqlExpr) (l : Lexeme) (i o : List Lexeme) (x : SqlExpr) → l.kind ≡ k.Else → inner 1 i ≡ Ok (x, o) → else_part inner (l ∷ i) ≡ Ok (Some x, o)
unfolding else_part
else_some inner l i o x hl read = rw (alike l.kind k.Else hl, read)

-- ---- operations

operation_is : (inner : ℕ → Parser SqlExpr) (x : SqlExpr) (t : Lexeme) (ts : List Lexeme) (k : LexemeKind) → t.kind ≡ k → operation inner x (t ∷ ts) ≡ operation_by inner x k (t ∷ ts)
unfolding operation
operation_is inner x t ts k h = ap (λ k. operation_by inner x k (t ∷ ts)) h

operated_is : (inner : ℕ → Parser SqlExpr) (x : SqlExpr) (op : SqlOp) (k : LexemeKind) → operator k ≡ Some op → operation_by inner x k ≡ operated inner x (binds k) (Some op)
operated_is inner x op k.Is h = cc
operated_is inner x op k.Not h = cc
operated_is inner x op k.In h = cc
operated_is inner x op k.Between h = cc
operated_is inner x op k h = ap (operated inner x (binds k)) h

binary_reads : (inner : ℕ → Parser SqlExpr) (x y : SqlExpr) (op : SqlOp) (t : Lexeme) (i o : List Lexeme) → operator t.kind ≡ Some op → inner (suc (binds t.kind)) i ≡ Ok (y, o) →
    operation inner x (t ∷ i) ≡ Ok (e.Binary op x y, o)
binary_reads inner x y op t i o h read =
    operation_is inner x t i t.kind refl ∙ ap (λ p. p (t ∷ i)) (operated_is inner x op t.kind h)
    ∙ ap (λ n. and_then (inner n i) (λ y. pure (e.Binary op x y))) (add-one (binds t.kind))
    ∙ ap (λ r. and_then r (λ y. pure (e.Binary op x y))) read

unlike_null : same_kind k.Null k.Not ≡ false
unfolding same_kind
unlike_null = refl

is_null_reads : (inner : ℕ → Parser SqlExpr) (x : SqlExpr) (i n : Lexeme) (s o : List Lexeme) (negated : Bool) → IsNegation s negated → i.kind ≡ k.Is → n.kind ≡ k.Null →
    operation inner x (i ∷ (s ++ n ∷ o)) ≡ Ok (e.IsNull x negated, o)
unfolding is_null_reader
is_null_reads inner x i n s o negated absent hi hn =
    operation_is inner x i (n ∷ o) k.Is hi ∙ rw (sees_other n k.Null k.Not hn (unlike_null), expect_takes k.Null n o (alike n.kind k.Null hn))
is_null_reads inner x i n s o negated (present m hm) hi hn =
    operation_is inner x i (m ∷ n ∷ o) k.Is hi ∙ rw (alike m.kind k.Not hm, expect_takes k.Null n o (alike n.kind k.Null hn))

in_list_reads : (inner : ℕ → Parser SqlExpr) (x : SqlExpr) (ys : List SqlExpr) (i : Lexeme) (s j o : List Lexeme) (negated : Bool) → IsNegation s negated → i.kind ≡ k.In → in_parens_reader inner j ≡ Ok (ys, o) →
    operation inner x (s ++ i ∷ j) ≡ Ok (e.InList x ys negated, o)
unfolding in_list_reader negated_test_reader
in_list_reads inner x ys i s j o negated absent hi e = operation_is inner x i j k.In hi ∙ rw e
in_list_reads inner x ys i s j o negated (present m hm) hi e = operation_is inner x m (i ∷ j) k.Not hm ∙ rw (hi, e)

between_reads : (inner : ℕ → Parser SqlExpr) (x y z : SqlExpr) (b a : Lexeme) (s i j o : List Lexeme) (negated : Bool) → IsNegation s negated → b.kind ≡ k.Between →
    inner 6 i ≡ Ok (y, a ∷ j) → a.kind ≡ k.And → inner 6 j ≡ Ok (z, o) → operation inner x (s ++ b ∷ i) ≡ Ok (e.Between x y z negated, o)
unfolding between_reader negated_test_reader
between_reads inner x y z b a s i j o negated absent hb ey ha ez = operation_is inner x b i k.Between hb ∙ rw (ey, expect_takes k.And a j (alike a.kind k.And ha), ez)
between_reads inner x y z b a s i j o negated (present m hm) hb ey ha ez =
    operation_is inner x m (b ∷ i) k.Not hm ∙ rw (hb, ey, expect_takes k.And a j (alike a.kind k.And ha), ez)

-- ---- every derivation

-- a test after what it begins with
tests : (v : List Lexeme) (x : SqlExpr) → GoesWith 5 v x → (d least : ℕ) (i j o : List Lexeme) (z : SqlExpr) → i ≡ v ++ j → least ≤ 4 → binds (kind j) ≡ 5 → length o < length j →
    length i ≤ suc d → operation (expr d) x j ≡ Ok (z, o) → Goes d least 4 i z o
tests v x g d least i j o z split le b less fits op =
    let s = g d least j (omega arith) (omega arith) (omega (arith, ap length split)) in
    subst (λ l. Goes d least (made l) i z o) b
    (goes_on d least 5 s.0 i j o x z s.1 less (ap (expr (suc d) least) split ∙ s.2) (omega arith) (omega arith) op)

-- the kind of a test with or without NOT
test_binds : (s j : List Lexeme) (t : Lexeme) (negated : Bool) → IsNegation s negated → binds t.kind ≡ 5 → binds (kind (s ++ t ∷ j)) ≡ 5
test_binds s j t negated absent h = h
test_binds s j t negated (present m hm) h = ap binds hm

test_left : (s t : List Lexeme) → length t ≤ length (s ++ t)
test_left s t = omega (arith, length-append s t)

abbrev pub GoesList : List Lexeme → List SqlExpr → Type 0
GoesList w xs = (d n : ℕ) (found : List SqlExpr) (o : List Lexeme) → length (w ++ o) ≤ d → length (w ++ o) ≤ n → binds (kind o) < 1 → kind o ≢ k.Comma →
    list_from (expr d) n found (w ++ o) ≡ Ok (found ++ xs, o)

made_le : (n : ℕ) → made n ≤ n
made_le n = grind (arith, nat_tests)

list_reads : (inner : ℕ → Parser SqlExpr) (i o : List Lexeme) (xs : List SqlExpr) → list_from inner (length i) [] i ≡ Ok (xs, o) → list_reader inner i ≡ Ok (xs, o)
unfolding list_reader
list_reads inner i o xs h = h

list_inside : (w : List Lexeme) (xs : List SqlExpr) → GoesList w xs → (d : ℕ) (p q : Lexeme) (o : List Lexeme) → length (w ++ q ∷ o) ≤ d → p.kind ≡ k.LParen → q.kind ≡ k.RParen →
    in_parens_reader (expr d) (p ∷ (w ++ q ∷ o)) ≡ Ok (xs, o)
list_inside w xs g d p q o deep hp hq =
    let inside = g d (length (w ++ q ∷ o)) [] (q ∷ o) deep (le_refl (length (w ++ q ∷ o))) (omega (arith, binds_of q k.RParen 0 hq refl)) (λ same. cc) in
    in_parens_reads (expr d) p q (w ++ q ∷ o) o xs hp (list_reads (expr d) (w ++ q ∷ o) (q ∷ o) xs inside) hq

abbrev pub GoesArms : List Lexeme → List SqlArm → Type 0
GoesArms w xs = (d n : ℕ) (found : List SqlArm) (o : List Lexeme) → length (w ++ o) ≤ d → length (w ++ o) ≤ n → binds (kind o) < 1 → kind o ≢ k.When →
    arms_from (expr d) n found (w ++ o) ≡ Ok (found ++ xs, o)

abbrev GoesElse : List Lexeme → Option SqlExpr → Type 0
GoesElse s other = (d : ℕ) (o : List Lexeme) → length (s ++ o) ≤ d → binds (kind o) < 1 → kind o ≢ k.Else → else_part (expr d) (s ++ o) ≡ Ok (other, o)

mutual
  pub goes : {l : ℕ} {w : List Lexeme} {x : SqlExpr} → Reads l w x → GoesWith l w x
  goes {l} {w} {x} (looser r) d least o le b fits =
      let s = goes r d least o (omega arith) (omega arith) fits in
      (s.0, s.1, s.2 ∙ climb_level (expr d) s.0 least l x o b)
  goes (number t h f) d least o le b fits = starts_by d least 8 k.Number t (t ∷ o) o o (e.Number (pos t.value)) refl h refl (number_reads t o f)
  goes (negative m t hm h f) d least o le b fits = starts_by d least 8 k.Minus m (m ∷ t ∷ o) (t ∷ o) o (e.Number (negated t.value)) refl hm refl (negative_reads (expr d) t o h f)
  goes (string t h) d least o le b fits = starts_by d least 8 k.Str t (t ∷ o) o o (e.Str t.text) refl h refl refl
  goes (truth t h) d least o le b fits = starts_by d least 8 k.True t (t ∷ o) o o (e.Bool true) refl h refl refl
  goes (falsity t h) d least o le b fits = starts_by d least 8 k.False t (t ∷ o) o o (e.Bool false) refl h refl refl
  goes (null t h) d least o le b fits = starts_by d least 8 k.Null t (t ∷ o) o o e.Null refl h refl refl
  goes (word t h) d least o le b fits = starts_by d least 8 k.Word t (t ∷ o) o o (e.Name t.text) refl h refl (name_reads (expr d) t o b)
  goes (quoted t h) d least o le b fits = starts_by d least 8 k.Quoted t (t ∷ o) o o (e.Name t.text) refl h refl refl
  goes (parens p q {w} {x} hp r hq) d least o le b fits =
      let split : (p ∷ w ++ q ∷ []) ++ o ≡ p ∷ (w ++ q ∷ o) = simp append_assoc in
      let inside = settles 1 w x (goes r) (nonempty r) d 1 (q ∷ o) (omega arith) (omega (arith, binds_of q k.RParen 0 hq refl)) (omega (arith, ap length split)) in
      starts_by d least 8 k.LParen p ((p ∷ w ++ q ∷ []) ++ o) (w ++ q ∷ o) o x split hp refl (parens_reads (expr d) q (w ++ q ∷ o) o x inside hq)
  goes (minus m {w} {x} hm other r) d least o le b fits =
      let inside = settles 8 w x (goes r) (nonempty r) d 8 o (omega arith) (omega (arith, not_tight (kind o))) (omega arith) in
      starts_by d least 8 k.Minus m (m ∷ (w ++ o)) (w ++ o) o (e.Neg x) refl hm refl
      (minus_reads (expr d) (w ++ o) o x (λ same. other (sym (kind_append w o (nonempty r)) ∙ same)) inside)
  goes (plus p {w} {x} hp r) d least o le b fits =
      let inside = settles 8 w x (goes r) (nonempty r) d 8 o (omega arith) (omega (arith, not_tight (kind o))) (omega arith) in
      starts_by d least 8 k.Plus p (p ∷ (w ++ o)) (w ++ o) o x refl hp refl inside
  goes (not n {w} {x} hn r) d least o le b fits =
      let inside = settles 3 w x (goes r) (nonempty r) d 3 o (omega arith) (omega (arith, not_tight (kind o))) (omega arith) in
      starts_by d least 3 k.Not n (n ∷ (w ++ o)) (w ++ o) o (e.Not x) refl hn refl (negation_reads (expr d) least n (w ++ o) o x le inside)
  goes (binary {op} t {v} {w} {x} {y} r ho s) d least o le b fits =
      let n = binds t.kind in
      let split : (v ++ t ∷ w) ++ o ≡ v ++ (t ∷ (w ++ o)) = append_assoc v (t ∷ w) o in
      let size : length (t ∷ w ++ o) ≤ length ((v ++ t ∷ w) ++ o) = omega (arith, ap length split, length-append v (t ∷ (w ++ o))) in
      let base = goes r d least (t ∷ (w ++ o)) (omega (arith, made_le n)) (le_refl n) (omega (arith, ap length split)) in
      let inside = settles (suc n) w y (goes s) (nonempty s) d (suc n) o (le_refl (suc n)) (omega (arith, made_le n)) (omega arith) in
      goes_on d least n base.0 ((v ++ t ∷ w) ++ o) (t ∷ (w ++ o)) o x (e.Binary op x y) base.1 (omega (arith, length-append w o))
      (ap (expr (suc d) least) split ∙ base.2) (omega (arith, made_le n)) (le_refl n) (binary_reads (expr d) x y op t (w ++ o) o ho inside)
  goes (is_null i n {v} {s} {x} {negated} r hi hs hn) d least o le b fits =
      tests v x (goes r) d least ((v ++ i ∷ s ++ n ∷ []) ++ o) (i ∷ (s ++ n ∷ o)) o (e.IsNull x negated) (simp append_assoc) le (binds_of i k.Is 5 hi refl)
      (omega (arith, length-append s (n ∷ o))) fits (is_null_reads (expr d) x i n s o negated hs hi hn)
  goes (in_list i p q {v} {s} {w} {x} {ys} {negated} r hs hi hp list hq) d least o le b fits =
      let j = s ++ i ∷ p ∷ (w ++ q ∷ o) in
      let split : (v ++ s ++ i ∷ p ∷ w ++ q ∷ []) ++ o ≡ v ++ j = simp append_assoc in
      let size : suc (suc (length (w ++ q ∷ o))) ≤ length j = omega (arith, length-append s (i ∷ p ∷ (w ++ q ∷ o))) in
      let inside = list_inside w ys (goes_list list) d p q o (omega (arith, ap length split, length-append v j)) hp hq in
      tests v x (goes r) d least ((v ++ s ++ i ∷ p ∷ w ++ q ∷ []) ++ o) j o (e.InList x ys negated) split le
      (test_binds s (p ∷ (w ++ q ∷ o)) i negated hs (binds_of i k.In 5 hi refl)) (omega (arith, length-append w (q ∷ o))) fits
      (in_list_reads (expr d) x ys i s (p ∷ (w ++ q ∷ o)) o negated hs hi inside)
  goes (between b a {v} {s} {w} {u} {x} {y} {z} {negated} r hs hb ry ha rz) d least o le high fits =
      let j = s ++ b ∷ (w ++ a ∷ (u ++ o)) in
      let split : (v ++ s ++ b ∷ w ++ a ∷ u) ++ o ≡ v ++ j = simp append_assoc in
      let size : suc (length (w ++ a ∷ (u ++ o))) ≤ length j = omega (arith, length-append s (b ∷ (w ++ a ∷ (u ++ o)))) in
      let whole : length j ≤ suc d = omega (arith, ap length split, length-append v j) in
      let low = settles 6 w y (goes ry) (nonempty ry) d 6 (a ∷ (u ++ o)) (omega arith) (omega (arith, binds_of a k.And 2 ha refl)) (omega arith) in
      let top = settles 6 u z (goes rz) (nonempty rz) d 6 o (omega arith) (omega arith) (omega (arith, length-append w (a ∷ (u ++ o)))) in
      tests v x (goes r) d least ((v ++ s ++ b ∷ w ++ a ∷ u) ++ o) j o (e.Between x y z negated) split le
      (test_binds s (w ++ a ∷ (u ++ o)) b negated hs (binds_of b k.Between 5 hb refl)) (omega (arith, length-append w (a ∷ (u ++ o)), length-append u o)) fits
      (between_reads (expr d) x y z b a s (w ++ a ∷ (u ++ o)) (u ++ o) o negated hs hb low ha top)
  goes (cast c p a t q {w} {x} {type} {trying} hc hp r ha ht hq) d least o le b fits =
      let split : (c ∷ p ∷ w ++ a ∷ t ∷ q ∷ []) ++ o ≡ c ∷ p ∷ (w ++ a ∷ t ∷ q ∷ o) = simp append_assoc in
      let inside = settles 1 w x (goes r) (nonempty r) d 1 (a ∷ t ∷ q ∷ o) (omega arith) (omega (arith, binds_of a k.As 0 ha refl)) (omega (arith, ap length split)) in
      starts_by d least 8 (cast_kind trying) c ((c ∷ p ∷ w ++ a ∷ t ∷ q ∷ []) ++ o) (p ∷ (w ++ a ∷ t ∷ q ∷ o)) o (e.Cast x type trying) split hc (cast_level trying)
      (cast_prefix (expr d) least trying c (p ∷ (w ++ a ∷ t ∷ q ∷ o)) ∙ cast_reads (expr d) p a t q (w ++ a ∷ t ∷ q ∷ o) o x type hp inside ha ht hq trying)
  goes (coalesce c p q {w} {xs} hc hp list hq) d least o le b fits =
      let split : (c ∷ p ∷ w ++ q ∷ []) ++ o ≡ c ∷ p ∷ (w ++ q ∷ o) = simp append_assoc in
      let inside = list_inside w xs (goes_list list) d p q o (omega (arith, ap length split)) hp hq in
      starts_by d least 8 k.Word c ((c ∷ p ∷ w ++ q ∷ []) ++ o) (p ∷ (w ++ q ∷ o)) o (e.Coalesce xs) split
      (function_word c f.Coalesce hc) refl (coalesce_reads (expr d) c p (w ++ q ∷ o) o xs hc hp inside)
  goes (count_all c p s q hc hp hs hq) d least o le b fits =
      starts_by d least 8 k.Word c (c ∷ p ∷ s ∷ q ∷ o) (p ∷ s ∷ q ∷ o) o e.CountAll refl (function_word c f.Count hc) refl
      (named_is (expr d) c p (s ∷ q ∷ o) f.Count hc hp ∙ count_all_reads (expr d) p s q o hp hs hq)
  goes (aggregate c p q {w} {x} {y} {g} hc hp r hq same) d least o le b fits =
      let split : (c ∷ p ∷ w ++ q ∷ []) ++ o ≡ c ∷ p ∷ (w ++ q ∷ o) = simp append_assoc in
      let inside = settles 1 w x (goes r) (nonempty r) d 1 (q ∷ o) (omega arith) (omega (arith, binds_of q k.RParen 0 hq refl)) (omega (arith, ap length split)) in
      starts_by d least 8 k.Word c ((c ∷ p ∷ w ++ q ∷ []) ++ o) (p ∷ (w ++ q ∷ o)) o y split (function_word c g hc) refl
      (aggregate_reads (expr d) c p q (w ++ q ∷ o) o x y g hc hp (λ star. no_star r (sym (kind_append w (q ∷ o) (nonempty r)) ∙ star)) inside hq same)
  goes (case c n {w} {s} {arms} {other} hc all rest hn) d least o le b fits =
      let split : (c ∷ w ++ s ++ n ∷ []) ++ o ≡ c ∷ (w ++ (s ++ n ∷ o)) = simp append_assoc in
      let j = s ++ n ∷ o in
      let deep : length (w ++ j) ≤ d = omega (arith, ap length split) in
      let after = else_kind rest n o hn in
      starts_by d least 8 k.Case c ((c ∷ w ++ s ++ n ∷ []) ++ o) (w ++ j) o (e.Case arms other) split hc refl
      (case_reads (expr d) n (w ++ j) j o arms other
      (goes_arms all d (length (w ++ j)) [] j deep (le_refl (length (w ++ j))) (omega (arith, after.0)) after.1)
      (goes_else rest d (n ∷ o) (omega (arith, length-append w j)) (omega (arith, binds_of n k.EndWord 0 hn refl)) (λ same. cc)) hn)

  pub goes_arms : {w : List Lexeme} {xs : List SqlArm} → ReadsArms w xs → GoesArms w xs
  goes_arms (last_arm w t {u} {v} {x} {y} hw r ht s) d n found o deep long b other =
      let split : (w ∷ u ++ t ∷ v) ++ o ≡ w ∷ (u ++ t ∷ (v ++ o)) = simp append_assoc in
      let size : length (v ++ o) < length (u ++ t ∷ (v ++ o)) = omega (arith, length-append u (t ∷ (v ++ o))) in
      let first = settles 1 u x (goes r) (nonempty r) d 1 (t ∷ (v ++ o)) (omega arith) (omega (arith, binds_of t k.Then 0 ht refl)) (omega (arith, ap length split)) in
      let second = settles 1 v y (goes s) (nonempty s) d 1 o (omega arith) b (omega (arith, ap length split)) in
      ap (arms_from (expr d) n found) split
      ∙ arms_last (expr d) n found (w ∷ (u ++ t ∷ (v ++ o))) o (arm x y) (omega (arith, ap length split)) (one_arm_reads (expr d) w t (u ++ t ∷ (v ++ o)) (v ++ o) o x y hw first ht second) other
  goes_arms (next_arm w t {u} {v} {r = tail} {x = x} {y = y} {arms = xs} hw r ht s others) d n found o deep long b other =
      let split : (w ∷ u ++ t ∷ v ++ tail) ++ o ≡ w ∷ (u ++ t ∷ (v ++ (tail ++ o))) = simp append_assoc in
      let size : length (v ++ (tail ++ o)) < length (u ++ t ∷ (v ++ (tail ++ o))) = omega (arith, length-append u (t ∷ (v ++ (tail ++ o)))) in
      let less : length (tail ++ o) ≤ length (v ++ (tail ++ o)) = omega (arith, length-append v (tail ++ o)) in
      let next = arms_kind others o in
      let first = settles 1 u x (goes r) (nonempty r) d 1 (t ∷ (v ++ (tail ++ o))) (omega arith) (omega (arith, binds_of t k.Then 0 ht refl)) (omega (arith, ap length split)) in
      let second = settles 1 v y (goes s) (nonempty s) d 1 (tail ++ o) (omega arith) (omega (arith, ap binds next)) (omega (arith, ap length split)) in
      ap (arms_from (expr d) n found) split
      ∙ arms_more (expr d) n found xs (w ∷ (u ++ t ∷ (v ++ (tail ++ o)))) (tail ++ o) o (arm x y) (omega (arith, ap length split)) (one_arm_reads (expr d) w t (u ++ t ∷ (v ++ (tail ++ o))) (v ++ (tail ++ o)) (tail ++ o) x y hw first ht second) next
      (λ m so_far fits. goes_arms others d m so_far o (omega (arith, ap length split)) fits b other)

  goes_else : {s : List Lexeme} {other : Option SqlExpr} → ReadsElse s other → GoesElse s other
  goes_else no_else d o deep b h = else_none (expr d) o h
  goes_else (else_of l {u} {x} hl r) d o deep b h =
      else_some (expr d) l (u ++ o) o x hl (settles 1 u x (goes r) (nonempty r) d 1 o (omega arith) b (omega arith))

  pub goes_list : {w : List Lexeme} {xs : List SqlExpr} → ReadsList w xs → GoesList w xs
  goes_list (one {w} {x} r) d n found o deep long b other =
      list_last (expr d) n found (w ++ o) o x (omega (arith, length-append w o, nonempty r)) (settles 1 w x (goes r) (nonempty r) d 1 o (omega arith) b deep) other
  goes_list (more c {v} {w} {x} {xs} r hc others) d n found o deep long b other =
      let split : (v ++ c ∷ w) ++ o ≡ v ++ (c ∷ (w ++ o)) = append_assoc v (c ∷ w) o in
      let size : length (c ∷ w ++ o) ≤ length ((v ++ c ∷ w) ++ o) = omega (arith, ap length split, length-append v (c ∷ (w ++ o))) in
      let inside = settles 1 v x (goes r) (nonempty r) d 1 (c ∷ (w ++ o)) (omega arith) (omega (arith, binds_of c k.Comma 0 hc refl)) (omega (arith, ap length split)) in
      ap (list_from (expr d) n found) split
      ∙ list_more (expr d) n found xs c (v ++ (c ∷ (w ++ o))) (w ++ o) o x (omega arith) inside hc (λ m more fits. goes_list others d m more o (omega arith) fits b other)
