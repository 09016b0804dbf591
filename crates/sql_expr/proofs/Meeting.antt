-- What the reader reads is in the grammar; what it refuses is the first token with which nothing in the grammar goes on.
use Rattle.std.proofs.Common.{◌≡◌, ◌≢◌, ℕ, zero, suc, ◌+◌, ◌-◌, ◌≤◌, ◌<◌, ◌^◌, Bool, true, false, cond, if◌then◌else◌, List, [], ◌∷◌, ◌++◌, length, Option, Some, None, Result, Ok, Err, pos, refl, sym, ap, ◌∙◌, subst, append_assoc, append-nil, arith, length-append, add-one, zero-add, le_refl, le_trans, ◌⊎◌, inl, inr, ⊎_elim}
use Rattle.std.specs.Prelude.{codes, nat_lt, nat_le, ◌&&◌}
use Rattle.std.proofs.lemmas.Bool.Decides.{nat_tests}
use Rattle.std.proofs.lemmas.Bool.{lt-ltb, le-ltb, le-leb, ltb-true, ltb-false, leb-true, leb-false, lt-leb}
use Rattle.sql_tree.specs.declared.expr.SqlOp.{SqlOp}
use Rattle.sql_tree.specs.declared.expr.SqlOp.TheVariants as op
use Rattle.sql_tree.specs.declared.expr.SqlType.{SqlType}
use Rattle.sql_tree.specs.declared.expr.SqlType.TheVariants as type
use Rattle.sql_tree.specs.declared.expr.SqlExpr.{SqlExpr}
use Rattle.sql_tree.specs.declared.expr.SqlArm.{SqlArm}
use Rattle.sql_tree.specs.declared.expr.SqlExpr.TheVariants as tree
use Rattle.sql_tree.specs.declared.lexeme.LexemeKind.{LexemeKind}
use Rattle.sql_tree.specs.declared.lexeme.LexemeKind.TheVariants as k
use Rattle.sql_tree.specs.declared.lexeme.Lexeme.{Lexeme}
use Rattle.sql_tree.specs.Lexemes.{kind, same_kind, is_bare, type_of}
use Rattle.sql_expr.specs.declared.operators.Function.{Function}
use Rattle.sql_expr.specs.declared.operators.Function.TheVariants as f
use Rattle.sql_expr.specs.Operators.{binds, operator, made, negated, function_of, function_at, call_at, call_of, cast_kind}
use Rattle.sql_expr.specs.Grammar.{IsNegation, absent, present, Reads, looser, number, negative, string, truth, falsity, null, word, quoted, parens, minus, plus, not, binary, is_null, in_list, between, cast, coalesce, count_all, aggregate, case, ReadsList, one, more, ReadsArms, last_arm, next_arm, ReadsElse, no_else, else_of, arm}
use Rattle.sql_expr.specs.Descent.{number as number_reader, negative as negative_reader, minus as minus_reader, named as named_reader, named_by, one_in_parens as one_reader, counted as counted_reader, list as list_reader, list_in_parens as in_parens_reader, parenthesized as parens_reader, cast as cast_reader, case as case_reader, arms as arms_reader, one_arm, arms_from, else_part, negation as negation_reader, is_null as is_null_reader, in_list as in_list_reader, between as between_reader, negated_test as negated_test_reader}
use Rattle.sql_phrases.specs.Parsers.{Outcome, Parser, and_then, ◌>>=◌, ◌>>◌, ◌<$>◌, pure, skip, next, eat, sees, type_at, expect, type_name as type_reader, some_type}
use Rattle.sql_expr.specs.Descent.{expr, climb, level, prefix, prefix_by, start_level, operation, operation_by, operated, negated_test_by, list_from, name as name_reader}
use Rattle.sql_phrases.proofs.Phrases.{Language, Some_word, ◌⨾◌, ◌⨟◌, the, nothing, behind, mapped, Meets, Taken, Stuck, Echoes, front, front_nil, front_cons, front_append, same_kinds, meets_weaker, meets_bind, meets_pure, meets_first, meets_by, meets_refuse, meets_mapped, meets_as, meets_turn, meets_turns, meets_less, meets_first_if, meets_alike}
use Rattle.sql_phrases.proofs.Terminals.{kinds_alike, alike_self, alike, plain, joined, meets_joined, opened, meets_opened, some_joined, some_opened, meets_eat, expect_refuses}
use Rattle.sql_expr.proofs.Reading.{unlike, nonempty, not_tight, climb_stops, first_true}

-- ---- the grammar

-- another way to write the tokens and the tree
reads_as : {l : ℕ} {w v : List Lexeme} {x y : SqlExpr} → w ≡ v → x ≡ y → Reads l v y → Reads l w x
reads_as {l} {w} {v} {x} {y} e f r = subst (λ z. Reads l z x) (sym e) (subst (λ z. Reads l v z) (sym f) r)

down : {w : List Lexeme} {x : SqlExpr} (n l : ℕ) → Reads (n + l) w x → Reads l w x
down {w} {x} zero l r = subst (λ k. Reads k w x) (zero-add l) r
down {w} {x} (suc n) l r = let e : suc n + l ≡ suc (n + l) = omega arith in down n l (looser (subst (λ k. Reads k w x) e r))

-- an expression is one of each looser level
pub lower : {w : List Lexeme} {x : SqlExpr} (l m : ℕ) → l ≤ m → Reads m w x → Reads l w x
lower {w} {x} l m le r = let e : m ≡ (m - l) + l = omega arith in down (m - l) l (subst (λ k. Reads k w x) e r)

abbrev zero_token : Lexeme
zero_token = plain k.Number

some_expr : (l : ℕ) → l ≤ 8 → Some_word (Reads l)
some_expr l le = (zero_token ∷ [], tree.Number (pos 0), lower l 8 le (number zero_token refl (omega arith)))

apart : (a : LexemeKind) → k.End ≢ a → same_kind k.End a ≡ false
apart a h = unlike k.End a h

-- ---- readers under a depth

-- what an expression is asked for by: all but what a test begins with
abbrev pub IsLevel : ℕ → Type 0
IsLevel n = (1 ≤ n) × (n ≤ 8) × (n ≢ 5)

abbrev pub Nested : ℕ → Type 0
Nested d = (least : ℕ) (i : List Lexeme) → IsLevel least → length i ≤ d → Meets 0 (λ e m. expr e least) (Reads least) i (expr d least i)

-- what makes an expression behind this token
abbrev pub Tail : ℕ → Lexeme → Language SqlExpr
Tail l t w x = Reads l (t ∷ w) x

meets_first_read : (l : ℕ) (T : ℕ → ℕ → Parser SqlExpr) (t : Lexeme) (ts : List Lexeme) (r : Outcome SqlExpr) →
    Meets 0 T (Tail l t) ts r → Meets 1 (λ e m. skip >> T e m) (Reads l) (t ∷ ts) r
meets_first_read l T t ts r h = meets_weaker 1 _ (behind t (Tail l t)) (Reads l) (t ∷ ts) r (λ w x g. subst (λ z. Reads l z x) (sym g.1) g.2) (meets_first T (Tail l t) t ts r h)

meets_parens : (d : ℕ) → Nested d → (t : Lexeme) → t.kind ≡ k.LParen → (i : List Lexeme) → length i ≤ d → Meets 0 (λ e m. parens_reader (expr e)) (Tail 8 t) i (parens_reader (expr d) i)
unfolding parens_reader
meets_parens d nested t ht i fits =
    meets_weaker 0 _ (joined (Reads 1) k.RParen nothing) (Tail 8 t) i _
    (λ w x g. reads_as (ap (λ z. t ∷ z) (g.4 ∙ ap (λ z. g.0 ++ g.1 ∷ z) g.7.0)) (sym g.7.1) (parens t g.1 ht g.5 g.6))
    (meets_joined 0 (λ e m. expr e 1) k.RParen (λ x e m. pure x) (Reads 1) nothing i (expr d 1 i) pure (apart k.RParen (λ h. cc)) (λ x. ([], x, (refl, refl)))
    (nested 1 i (omega arith, omega arith, λ h. omega arith) fits) (λ x o less. meets_pure 0 x o))

-- ---- types

abbrev Type_word : Language SqlType
Type_word w type = (t : Lexeme) × (w ≡ t ∷ []) × (type_of t ≡ Some type)

some_type_word : Some_word Type_word
unfolding same_kind
some_type_word = let t : Lexeme = record { kind = k.Word; text = codes "int"; value = 0 } in (t ∷ [], type.Int, (t, refl, refl))

meets_type_by : (b : ℕ) (t : Lexeme) (ts : List Lexeme) (found : Option SqlType) → type_of t ≡ found → Meets b (λ e m. type_reader) Type_word (t ∷ ts) (some_type found (t ∷ ts))
unfolding type_reader
meets_type_by b t ts (Some type) h =
    record { word = t ∷ []; split = refl; holds = (t, refl, h); echoes = λ e m c f n turns. ap (λ found. some_type found (t ∷ c)) h }
meets_type_by b t ts None h = record {
  word = [];
  split = refl;
  begins = some_type_word;
  echoes = λ e m c f n turns. let same = front_cons c t f in subst (λ z. some_type (type_at z) z ≡ Err z) (sym same.1) (ap (λ found. some_type found (t ∷ same.0)) h);
}

meets_type : (b : ℕ) (i : List Lexeme) → Meets b (λ e m. type_reader) Type_word i (type_reader i)
unfolding type_reader
meets_type b [] = record {
  word = [];
  split = refl;
  begins = some_type_word;
  echoes = λ e m c f n turns. subst (λ z. some_type (type_at z) z ≡ Err z) (sym (front_nil c f)) refl;
}
meets_type b (t ∷ ts) = meets_type_by b t ts (type_of t) refl

abbrev Typed : Bool → SqlExpr → Language SqlExpr
Typed trying x = joined Type_word k.RParen (λ type. nothing (tree.Cast x type trying))

some_typed : (trying : Bool) (x : SqlExpr) → Some_word (Typed trying x)
some_typed trying x = some_joined Type_word k.RParen _ some_type_word (λ type. ([], tree.Cast x type trying, (refl, refl)))

meets_cast : (d : ℕ) → Nested d → (trying : Bool) (c : Lexeme) → c.kind ≡ cast_kind trying → (i : List Lexeme) → length i ≤ d → Meets 0 (λ e m. cast_reader (expr e) trying) (Tail 8 c) i (cast_reader (expr d) trying i)
unfolding cast_reader
meets_cast d nested trying c hc i fits =
    meets_weaker 0 _ (opened k.LParen (joined (Reads 1) k.As (λ x. joined Type_word k.RParen (λ type. nothing (tree.Cast x type trying))))) (Tail 8 c) i _
    (λ w y g.
    let after = g.4.7 in
    let last : after.0 ++ after.1 ∷ after.2 ≡ after.5.0 ∷ after.1 ∷ [] = ap (λ z. z ++ after.1 ∷ after.2) after.5.1 ∙ ap (λ z. after.5.0 ∷ after.1 ∷ z) after.7.0 in
    reads_as (ap (λ z. c ∷ z) (g.2 ∙ ap (λ z. g.0 ∷ z) (g.4.4 ∙ ap (λ z. g.4.0 ++ g.4.1 ∷ z) (after.4 ∙ last)))) (sym after.7.1)
    (cast c g.0 g.4.1 after.5.0 after.1 hc g.3 g.4.5 g.4.6 after.5.2 after.6))
    (meets_opened 0 k.LParen (λ e m. expr e 1 >>= (λ x. expect k.As >>= (λ _. type_reader >>= (λ type. expect k.RParen >>= (λ _. pure (tree.Cast x type trying)))))) _ i _ (apart k.LParen (λ h. cc)) (some_joined (Reads 1) k.As (Typed trying) (some_expr 1 (omega arith)) (some_typed trying))
    (λ o less. meets_joined 0 (λ e m. expr e 1) k.As (λ x e m. type_reader >>= (λ type. expect k.RParen >>= (λ _. pure (tree.Cast x type trying)))) (Reads 1) _ o (expr d 1 o) _ (apart k.As (λ h. cc)) (some_typed trying)
    (nested 1 o (omega arith, omega arith, λ h. omega arith) (le_trans less fits))
    (λ x r fewer. meets_joined 0 (λ e m. type_reader) k.RParen (λ type e m. pure (tree.Cast x type trying)) Type_word _ r (type_reader r) _ (apart k.RParen (λ h. cc)) (λ type. ([], tree.Cast x type trying, (refl, refl)))
    (meets_type 0 r) (λ type s _. meets_pure 0 (tree.Cast x type trying) s))))

-- ---- lists

abbrev List_of : List SqlExpr → Language (List SqlExpr)
List_of found w all = (xs : List SqlExpr) × ReadsList w xs × (found ++ xs ≡ all)

some_list : (found : List SqlExpr) → Some_word (List_of found)
some_list found = let s = some_expr 1 (omega arith) in (s.0, found ++ s.1 ∷ [], (s.1 ∷ [], one s.2, refl))

prefix_nil : (inner : ℕ → Parser SqlExpr) (least : ℕ) → prefix inner least [] ≡ Err []
unfolding prefix
prefix_nil inner least = refl

expr_nil : (depth least : ℕ) → expr depth least [] ≡ Err []
unfolding expr level
expr_nil zero least = refl
expr_nil (suc depth) least = rw (prefix_nil (expr depth) least)

-- after an item
abbrev rest_of : (ℕ → Parser SqlExpr) → ℕ → List SqlExpr → SqlExpr → LexemeKind → Parser (List SqlExpr)
rest_of inner n found x next = λ i. cond (same_kind next k.Comma) ((skip >> list_from inner n (found ++ x ∷ [])) i) (Ok (found ++ x ∷ [], i))

list_unfold : (inner : ℕ → Parser SqlExpr) (n : ℕ) (found : List SqlExpr) (i : List Lexeme) → list_from inner (suc n) found i ≡ (inner 1 >>= (λ x o. rest_of inner n found x (kind o) o)) i
unfolding list_from
list_unfold inner n found i = by_first (inner 1 i)
  where
    by_test : (x : SqlExpr) (o : List Lexeme) (b : Bool) → and_then (Ok (b, cond b (next o) o)) (λ more. cond more (list_from inner n (found ++ x ∷ [])) (pure (found ++ x ∷ []))) ≡ cond b ((skip >> list_from inner n (found ++ x ∷ [])) o) (Ok (found ++ x ∷ [], o))
    by_test x o true = refl
    by_test x o false = refl

    by_first : (r : Outcome SqlExpr) → and_then r (λ x. eat k.Comma >>= (λ more. if more then list_from inner n (found ++ x ∷ []) else pure (found ++ x ∷ []))) ≡ and_then r (λ x o. rest_of inner n found x (kind o) o)
    by_first (Ok p) = by_test p.0 p.1 (same_kind (kind p.1) k.Comma)
    by_first (Err r) = refl

meets_rest : (d n : ℕ) (found : List SqlExpr) (x : SqlExpr) (u o : List Lexeme) → Reads 1 u x →
    ((found : List SqlExpr) (o : List Lexeme) → length o ≤ d → length o ≤ n → Meets 0 (λ e m. list_from (expr e) m found) (List_of found) o (list_from (expr d) n found o)) →
    length o ≤ d → length o ≤ n →
    Meets 0 (λ e m i. rest_of (expr e) m found x (kind i) i) (λ w all. List_of found (u ++ w) all) o (rest_of (expr d) n found x (kind o) o)
meets_rest d n found x u o r lists deep long =
    meets_by 0 (λ next e m. rest_of (expr e) m found x next) _ o _ (by_kind o (same_kind (kind o) k.Comma) refl deep long)
  where
    alone : List_of found (u ++ []) (found ++ x ∷ [])
    alone = subst (λ z. List_of found z (found ++ x ∷ [])) (sym (append-nil u)) (x ∷ [], one r, refl)

    by_kind : (o : List Lexeme) (b : Bool) → same_kind (kind o) k.Comma ≡ b → length o ≤ d → length o ≤ n →
        Meets 0 (λ e m. rest_of (expr e) m found x (kind o)) (λ w all. List_of found (u ++ w) all) o (cond b ((skip >> list_from (expr d) n (found ++ x ∷ [])) o) (Ok (found ++ x ∷ [], o)))
    by_kind o false h deep long =
        record { word = []; split = refl; holds = alone; echoes = λ e m c f n k. ap (λ b. cond b ((skip >> list_from (expr e) m (found ++ x ∷ [])) c) (Ok (found ++ x ∷ [], c))) h }
    by_kind [] true h deep long = let never = apart k.Comma (λ same. cc) in absurd (cc)
    by_kind (c ∷ o) true h deep long =
        meets_weaker 0 _ (behind c (List_of (found ++ x ∷ []))) _ (c ∷ o) _
        (λ w all g. (x ∷ g.2.0, subst (λ z. ReadsList (u ++ z) (x ∷ g.2.0)) (sym g.1) (more c r (kinds_alike c.kind k.Comma h) g.2.1), sym (append_assoc found (x ∷ []) g.2.0) ∙ g.2.2))
        (meets_as 0 (λ e m. skip >> list_from (expr e) m (found ++ x ∷ [])) _ _ (c ∷ o) _
        (λ e m j n k. ap (λ b. cond b ((skip >> list_from (expr e) m (found ++ x ∷ [])) j) (Ok (found ++ x ∷ [], j))) h)
        (meets_less _ _ (c ∷ o) _ (meets_first (λ e m. list_from (expr e) m (found ++ x ∷ [])) _ c o _ (lists (found ++ x ∷ []) o (omega arith) (omega arith)))))

list_nil : (e m : ℕ) (found : List SqlExpr) → list_from (expr e) m found [] ≡ Err []
unfolding list_from
list_nil e zero found = refl
list_nil e (suc m) found = rw (expr_nil e 1)

list_as : (e m : ℕ) (found : List SqlExpr) (j : List Lexeme) → length j ≤ m →
    list_from (expr e) m found j ≡ (expr e 1 >>= (λ x o. rest_of (expr e) (m - 1) found x (kind o) o)) j
list_as e zero found [] h = list_nil e 0 found ∙ sym (ap (λ r. and_then r (λ x o. rest_of (expr e) (0 - 1) found x (kind o) o)) (expr_nil e 1))
list_as e zero found (t ∷ j) h = absurd (omega arith)
list_as e (suc m) found j h =
    let one_less : m ≡ suc m - 1 = omega arith in
    list_unfold (expr e) m found j ∙ ap (λ n. (expr e 1 >>= (λ x o. rest_of (expr e) n found x (kind o) o)) j) one_less

pub meets_list_from : (n d : ℕ) → Nested d → (found : List SqlExpr) (i : List Lexeme) → length i ≤ d → length i ≤ n →
    Meets 0 (λ e m. list_from (expr e) m found) (List_of found) i (list_from (expr d) n found i)
meets_list_from zero d nested found [] deep long =
    subst (λ r. Meets 0 (λ e m. list_from (expr e) m found) (List_of found) [] r) (sym (list_nil d 0 found))
    (record { word = []; split = refl; begins = some_list found; echoes = λ e m c f n k. subst (λ z. list_from (expr e) m found z ≡ Err z) (sym (front_nil c f)) (list_nil e m found) })
meets_list_from zero d nested found (t ∷ i) deep long = absurd (omega arith)
meets_list_from (suc n) d nested found i deep long =
    subst (λ r. Meets 0 (λ e m. list_from (expr e) m found) (List_of found) i r) (sym (list_unfold (expr d) n found i))
    (meets_weaker 0 _ (Reads 1 ⨟ (λ u x w all. List_of found (u ++ w) all)) (List_of found) i _ (λ w all g. subst (λ z. List_of found z all) (sym g.3) g.5)
    (meets_as 0 (λ e m. expr e 1 >>= (λ x o. rest_of (expr e) (m - 1) found x (kind o) o)) _ _ i _ (λ e m j deep long. list_as e m found j long)
    (meets_turn 0 (λ e m. expr e 1) (λ x e m o. rest_of (expr e) m found x (kind o) o) (Reads 1) (λ u x w all. List_of found (u ++ w) all) i (expr d 1 i)
    (λ x o. rest_of (expr d) n found x (kind o) o) (omega arith) (λ u x r. nonempty r)
    (λ u x r. ([], found ++ x ∷ [], subst (λ z. List_of found z (found ++ x ∷ [])) (sym (append-nil u)) (x ∷ [], one r, refl)))
    (nested 1 i (omega arith, omega arith, λ h. omega arith) deep)
    (λ u o x r less. meets_rest d n found x u o r (λ others j deep' long'. meets_list_from n d nested others j deep' long') (omega arith) (omega arith)))))

meets_list : (d : ℕ) → Nested d → (i : List Lexeme) → length i ≤ d → Meets 0 (λ e m. list_reader (expr e)) ReadsList i (list_reader (expr d) i)
unfolding list_reader
meets_list d nested i deep =
    meets_weaker 0 _ (List_of []) ReadsList i _ (λ w xs g. subst (λ z. ReadsList w z) g.2 g.1)
    (meets_turns (λ e m. list_from (expr e) m []) (List_of []) i _ (meets_list_from (length i) d nested [] i deep (le_refl (length i))))

-- "(" expr { "," expr } ")"
abbrev Listed : Language (List SqlExpr)
Listed w xs = (p : Lexeme) × (u : List Lexeme) × (q : Lexeme) × (w ≡ p ∷ (u ++ q ∷ [])) × (p.kind ≡ k.LParen) × ReadsList u xs × (q.kind ≡ k.RParen)

some_listed : Some_word Listed
some_listed =
    let s = some_expr 1 (omega arith) in
    (plain k.LParen ∷ (s.0 ++ plain k.RParen ∷ []), s.1 ∷ [], (plain k.LParen, s.0, plain k.RParen, refl, refl, one s.2, refl))

meets_listed : (d : ℕ) → Nested d → (i : List Lexeme) → length i ≤ d → Meets 0 (λ e m. in_parens_reader (expr e)) Listed i (in_parens_reader (expr d) i)
unfolding in_parens_reader
meets_listed d nested i deep =
    meets_weaker 0 _ (opened k.LParen (joined ReadsList k.RParen nothing)) Listed i _
    (λ w xs g. (g.0, g.4.0, g.4.1, g.2 ∙ ap (λ z. g.0 ∷ z) (g.4.4 ∙ ap (λ z. g.4.0 ++ g.4.1 ∷ z) g.4.7.0), g.3, subst (λ z. ReadsList g.4.0 z) g.4.7.1 g.4.5, g.4.6))
    (meets_opened 0 k.LParen (λ e m. list_reader (expr e) >>= (λ xs. expect k.RParen >>= (λ _. pure xs))) (joined ReadsList k.RParen nothing) i _ (apart k.LParen (λ h. cc))
    (some_joined ReadsList k.RParen nothing (let s = some_expr 1 (omega arith) in (s.0, s.1 ∷ [], one s.2)) (λ xs. ([], xs, (refl, refl))))
    (λ o less. meets_joined 0 (λ e m. list_reader (expr e)) k.RParen (λ xs e m. pure xs) ReadsList nothing o (list_reader (expr d) o) pure (apart k.RParen (λ h. cc))
    (λ xs. ([], xs, (refl, refl))) (meets_list d nested o (le_trans less deep)) (λ xs s _. meets_pure 0 xs s)))

-- ---- CASE

abbrev One_arm : Language SqlArm
One_arm w a =
    (h : Lexeme) × (u : List Lexeme) × (t : Lexeme) × (v : List Lexeme) × (x : SqlExpr) × (y : SqlExpr) × (w ≡ h ∷ (u ++ t ∷ v)) × (h.kind ≡ k.When) × Reads 1 u x × (t.kind ≡ k.Then)
    × Reads 1 v y × (arm x y ≡ a)

arm_alone : (u : List Lexeme) (a : SqlArm) → One_arm u a → ReadsArms u (a ∷ [])
arm_alone u a g = subst (λ z. ReadsArms z (a ∷ [])) (sym g.6) (subst (λ z. ReadsArms (g.0 ∷ (g.1 ++ g.2 ∷ g.3)) (z ∷ [])) g.11 (last_arm g.0 g.2 g.7 g.8 g.9 g.10))

arm_then : (u w : List Lexeme) (a : SqlArm) (xs : List SqlArm) → One_arm u a → ReadsArms w xs → ReadsArms (u ++ w) (a ∷ xs)
arm_then u w a xs g others =
    subst (λ z. ReadsArms (z ++ w) (a ∷ xs)) (sym g.6) (subst (λ z. ReadsArms (g.0 ∷ ((g.1 ++ g.2 ∷ g.3) ++ w)) (z ∷ xs)) g.11 (next_arm g.0 g.2 g.7 g.8 g.9 g.10 others))

some_second : (x : SqlExpr) → Some_word (mapped (arm x) (Reads 1))
some_second x = let s = some_expr 1 (omega arith) in (s.0, arm x s.1, (s.1, s.2, refl))

some_arm : Some_word One_arm
some_arm =
    let s = some_expr 1 (omega arith) in
    (plain k.When ∷ (s.0 ++ plain k.Then ∷ s.0), arm s.1 s.1, (plain k.When, s.0, plain k.Then, s.0, s.1, s.1, refl, refl, s.2, refl, s.2, refl))

meets_one_arm : (d : ℕ) → Nested d → (i : List Lexeme) → length i ≤ d → Meets 0 (λ e m. one_arm (expr e)) One_arm i (one_arm (expr d) i)
unfolding one_arm
meets_one_arm d nested i deep =
    meets_weaker 0 _ (opened k.When (joined (Reads 1) k.Then (λ x. mapped (arm x) (Reads 1)))) One_arm i _
    (λ w a g. (g.0, g.4.0, g.4.1, g.4.2, g.4.3, g.4.7.0, g.2 ∙ ap (λ z. g.0 ∷ z) g.4.4, g.3, g.4.5, g.4.6, g.4.7.1, g.4.7.2))
    (meets_opened 0 k.When (λ e m. expr e 1 >>= (λ x. expect k.Then >>= (λ _. expr e 1 >>= (λ y. pure (arm x y))))) (joined (Reads 1) k.Then (λ x. mapped (arm x) (Reads 1))) i _ (apart k.When (λ h. cc))
    (some_joined (Reads 1) k.Then (λ x. mapped (arm x) (Reads 1)) (some_expr 1 (omega arith)) some_second)
    (λ o less. meets_joined 0 (λ e m. expr e 1) k.Then (λ x e m. expr e 1 >>= (λ y. pure (arm x y))) (Reads 1) (λ x. mapped (arm x) (Reads 1)) o (expr d 1 o) _ (apart k.Then (λ h. cc)) some_second
    (nested 1 o (omega arith, omega arith, λ h. omega arith) (le_trans less deep))
    (λ x r fewer. meets_mapped 0 (λ e m. expr e 1) (Reads 1) (arm x) r _ (nested 1 r (omega arith, omega arith, λ h. omega arith) (le_trans fewer (le_trans less deep))))))

abbrev Arms_of : List SqlArm → Language (List SqlArm)
Arms_of found w all = (xs : List SqlArm) × ReadsArms w xs × (found ++ xs ≡ all)

abbrev arms_rest : (ℕ → Parser SqlExpr) → ℕ → List SqlArm → SqlArm → LexemeKind → Parser (List SqlArm)
arms_rest inner n found x next = λ i. cond (same_kind next k.When) (arms_from inner n (found ++ x ∷ []) i) (Ok (found ++ x ∷ [], i))

arms_unfold : (inner : ℕ → Parser SqlExpr) (n : ℕ) (found : List SqlArm) (i : List Lexeme) → arms_from inner (suc n) found i ≡ (one_arm inner >>= (λ x o. arms_rest inner n found x (kind o) o)) i
unfolding arms_from
arms_unfold inner n found i = by_first (one_arm inner i)
  where
    by_test : (x : SqlArm) (o : List Lexeme) (b : Bool) → (if b then arms_from inner n (found ++ x ∷ []) else pure (found ++ x ∷ [])) o ≡ cond b (arms_from inner n (found ++ x ∷ []) o) (Ok (found ++ x ∷ [], o))
    by_test x o true = refl
    by_test x o false = refl

    by_first : (r : Outcome SqlArm) → and_then r (λ x. (λ i. Ok (sees k.When i, i)) >>= (λ more. if more then arms_from inner n (found ++ x ∷ []) else pure (found ++ x ∷ []))) ≡ and_then r (λ x o. arms_rest inner n found x (kind o) o)
    by_first (Ok p) = by_test p.0 p.1 (same_kind (kind p.1) k.When)
    by_first (Err r) = refl

arm_nil : (inner : ℕ → Parser SqlExpr) → one_arm inner [] ≡ Err []
unfolding one_arm
arm_nil inner = rw (expect_refuses k.When [] (apart k.When (λ h. cc)))

arms_nil : (e m : ℕ) (found : List SqlArm) → arms_from (expr e) m found [] ≡ Err []
unfolding arms_from
arms_nil e zero found = refl
arms_nil e (suc m) found = rw (arm_nil (expr e))

arms_as : (e m : ℕ) (found : List SqlArm) (j : List Lexeme) → length j ≤ m → arms_from (expr e) m found j ≡ (one_arm (expr e) >>= (λ x o. arms_rest (expr e) (m - 1) found x (kind o) o)) j
arms_as e zero found [] h = arms_nil e 0 found ∙ sym (ap (λ r. and_then r (λ x o. arms_rest (expr e) (0 - 1) found x (kind o) o)) (arm_nil (expr e)))
arms_as e zero found (t ∷ j) h = absurd (omega arith)
arms_as e (suc m) found j h =
    let one_less : m ≡ suc m - 1 = omega arith in
    arms_unfold (expr e) m found j ∙ ap (λ n. (one_arm (expr e) >>= (λ x o. arms_rest (expr e) n found x (kind o) o)) j) one_less

meets_arms_rest : (d n : ℕ) (found : List SqlArm) (x : SqlArm) (u o : List Lexeme) → One_arm u x →
    Meets 0 (λ e m. arms_from (expr e) m (found ++ x ∷ [])) (Arms_of (found ++ x ∷ [])) o (arms_from (expr d) n (found ++ x ∷ []) o) →
    Meets 0 (λ e m i. arms_rest (expr e) m found x (kind i) i) (λ w all. Arms_of found (u ++ w) all) o (arms_rest (expr d) n found x (kind o) o)
meets_arms_rest d n found x u o g others = meets_by 0 (λ next e m. arms_rest (expr e) m found x next) _ o _ (by_kind (same_kind (kind o) k.When) refl)
  where
    by_kind : (b : Bool) → same_kind (kind o) k.When ≡ b →
        Meets 0 (λ e m. arms_rest (expr e) m found x (kind o)) (λ w all. Arms_of found (u ++ w) all) o (cond b (arms_from (expr d) n (found ++ x ∷ []) o) (Ok (found ++ x ∷ [], o)))
    by_kind false h = record {
      word = [];
      split = refl;
      holds = subst (λ z. Arms_of found z (found ++ x ∷ [])) (sym (append-nil u)) (x ∷ [], arm_alone u x g, refl);
      echoes = λ e m c f deep k. ap (λ b. cond b (arms_from (expr e) m (found ++ x ∷ []) c) (Ok (found ++ x ∷ [], c))) h;
    }
    by_kind true h =
        meets_weaker 0 _ (Arms_of (found ++ x ∷ [])) _ o _ (λ w all a. (x ∷ a.0, arm_then u w x a.0 g a.1, sym (append_assoc found (x ∷ []) a.0) ∙ a.2))
        (meets_as 0 (λ e m. arms_from (expr e) m (found ++ x ∷ [])) _ _ o _ (λ e m j _ _. ap (λ b. cond b (arms_from (expr e) m (found ++ x ∷ []) j) (Ok (found ++ x ∷ [], j))) h) others)

meets_arms_from : (n d : ℕ) → Nested d → (found : List SqlArm) (i : List Lexeme) → length i ≤ d → length i ≤ n → Meets 0 (λ e m. arms_from (expr e) m found) (Arms_of found) i (arms_from (expr d) n found i)
meets_arms_from zero d nested found [] deep long =
    subst (λ r. Meets 0 (λ e m. arms_from (expr e) m found) (Arms_of found) [] r) (sym (arms_nil d 0 found))
    (record {
      word = [];
      split = refl;
      begins = (some_arm.0, found ++ some_arm.1 ∷ [], (some_arm.1 ∷ [], arm_alone some_arm.0 some_arm.1 some_arm.2, refl));
      echoes = λ e m c f n k. subst (λ z. arms_from (expr e) m found z ≡ Err z) (sym (front_nil c f)) (arms_nil e m found);
    })
meets_arms_from zero d nested found (t ∷ i) deep long = absurd (omega arith)
meets_arms_from (suc n) d nested found i deep long =
    subst (λ r. Meets 0 (λ e m. arms_from (expr e) m found) (Arms_of found) i r) (sym (arms_unfold (expr d) n found i))
    (meets_weaker 0 _ (One_arm ⨟ (λ u x w all. Arms_of found (u ++ w) all)) (Arms_of found) i _ (λ w all g. subst (λ z. Arms_of found z all) (sym g.3) g.5)
    (meets_as 0 (λ e m. one_arm (expr e) >>= (λ x o. arms_rest (expr e) (m - 1) found x (kind o) o)) _ _ i _ (λ e m j deep long. arms_as e m found j long)
    (meets_turn 0 (λ e m. one_arm (expr e)) (λ x e m o. arms_rest (expr e) m found x (kind o) o) One_arm (λ u x w all. Arms_of found (u ++ w) all) i (one_arm (expr d) i)
    (λ x o. arms_rest (expr d) n found x (kind o) o) (omega arith) (λ u x g. omega (arith, ap length g.6))
    (λ u x g. ([], found ++ x ∷ [], subst (λ z. Arms_of found z (found ++ x ∷ [])) (sym (append-nil u)) (x ∷ [], arm_alone u x g, refl)))
    (meets_one_arm d nested i deep)
    (λ u o x g less. meets_arms_rest d n found x u o g (meets_arms_from n d nested (found ++ x ∷ []) o (omega arith) (omega arith))))))

meets_arms : (d : ℕ) → Nested d → (i : List Lexeme) → length i ≤ d → Meets 0 (λ e m. arms_reader (expr e)) ReadsArms i (arms_reader (expr d) i)
unfolding arms_reader
meets_arms d nested i deep =
    meets_weaker 0 _ (Arms_of []) ReadsArms i _ (λ w xs g. subst (λ z. ReadsArms w z) g.2 g.1)
    (meets_turns (λ e m. arms_from (expr e) m []) (Arms_of []) i _ (meets_arms_from (length i) d nested [] i deep (le_refl (length i))))

meets_else : (d : ℕ) → Nested d → (i : List Lexeme) → length i ≤ d → Meets 0 (λ e m. else_part (expr e)) ReadsElse i (else_part (expr d) i)
unfolding else_part
meets_else d nested i deep =
    meets_eat k.Else (λ b e m. if b then (expr e 1 >>= (λ x. pure (Some x))) else pure None) ReadsElse i (λ b. if b then (expr d 1 >>= (λ x. pure (Some x))) else pure None) (apart k.Else (λ h. cc))
    (λ no. meets_weaker 0 (λ e m. pure {A = Option SqlExpr} None) (nothing {A = Option SqlExpr} None) ReadsElse i (Ok (None, i)) (λ w x g. subst (λ z. ReadsElse z x) (sym g.0) (subst (λ z. ReadsElse [] z) g.1 no_else)) (meets_pure {A = Option SqlExpr} 0 None i))
    (λ t ts h ht. meets_weaker 0 _ (mapped Some (Reads 1)) (λ w. ReadsElse (t ∷ w)) ts _ (λ w x g. subst (λ z. ReadsElse (t ∷ w) z) g.2 (else_of t ht g.1))
    (meets_mapped 0 (λ e m. expr e 1) (Reads 1) Some ts _ (nested 1 ts (omega arith, omega arith, λ h. omega arith) (omega (arith, ap length h)))))

meets_case : (d : ℕ) → Nested d → (c : Lexeme) → c.kind ≡ k.Case → (i : List Lexeme) → length i ≤ d → Meets 0 (λ e m. case_reader (expr e)) (Tail 8 c) i (case_reader (expr d) i)
unfolding case_reader
meets_case d nested c hc i deep =
    meets_weaker 0 _ (ReadsArms ⨾ (λ found. joined ReadsElse k.EndWord (λ other. nothing (tree.Case found other)))) (Tail 8 c) i _
    (λ w x g. let last = g.5 in
    reads_as (ap (λ z. c ∷ z) (g.3 ∙ ap (λ z. g.0 ++ z) (last.4 ∙ ap (λ z. last.0 ++ last.1 ∷ z) last.7.0)) ∙ simp append_assoc) (sym last.7.1) (case c last.1 hc g.4 last.5 last.6))
    (meets_bind 0 (λ e m. arms_reader (expr e)) (λ found e m. else_part (expr e) >>= (λ other. expect k.EndWord >>= (λ _. pure (tree.Case found other)))) ReadsArms _ i (arms_reader (expr d) i) _
    (λ found. some_joined ReadsElse k.EndWord (λ other. nothing (tree.Case found other)) ([], None, no_else) (λ other. ([], tree.Case found other, (refl, refl))))
    (meets_arms d nested i deep)
    (λ found o less. meets_joined 0 (λ e m. else_part (expr e)) k.EndWord (λ other e m. pure (tree.Case found other)) ReadsElse (λ other. nothing (tree.Case found other)) o (else_part (expr d) o) _
    (apart k.EndWord (λ h. cc)) (λ other. ([], tree.Case found other, (refl, refl))) (meets_else d nested o (le_trans less deep)) (λ other r _. meets_pure 0 (tree.Case found other) r)))

-- ---- beginnings

lone : (P : ℕ → ℕ → Parser SqlExpr) (l : ℕ) (t : Lexeme) (ts : List Lexeme) (x : SqlExpr) → Reads l (t ∷ []) x →
    ((e m : ℕ) (c : List Lexeme) → front c ≡ front ts → P e m (t ∷ c) ≡ Ok (x, c)) → Meets 1 P (Reads l) (t ∷ ts) (Ok (x, ts))
lone P l t ts x r same = record { word = t ∷ []; split = refl; holds = r; echoes = λ e m c f n k. same e m c f }

-- refused at its first token
refused : (b : ℕ) (P : ℕ → ℕ → Parser SqlExpr) (L : Language SqlExpr) (t : Lexeme) (ts : List Lexeme) → Some_word L →
    ((e m : ℕ) (c : List Lexeme) → P e m (t ∷ c) ≡ Err (t ∷ c)) → Meets b P L (t ∷ ts) (Err (t ∷ ts))
refused b P L t ts some same = record {
  word = [];
  split = refl;
  begins = some;
  echoes = λ e m c f n k. let whole = front_cons c t f in subst (λ z. P e m z ≡ Err z) (sym whole.1) (same e m whole.0);
}

number_by : (t : Lexeme) (ts : List Lexeme) → t.kind ≡ k.Number → (small : Bool) → nat_lt t.value (2 ^ 63) ≡ small →
    Meets 1 (λ e m. number_reader) (Reads 8) (t ∷ ts) (cond small (Ok (tree.Number (pos t.value), ts)) (Err (t ∷ ts)))
unfolding number_reader
number_by t ts ht true h =
    lone _ 8 t ts (tree.Number (pos t.value)) (number t ht (ltb-true t.value (2 ^ 63) h)) (λ e m c f. ap (λ b. cond b (Ok (tree.Number (pos t.value), c)) (Err (t ∷ c))) h)
number_by t ts ht false h =
    refused 1 (λ e m. number_reader) (Reads 8) t ts (some_expr 8 (omega arith)) (λ e m c. ap (λ b. cond b (Ok (tree.Number (pos t.value), c)) (Err (t ∷ c))) h)

meets_number : (t : Lexeme) (ts : List Lexeme) → t.kind ≡ k.Number → Meets 1 (λ e m. number_reader) (Reads 8) (t ∷ ts) (number_reader (t ∷ ts))
unfolding number_reader
meets_number t ts ht = number_by t ts ht (nat_lt t.value (2 ^ 63)) refl

-- ---- signs

some_negative : (m : Lexeme) → m.kind ≡ k.Minus → Some_word (Tail 8 m)
some_negative m hm = (zero_token ∷ [], tree.Number (negated 0), negative m zero_token hm refl (omega arith))

negative_by : (m t : Lexeme) (ts : List Lexeme) → m.kind ≡ k.Minus → t.kind ≡ k.Number → (small : Bool) → nat_le t.value (2 ^ 63) ≡ small →
    Meets 0 (λ e m. negative_reader) (Tail 8 m) (t ∷ ts) (cond small (Ok (tree.Number (negated t.value), ts)) (Err (t ∷ ts)))
unfolding negative_reader
negative_by m t ts hm ht true h = record {
  word = t ∷ [];
  split = refl;
  holds = negative m t hm ht (leb-true t.value (2 ^ 63) h);
  echoes = λ e n c f deep turns. ap (λ b. cond b (Ok (tree.Number (negated t.value), c)) (Err (t ∷ c))) h;
}
negative_by m t ts hm ht false h =
    refused 0 (λ e m. negative_reader) (Tail 8 m) t ts (some_negative m hm) (λ e n c. ap (λ b. cond b (Ok (tree.Number (negated t.value), c)) (Err (t ∷ c))) h)

meets_negative : (m t : Lexeme) (ts : List Lexeme) → m.kind ≡ k.Minus → t.kind ≡ k.Number → Meets 0 (λ e n. negative_reader) (Tail 8 m) (t ∷ ts) (negative_reader (t ∷ ts))
unfolding negative_reader
meets_negative m t ts hm ht = negative_by m t ts hm ht (nat_le t.value (2 ^ 63)) refl

kind_word : (w o i : List Lexeme) → i ≡ w ++ o → 0 < length w → kind w ≡ kind i
kind_word [] o i e h = absurd (omega arith)
kind_word (t ∷ w) o i e h = sym (ap kind e)

-- a minus before what is no number
minus_operand : (m : Lexeme) → m.kind ≡ k.Minus → (i : List Lexeme) → kind i ≢ k.Number → (P : ℕ → ℕ → Parser SqlExpr) (r : Outcome SqlExpr) → Meets 0 P (Reads 8) i r →
    Meets 0 (λ e n. P e n >>= (λ x. pure (tree.Neg x))) (Tail 8 m) i (and_then r (λ x. pure (tree.Neg x)))
minus_operand m hm i other P (Ok p) h = record {
  word = h.word;
  split = h.split;
  holds = minus m hm (λ same. other (sym (kind_word h.word p.1 i h.split (nonempty h.holds)) ∙ same)) h.holds;
  echoes = λ e n c f deep turns. ap (λ z. and_then z (λ x. pure (tree.Neg x))) (h.echoes e n c f deep turns);
}
minus_operand m hm i other P (Err r) h = record {
  word = h.word;
  split = h.split;
  begins = by_word h.word h.split h.begins;
  echoes = λ e n c f deep turns. ap (λ z. and_then z (λ x. pure (tree.Neg x))) (h.echoes e n c f deep turns);
}
  where
    by_word : (w : List Lexeme) → i ≡ w ++ r → ((c : List Lexeme) × (x : SqlExpr) × Reads 8 (w ++ c) x) → (c : List Lexeme) × (x : SqlExpr) × Tail 8 m (w ++ c) x
    by_word [] split g = some_negative m hm
    by_word (t ∷ w) split g = (g.0, tree.Neg g.1, minus m hm (λ same. other (ap kind split ∙ same)) g.2)

abbrev minus_by : LexemeKind → (ℕ → Parser SqlExpr) → Parser SqlExpr
minus_by next inner = λ i. if same_kind next k.Number then negative_reader i else (tree.Neg <$> inner 8) i

meets_minus : (d : ℕ) → Nested d → (m : Lexeme) → m.kind ≡ k.Minus → (i : List Lexeme) → length i ≤ d → Meets 0 (λ e n. minus_reader (expr e)) (Tail 8 m) i (minus_reader (expr d) i)
unfolding minus_reader
meets_minus d nested m hm i deep = meets_by 0 (λ next e n. minus_by next (expr e)) (Tail 8 m) i _ (by_kind i (same_kind (kind i) k.Number) refl deep)
  where
    by_kind : (i : List Lexeme) (b : Bool) → same_kind (kind i) k.Number ≡ b → length i ≤ d →
        Meets 0 (λ e n. minus_by (kind i) (expr e)) (Tail 8 m) i (cond b (negative_reader i) ((tree.Neg <$> expr d 8) i))
    by_kind i false h deep =
        meets_as 0 (λ e n. tree.Neg <$> expr e 8) _ (Tail 8 m) i _ (λ e n j _ _. ap (λ b. cond b (negative_reader j) ((tree.Neg <$> expr e 8) j)) h)
        (minus_operand m hm i (λ same. let never = alike (kind i) k.Number same in absurd (cc)) (λ e n. expr e 8) (expr d 8 i) (nested 8 i (omega arith, omega arith, λ h. omega arith) deep))
    by_kind [] true h deep = let never = apart k.Number (λ same. cc) in absurd (cc)
    by_kind (t ∷ ts) true h deep =
        meets_as 0 (λ e n. negative_reader) _ (Tail 8 m) (t ∷ ts) _ (λ e n j _ _. ap (λ b. cond b (negative_reader j) ((tree.Neg <$> expr e 8) j)) h)
        (meets_negative m t ts hm (kinds_alike t.kind k.Number h))

-- ---- names and calls

-- "(" expr ")"
abbrev In_parens : Language SqlExpr
In_parens w x = (p : Lexeme) × (u : List Lexeme) × (q : Lexeme) × (w ≡ p ∷ (u ++ q ∷ [])) × (p.kind ≡ k.LParen) × Reads 1 u x × (q.kind ≡ k.RParen)

meets_one : (d : ℕ) → Nested d → (i : List Lexeme) → length i ≤ d → Meets 0 (λ e m. one_reader (expr e)) In_parens i (one_reader (expr d) i)
unfolding one_reader
meets_one d nested i deep =
    meets_weaker 0 _ (opened k.LParen (joined (Reads 1) k.RParen nothing)) In_parens i _
    (λ w x g. (g.0, g.4.0, g.4.1, g.2 ∙ ap (λ z. g.0 ∷ z) (g.4.4 ∙ ap (λ z. g.4.0 ++ g.4.1 ∷ z) g.4.7.0), g.3, subst (λ z. Reads 1 g.4.0 z) g.4.7.1 g.4.5, g.4.6))
    (meets_opened 0 k.LParen (λ e m. expr e 1 >>= (λ x. expect k.RParen >>= (λ _. pure x))) (joined (Reads 1) k.RParen nothing) i _ (apart k.LParen (λ h. cc))
    (some_joined (Reads 1) k.RParen nothing (some_expr 1 (omega arith)) (λ x. ([], x, (refl, refl))))
    (λ o less. meets_joined 0 (λ e m. expr e 1) k.RParen (λ x e m. pure x) (Reads 1) nothing o (expr d 1 o) pure (apart k.RParen (λ h. cc))
    (λ x. ([], x, (refl, refl))) (nested 1 o (omega arith, omega arith, λ h. omega arith) (le_trans less deep)) (λ x s _. meets_pure 0 x s)))

-- what makes a count behind its word and a parenthesis
abbrev Counted : Lexeme → Language SqlExpr
Counted c w y = (p : Lexeme) → p.kind ≡ k.LParen → Reads 8 (c ∷ p ∷ w) y

some_counted : (c : Lexeme) → function_of c ≡ Some f.Count → Some_word (Counted c)
some_counted c hc = (plain k.Star ∷ plain k.RParen ∷ [], tree.CountAll, λ p hp. count_all c p (plain k.Star) (plain k.RParen) hc hp refl refl)

meets_counted : (d : ℕ) → Nested d → (c : Lexeme) → function_of c ≡ Some f.Count → (i : List Lexeme) → length i ≤ d → Meets 0 (λ e m. counted_reader (expr e)) (Tail 8 c) i (counted_reader (expr d) i)
unfolding counted_reader
meets_counted d nested c hc i deep =
    meets_weaker 0 _ (opened k.LParen (Counted c)) (Tail 8 c) i _ (λ w y g. subst (λ z. Reads 8 (c ∷ z) y) (sym g.2) (g.4 g.0 g.3))
    (meets_opened 0 k.LParen (λ e m. eat k.Star >>= (λ all. if all then (expect k.RParen >>= (λ _. pure tree.CountAll)) else (expr e 1 >>= (λ x. expect k.RParen >>= (λ _. pure (tree.Count x))))))
    (Counted c) i _ (apart k.LParen (λ h. cc)) (some_counted c hc)
    (λ o less. meets_eat k.Star (λ all e m. if all then (expect k.RParen >>= (λ _. pure tree.CountAll)) else (expr e 1 >>= (λ x. expect k.RParen >>= (λ _. pure (tree.Count x))))) (Counted c) o
    (λ all. if all then (expect k.RParen >>= (λ _. pure tree.CountAll)) else (expr d 1 >>= (λ x. expect k.RParen >>= (λ _. pure (tree.Count x))))) (apart k.Star (λ h. cc))
    (λ no. meets_weaker 0 _ (joined (Reads 1) k.RParen (λ x. nothing (tree.Count x))) (Counted c) o _
    (λ w y g p hp. reads_as (ap (λ z. c ∷ p ∷ z) (g.4 ∙ ap (λ z. g.0 ++ g.1 ∷ z) g.7.0)) (sym g.7.1) (aggregate c p g.1 hc hp g.5 g.6 refl))
    (meets_joined 0 (λ e m. expr e 1) k.RParen (λ x e m. pure (tree.Count x)) (Reads 1) (λ x. nothing (tree.Count x)) o (expr d 1 o) (λ x. pure (tree.Count x)) (apart k.RParen (λ h. cc)) (λ x. ([], tree.Count x, (refl, refl)))
    (nested 1 o (omega arith, omega arith, λ h. omega arith) (le_trans less deep)) (λ x r _. meets_pure 0 (tree.Count x) r)))
    (λ t ts h ht. meets_weaker 0 _ (opened k.RParen (nothing tree.CountAll)) (λ w. Counted c (t ∷ w)) ts _
    (λ w y g p hp. reads_as (ap (λ z. c ∷ p ∷ t ∷ z) (g.2 ∙ ap (λ z. g.0 ∷ z) g.4.0)) (sym g.4.1) (count_all c p t g.0 hc hp ht g.3))
    (meets_opened 0 k.RParen (λ e m. pure tree.CountAll) (nothing tree.CountAll) ts (pure tree.CountAll) (apart k.RParen (λ h. cc)) ([], tree.CountAll, (refl, refl)) (λ r _. meets_pure 0 tree.CountAll r)))))

-- the same call begins where the tokens behind the word begin alike
call_same : (t : Lexeme) (c ts : List Lexeme) → kind c ≡ kind ts → call_at (t ∷ c) ≡ call_at (t ∷ ts)
call_same t c ts same = ap (λ a. cond (same_kind a k.LParen) (function_of t) None) same

call_function : (t : Lexeme) (ts : List Lexeme) (g : Function) → call_at (t ∷ ts) ≡ Some g → function_of t ≡ Some g
call_function t ts g h = by_test (same_kind (kind ts) k.LParen) refl h
  where
    by_test : (b : Bool) → same_kind (kind ts) k.LParen ≡ b → call_at (t ∷ ts) ≡ Some g → function_of t ≡ Some g
    by_test true e h = sym (ap (λ b. cond b (function_of t) None) e) ∙ h
    by_test false e h =
        let none : call_at (t ∷ ts) ≡ None = ap (λ b. cond b (function_of t) None) e in
        absurd (cc)

-- the calls of one expression that are all alike
meets_aggregate : (d : ℕ) → Nested d → (t : Lexeme) (ts : List Lexeme) (g : Function) (make : SqlExpr → SqlExpr) → function_of t ≡ Some g → ((x : SqlExpr) → call_of g x ≡ Some (make x)) → length ts ≤ d →
    Meets 0 (λ e m. make <$> one_reader (expr e)) (Tail 8 t) ts ((make <$> one_reader (expr d)) ts)
meets_aggregate d nested t ts g make hc is deep =
    meets_weaker 0 _ (mapped make In_parens) (Tail 8 t) ts _
    (λ w x g. let inside = g.1 in
    reads_as (ap (λ z. t ∷ z) inside.3) (sym g.2) (aggregate t inside.0 inside.2 hc inside.4 inside.5 inside.6 (is g.0)))
    (meets_mapped 0 (λ e m. one_reader (expr e)) In_parens make ts _ (meets_one d nested ts deep))

meets_call : (d : ℕ) → Nested d → (t : Lexeme) (ts : List Lexeme) (g : Function) (T : ℕ → ℕ → Parser SqlExpr) (r : Outcome SqlExpr) → call_at (t ∷ ts) ≡ Some g →
    ((e m : ℕ) (j : List Lexeme) → named_by (expr e) (Some g) (t ∷ j) ≡ T e m j) → Meets 0 T (Tail 8 t) ts r → Meets 1 (λ e m. named_reader (expr e)) (Reads 8) (t ∷ ts) r
unfolding named_reader
meets_call d nested t ts g T r h same behind_word =
    meets_weaker 1 _ (behind t (Tail 8 t)) (Reads 8) (t ∷ ts) _ (λ w x g. subst (λ z. Reads 8 z x) (sym g.1) g.2)
    (meets_first_if _ T (Tail 8 t) t ts _
    (λ e m j alike_j. ap (λ found. named_by (expr e) found (t ∷ j)) (call_same t j ts alike_j ∙ h) ∙ same e m j) behind_word)

meets_named_by : (d : ℕ) → Nested d → (t : Lexeme) → t.kind ≡ k.Word → (ts : List Lexeme) → length ts ≤ d → (found : Option Function) → call_at (t ∷ ts) ≡ found →
    Meets 1 (λ e m. named_reader (expr e)) (Reads 8) (t ∷ ts) (named_by (expr d) found (t ∷ ts))
unfolding named_reader
meets_named_by d nested t ht ts deep None h =
    lone _ 8 t ts (tree.Name t.text) (word t ht) (λ e m c same. ap (λ found. named_by (expr e) found (t ∷ c)) (call_same t c ts (same_kinds c ts same) ∙ h))
meets_named_by d nested t ht ts deep (Some f.Coalesce) h =
    meets_call d nested t ts f.Coalesce (λ e m. tree.Coalesce <$> in_parens_reader (expr e)) _ h (λ e m j. refl)
    (meets_weaker 0 _ (mapped tree.Coalesce Listed) (Tail 8 t) ts _
    (λ w x g. let list = g.1 in
    reads_as (ap (λ z. t ∷ z) list.3) (sym g.2) (coalesce t list.0 list.2 (call_function t ts f.Coalesce h) list.4 list.5 list.6))
    (meets_mapped 0 (λ e m. in_parens_reader (expr e)) Listed tree.Coalesce ts _ (meets_listed d nested ts deep)))
meets_named_by d nested t ht ts deep (Some f.Count) h =
    meets_call d nested t ts f.Count (λ e m. counted_reader (expr e)) _ h (λ e m j. refl) (meets_counted d nested t (call_function t ts f.Count h) ts deep)
meets_named_by d nested t ht ts deep (Some f.Sum) h =
    meets_call d nested t ts f.Sum (λ e m. tree.Sum <$> one_reader (expr e)) _ h (λ e m j. refl) (meets_aggregate d nested t ts f.Sum tree.Sum (call_function t ts f.Sum h) (λ x. refl) deep)
meets_named_by d nested t ht ts deep (Some f.Min) h =
    meets_call d nested t ts f.Min (λ e m. tree.Min <$> one_reader (expr e)) _ h (λ e m j. refl) (meets_aggregate d nested t ts f.Min tree.Min (call_function t ts f.Min h) (λ x. refl) deep)
meets_named_by d nested t ht ts deep (Some f.Max) h =
    meets_call d nested t ts f.Max (λ e m. tree.Max <$> one_reader (expr e)) _ h (λ e m j. refl) (meets_aggregate d nested t ts f.Max tree.Max (call_function t ts f.Max h) (λ x. refl) deep)

meets_named : (d : ℕ) → Nested d → (t : Lexeme) → t.kind ≡ k.Word → (ts : List Lexeme) → length ts ≤ d → Meets 1 (λ e m. named_reader (expr e)) (Reads 8) (t ∷ ts) (named_reader (expr d) (t ∷ ts))
unfolding named_reader
meets_named d nested t ht ts deep = meets_named_by d nested t ht ts deep (call_at (t ∷ ts)) refl

meets_negation : (d : ℕ) → Nested d → (least : ℕ) → least ≤ 3 → (t : Lexeme) → t.kind ≡ k.Not → (ts : List Lexeme) → length ts ≤ d →
    Meets 1 (λ e m. negation_reader (expr e) least) (Reads 3) (t ∷ ts) (negation_reader (expr d) least (t ∷ ts))
unfolding negation_reader
meets_negation d nested least le t ht ts deep =
    rw (le-leb least 3 le)
    (meets_as 1 (λ e m. skip >> tree.Not <$> expr e 3) _ (Reads 3) (t ∷ ts) _ (λ e m j _ _. ap (λ b. cond b ((skip >> tree.Not <$> expr e 3) j) (Err j)) (le-leb least 3 le))
    (meets_weaker 1 _ (behind t (mapped tree.Not (Reads 3))) (Reads 3) (t ∷ ts) _ (λ w x g. reads_as g.1 (sym g.2.2) (not t ht g.2.1))
    (meets_first (λ e m. tree.Not <$> expr e 3) (mapped tree.Not (Reads 3)) t ts _
    (meets_mapped 0 (λ e m. expr e 3) (Reads 3) tree.Not ts _ (nested 3 ts (omega arith, omega arith, λ h. omega arith) deep)))))

-- by the kind of the first token
meets_prefix_by : (d : ℕ) → Nested d → (least : ℕ) (t : Lexeme) (ts : List Lexeme) → length ts ≤ d → (k : LexemeKind) → t.kind ≡ k → least ≤ start_level k →
    Meets 1 (λ e m. prefix_by (expr e) least k) (Reads (start_level k)) (t ∷ ts) (prefix_by (expr d) least k (t ∷ ts))
meets_prefix_by d nested least t ts deep k.Number h le = meets_number t ts h
meets_prefix_by d nested least t ts deep k.Str h le = lone _ 8 t ts (tree.Str t.text) (string t h) (λ e m c f. refl)
meets_prefix_by d nested least t ts deep k.True h le = lone _ 8 t ts (tree.Bool true) (truth t h) (λ e m c f. refl)
meets_prefix_by d nested least t ts deep k.False h le = lone _ 8 t ts (tree.Bool false) (falsity t h) (λ e m c f. refl)
meets_prefix_by d nested least t ts deep k.Null h le = lone _ 8 t ts tree.Null (null t h) (λ e m c f. refl)
meets_prefix_by d nested least t ts deep k.Word h le = meets_named d nested t h ts deep
meets_prefix_by d nested least t ts deep k.Quoted h le = lone _ 8 t ts (tree.Name t.text) (quoted t h) (λ e m c f. refl)
meets_prefix_by d nested least t ts deep k.LParen h le = meets_first_read 8 (λ e m. parens_reader (expr e)) t ts _ (meets_parens d nested t h ts deep)
meets_prefix_by d nested least t ts deep k.Minus h le = meets_first_read 8 (λ e m. minus_reader (expr e)) t ts _ (meets_minus d nested t h ts deep)
meets_prefix_by d nested least t ts deep k.Plus h le =
    meets_first_read 8 (λ e m. expr e 8) t ts _ (meets_weaker 0 _ (Reads 8) (Tail 8 t) ts _ (λ w x r. plus t h r) (nested 8 ts (omega arith, omega arith, λ h. omega arith) deep))
meets_prefix_by d nested least t ts deep k.Not h le = meets_negation d nested least le t h ts deep
meets_prefix_by d nested least t ts deep k.Cast h le = meets_first_read 8 (λ e m. cast_reader (expr e) false) t ts _ (meets_cast d nested false t h ts deep)
meets_prefix_by d nested least t ts deep k.TryCast h le = meets_first_read 8 (λ e m. cast_reader (expr e) true) t ts _ (meets_cast d nested true t h ts deep)
meets_prefix_by d nested least t ts deep k.Case h le = meets_first_read 8 (λ e m. case_reader (expr e)) t ts _ (meets_case d nested t h ts deep)
meets_prefix_by d nested least t ts deep _ h le = meets_refuse 1 (Reads 8) (t ∷ ts) (some_expr 8 (omega arith))

meets_prefix : (d : ℕ) → Nested d → (least : ℕ) (t : Lexeme) (ts : List Lexeme) → length ts ≤ d → least ≤ start_level t.kind →
    Meets 1 (λ e m. prefix (expr e) least) (Reads (start_level t.kind)) (t ∷ ts) (prefix (expr d) least (t ∷ ts))
unfolding prefix
meets_prefix d nested least t ts deep le = meets_by 1 (λ next e m. prefix_by (expr e) least next) (Reads (start_level t.kind)) (t ∷ ts) _ (meets_prefix_by d nested least t ts deep t.kind refl le)

-- ---- operations

-- what makes an expression behind these tokens
abbrev pub Behind : ℕ → List Lexeme → Language SqlExpr
Behind l v w x = Reads l (v ++ w) x

-- and takes a token at least
abbrev pub Grown : ℕ → List Lexeme → Language SqlExpr
Grown l v w x = (0 < length w) × Reads l (v ++ w) x

meets_first_behind : (l : ℕ) (v : List Lexeme) (T : ℕ → ℕ → Parser SqlExpr) (t : Lexeme) (ts : List Lexeme) (r : Outcome SqlExpr) →
    Meets 0 T (λ w x. Reads l (v ++ t ∷ w) x) ts r → Meets 0 (λ e m. skip >> T e m) (Grown l v) (t ∷ ts) r
meets_first_behind l v T t ts r h =
    meets_less _ _ (t ∷ ts) r (meets_weaker 1 _ (behind t (λ w x. Reads l (v ++ t ∷ w) x)) (Grown l v) (t ∷ ts) r (λ w x g. (omega (arith, ap length g.1), subst (λ z. Reads l (v ++ z) x) (sym g.1) g.2)) (meets_first T _ t ts r h))

meets_binary : (d : ℕ) → Nested d → (v : List Lexeme) (x : SqlExpr) (op : SqlOp) (t : Lexeme) (ts : List Lexeme) (k : LexemeKind) (n : ℕ) → t.kind ≡ k → binds k ≡ n → n ≤ 7 → n ≢ 4 → operator k ≡ Some op → Reads n v x → length ts ≤ d →
    Meets 0 (λ e m. operated (expr e) x n (Some op)) (Grown (made n) v) (t ∷ ts) (operated (expr d) x n (Some op) (t ∷ ts))
meets_binary d nested v x op t ts k n ht hb low other ho r deep =
    let here : binds t.kind ≡ n = ap binds ht ∙ hb in
    meets_first_behind (made n) v (λ e m. tree.Binary op x <$> expr e (n + 1)) t ts _
    (meets_weaker 0 _ (mapped (tree.Binary op x) (Reads (n + 1))) _ ts _
    (λ w y g. subst (λ z. Reads (made n) (v ++ t ∷ w) z) g.2
    (subst (λ l. Reads (made l) (v ++ t ∷ w) (tree.Binary op x g.0)) here
    (binary t (subst (λ l. Reads l v x) (sym here) r) (ap operator ht ∙ ho) (subst (λ l. Reads l w g.0) (add-one n ∙ ap suc (sym here)) g.1))))
    (meets_mapped 0 (λ e m. expr e (n + 1)) (Reads (n + 1)) (tree.Binary op x) ts _ (nested (n + 1) ts (omega arith, omega arith, λ h. other (omega arith)) deep)))

-- [NOT] NULL after IS
meets_is_null : (v : List Lexeme) (x : SqlExpr) (i : Lexeme) → i.kind ≡ k.Is → Reads 5 v x → (d : ℕ) (ts : List Lexeme) →
    Meets 0 (λ e m. is_null_reader (expr e) x) (λ w z. Reads 4 (v ++ i ∷ w) z) ts (is_null_reader (expr d) x ts)
unfolding is_null_reader
meets_is_null v x i hi r d ts =
    meets_eat k.Not (λ negated e m. expect k.Null >>= (λ _. pure (tree.IsNull x negated))) (λ w z. Reads 4 (v ++ i ∷ w) z) ts (λ negated. expect k.Null >>= (λ _. pure (tree.IsNull x negated))) (apart k.Not (λ h. cc))
    (λ no. ends [] false absent ts) (λ t ts h ht. ends (t ∷ []) true (present t ht) ts)
  where
    ends : (s : List Lexeme) (negated : Bool) → IsNegation s negated → (j : List Lexeme) →
        Meets 0 (λ e m. expect k.Null >>= (λ _. pure (tree.IsNull x negated))) (λ w z. Reads 4 (v ++ i ∷ (s ++ w)) z) j ((expect k.Null >>= (λ _. pure (tree.IsNull x negated))) j)
    ends s negated hs j =
        meets_weaker 0 _ (opened k.Null (nothing (tree.IsNull x negated))) _ j _
        (λ w z g. reads_as (ap (λ y. v ++ i ∷ (s ++ y)) (g.2 ∙ ap (λ y. g.0 ∷ y) g.4.0) ∙ simp append_assoc) (sym g.4.1) (is_null i g.0 r hi hs g.3))
        (meets_opened 0 k.Null (λ e m. pure (tree.IsNull x negated)) (nothing (tree.IsNull x negated)) j _ (apart k.Null (λ h. cc)) ([], tree.IsNull x negated, (refl, refl)) (λ o less. meets_pure 0 (tree.IsNull x negated) o))

-- a list after IN
meets_in_list : (d : ℕ) → Nested d → (v s : List Lexeme) (x : SqlExpr) (negated : Bool) (i : Lexeme) → IsNegation s negated → i.kind ≡ k.In → Reads 5 v x → (ts : List Lexeme) → length ts ≤ d →
    Meets 0 (λ e m. in_list_reader (expr e) x negated) (λ w z. Reads 4 (v ++ (s ++ i ∷ w)) z) ts (in_list_reader (expr d) x negated ts)
unfolding in_list_reader
meets_in_list d nested v s x negated i hs hi r ts deep =
    meets_weaker 0 _ (mapped (λ ys. tree.InList x ys negated) Listed) _ ts _
    (λ w z g. let list = g.1 in
    reads_as (ap (λ y. v ++ (s ++ i ∷ y)) list.3 ∙ simp append_assoc) (sym g.2) (in_list i list.0 list.2 r hs hi list.4 list.5 list.6))
    (meets_mapped 0 (λ e m. in_parens_reader (expr e)) Listed (λ ys. tree.InList x ys negated) ts _ (meets_listed d nested ts deep))

-- bounds after BETWEEN
meets_between : (d : ℕ) → Nested d → (v s : List Lexeme) (x : SqlExpr) (negated : Bool) (b : Lexeme) → IsNegation s negated → b.kind ≡ k.Between → Reads 5 v x → (ts : List Lexeme) → length ts ≤ d →
    Meets 0 (λ e m. between_reader (expr e) x negated) (λ w z. Reads 4 (v ++ (s ++ b ∷ w)) z) ts (between_reader (expr d) x negated ts)
unfolding between_reader
meets_between d nested v s x negated b hs hb r ts deep =
    meets_weaker 0 _ (joined (Reads 6) k.And (λ y. mapped (λ z. tree.Between x y z negated) (Reads 6))) _ ts _
    (λ w t g. reads_as (ap (λ y. v ++ (s ++ b ∷ y)) g.4 ∙ simp append_assoc) (sym g.7.2) (between b g.1 r hs hb g.5 g.6 g.7.1))
    (meets_joined 0 (λ e m. expr e 6) k.And (λ y e m. expr e 6 >>= (λ z. pure (tree.Between x y z negated))) (Reads 6) _ ts (expr d 6 ts) _ (apart k.And (λ h. cc))
    (λ y. let z = some_expr 6 (omega arith) in (z.0, tree.Between x y z.1 negated, (z.1, z.2, refl)))
    (nested 6 ts (omega arith, omega arith, λ h. omega arith) deep)
    (λ y o less. meets_mapped 0 (λ e m. expr e 6) (Reads 6) (λ z. tree.Between x y z negated) o _ (nested 6 o (omega arith, omega arith, λ h. omega arith) (le_trans less deep))))

-- a token after NOT
after_not : (v : List Lexeme) (n : Lexeme) (l : ℕ) (T : ℕ → ℕ → Parser SqlExpr) (t : Lexeme) (ts : List Lexeme) (r : Outcome SqlExpr) →
    Meets 0 T (λ w z. Reads l (v ++ ((n ∷ []) ++ t ∷ w)) z) ts r → Meets 0 (λ e m. skip >> T e m) (λ w z. Reads l (v ++ n ∷ w) z) (t ∷ ts) r
after_not v n l T t ts r h =
    meets_less _ _ (t ∷ ts) r (meets_weaker 1 _ (behind t (λ w z. Reads l (v ++ n ∷ t ∷ w) z)) _ (t ∷ ts) r (λ w z g. subst (λ y. Reads l (v ++ n ∷ y) z) (sym g.1) g.2) (meets_first T _ t ts r h))

some_not_in : (v : List Lexeme) (x : SqlExpr) (n : Lexeme) → n.kind ≡ k.Not → Reads 5 v x → (w : List Lexeme) × (z : SqlExpr) × Reads 4 (v ++ n ∷ w) z
some_not_in v x n hn r =
    let s = some_expr 1 (omega arith) in (
      plain k.In ∷ plain k.LParen ∷ s.0 ++ plain k.RParen ∷ [],
      tree.InList x (s.1 ∷ []) true,
      reads_as (simp append_assoc) refl (in_list (plain k.In) (plain k.LParen) (plain k.RParen) r (present n hn) refl refl (one s.2) refl),
    )

-- IN or BETWEEN after NOT
meets_negated_by : (d : ℕ) → Nested d → (v : List Lexeme) (x : SqlExpr) (n : Lexeme) → n.kind ≡ k.Not → Reads 5 v x → (ts : List Lexeme) → length ts ≤ d → (next : LexemeKind) → kind ts ≡ next →
    Meets 0 (λ e m. negated_test_by (expr e) x next) (λ w z. Reads 4 (v ++ n ∷ w) z) ts (negated_test_by (expr d) x next ts)
meets_negated_by d nested v x n hn r [] deep k.In h = absurd (cc)
meets_negated_by d nested v x n hn r [] deep k.Between h = absurd (cc)
meets_negated_by d nested v x n hn r (t ∷ ts) deep k.In h =
    after_not v n 4 (λ e m. in_list_reader (expr e) x true) t ts _ (meets_in_list d nested v (n ∷ []) x true t (present n hn) h r ts (omega arith))
meets_negated_by d nested v x n hn r (t ∷ ts) deep k.Between h =
    after_not v n 4 (λ e m. between_reader (expr e) x true) t ts _ (meets_between d nested v (n ∷ []) x true t (present n hn) h r ts (omega arith))
meets_negated_by d nested v x n hn r ts deep _ h = meets_refuse 0 _ ts (some_not_in v x n hn r)

meets_negated : (d : ℕ) → Nested d → (v : List Lexeme) (x : SqlExpr) (n : Lexeme) → n.kind ≡ k.Not → Reads 5 v x → (ts : List Lexeme) → length ts ≤ d →
    Meets 0 (λ e m. negated_test_reader (expr e) x) (λ w z. Reads 4 (v ++ n ∷ w) z) ts (negated_test_reader (expr d) x ts)
unfolding negated_test_reader
meets_negated d nested v x n hn r ts deep = meets_by 0 (λ next e m. negated_test_by (expr e) x next) _ ts _ (meets_negated_by d nested v x n hn r ts deep (kind ts) refl)

-- by the kind of the operator
meets_operation_by : (d : ℕ) → Nested d → (v : List Lexeme) (x : SqlExpr) (t : Lexeme) (ts : List Lexeme) → length ts ≤ d → (k : LexemeKind) → t.kind ≡ k → 1 ≤ binds k → binds k ≤ 8 → Reads (binds k) v x →
    Meets 0 (λ e m. operation_by (expr e) x k) (Grown (made (binds k)) v) (t ∷ ts) (operation_by (expr d) x k (t ∷ ts))
meets_operation_by d nested v x t ts deep k.Is h low high r = meets_first_behind 4 v (λ e m. is_null_reader (expr e) x) t ts _ (meets_is_null v x t h r d ts)
meets_operation_by d nested v x t ts deep k.Not h low high r = meets_first_behind 4 v (λ e m. negated_test_reader (expr e) x) t ts _ (meets_negated d nested v x t h r ts deep)
meets_operation_by d nested v x t ts deep k.In h low high r = meets_first_behind 4 v (λ e m. in_list_reader (expr e) x false) t ts _ (meets_in_list d nested v [] x false t absent h r ts deep)
meets_operation_by d nested v x t ts deep k.Between h low high r = meets_first_behind 4 v (λ e m. between_reader (expr e) x false) t ts _ (meets_between d nested v [] x false t absent h r ts deep)
meets_operation_by d nested v x t ts deep k.Or h low high r = meets_binary d nested v x op.Or t ts k.Or 1 h refl (omega arith) (λ h. omega arith) refl r deep
meets_operation_by d nested v x t ts deep k.And h low high r = meets_binary d nested v x op.And t ts k.And 2 h refl (omega arith) (λ h. omega arith) refl r deep
meets_operation_by d nested v x t ts deep k.Eq h low high r = meets_binary d nested v x op.Eq t ts k.Eq 5 h refl (omega arith) (λ h. omega arith) refl r deep
meets_operation_by d nested v x t ts deep k.Ne h low high r = meets_binary d nested v x op.Ne t ts k.Ne 5 h refl (omega arith) (λ h. omega arith) refl r deep
meets_operation_by d nested v x t ts deep k.Lt h low high r = meets_binary d nested v x op.Lt t ts k.Lt 5 h refl (omega arith) (λ h. omega arith) refl r deep
meets_operation_by d nested v x t ts deep k.Le h low high r = meets_binary d nested v x op.Le t ts k.Le 5 h refl (omega arith) (λ h. omega arith) refl r deep
meets_operation_by d nested v x t ts deep k.Gt h low high r = meets_binary d nested v x op.Gt t ts k.Gt 5 h refl (omega arith) (λ h. omega arith) refl r deep
meets_operation_by d nested v x t ts deep k.Ge h low high r = meets_binary d nested v x op.Ge t ts k.Ge 5 h refl (omega arith) (λ h. omega arith) refl r deep
meets_operation_by d nested v x t ts deep k.Plus h low high r = meets_binary d nested v x op.Add t ts k.Plus 6 h refl (omega arith) (λ h. omega arith) refl r deep
meets_operation_by d nested v x t ts deep k.Minus h low high r = meets_binary d nested v x op.Sub t ts k.Minus 6 h refl (omega arith) (λ h. omega arith) refl r deep
meets_operation_by d nested v x t ts deep k.Concat h low high r = meets_binary d nested v x op.Concat t ts k.Concat 6 h refl (omega arith) (λ h. omega arith) refl r deep
meets_operation_by d nested v x t ts deep k.Star h low high r = meets_binary d nested v x op.Mul t ts k.Star 7 h refl (omega arith) (λ h. omega arith) refl r deep
meets_operation_by d nested v x t ts deep k.Div h low high r = meets_binary d nested v x op.Div t ts k.Div 7 h refl (omega arith) (λ h. omega arith) refl r deep
meets_operation_by d nested v x t ts deep k.Percent h low high r = meets_binary d nested v x op.Rem t ts k.Percent 7 h refl (omega arith) (λ h. omega arith) refl r deep
meets_operation_by d nested v x t ts deep k.LParen h low high r = absurd (omega arith)
meets_operation_by d nested v x t ts deep _ h low high r = absurd (omega arith)

meets_operation : (d : ℕ) → Nested d → (v : List Lexeme) (x : SqlExpr) (t : Lexeme) (ts : List Lexeme) → length ts ≤ d → 1 ≤ binds t.kind → binds t.kind ≤ 8 → Reads (binds t.kind) v x →
    Meets 0 (λ e m. operation (expr e) x) (Grown (made (binds t.kind)) v) (t ∷ ts) (operation (expr d) x (t ∷ ts))
unfolding operation
meets_operation d nested v x t ts deep low high r = meets_by 0 (λ next e m. operation_by (expr e) x next) _ (t ∷ ts) _ (meets_operation_by d nested v x t ts deep t.kind refl low high r)

-- ---- going on

climb_blocked : (inner : ℕ → Parser SqlExpr) (n least l : ℕ) (x : SqlExpr) (i : List Lexeme) → least ≤ binds (kind i) → l < binds (kind i) → 0 < n → climb inner n least l x i ≡ Err i
unfolding climb
climb_blocked inner zero least l x i low high some = absurd (omega arith)
climb_blocked inner (suc n) least l x i low high some = rw (le-ltb (binds (kind i)) least low, lt-ltb l (binds (kind i)) high)

climb_goes : (inner : ℕ → Parser SqlExpr) (n least l : ℕ) (x : SqlExpr) (i : List Lexeme) → least ≤ binds (kind i) → binds (kind i) ≤ l → 0 < n →
    climb inner n least l x i ≡ (operation inner x >>= climb inner (n - 1) least (made (binds (kind i)))) i
unfolding climb
climb_goes inner zero least l x i low high some = absurd (omega arith)
climb_goes inner (suc n) least l x i low high some =
    let one_less : n ≡ suc n - 1 = omega arith in
    rw (le-ltb (binds (kind i)) least low, le-ltb l (binds (kind i)) high) (ap (λ m. (operation inner x >>= climb inner m least (made (binds (kind i)))) i) one_less)

made_above : (b least : ℕ) → least ≤ b → least ≢ 5 → least ≤ made b
made_above b least le other = grind (arith, nat_tests)

made_low : (b : ℕ) → b ≤ 8 → made b ≤ 8
made_low b le = grind (arith, nat_tests)

begun : {l : ℕ} {v : List Lexeme} {x : SqlExpr} → Reads l v x → Reads l (v ++ []) x
begun {l} {v} {x} r = subst (λ z. Reads l z x) (sym (append-nil v)) r

below_or : (a b : ℕ) → (a < b) ⊎ (b ≤ a)
below_or a b = by_test (nat_lt a b) refl
  where
    by_test : (t : Bool) → nat_lt a b ≡ t → (a < b) ⊎ (b ≤ a)
    by_test true h = inl (ltb-true a b h)
    by_test false h = inr (ltb-false a b h)

climb_ends : (d n least l : ℕ) (v : List Lexeme) (x : SqlExpr) (i : List Lexeme) → Reads l v x → least ≤ l → binds (kind i) < least →
    Meets 0 (λ e m. climb (expr e) m least l x) (Behind least v) i (climb (expr d) n least l x i)
climb_ends d n least l v x i r le low =
    subst (λ o. Meets 0 (λ e m. climb (expr e) m least l x) (Behind least v) i o) (sym (climb_stops (expr d) n least l x i low))
    (record { word = []; split = refl; holds = begun (lower least l le r); echoes = λ e m c f k k'. climb_stops (expr e) m least l x c (subst (λ a. binds a < least) (sym (same_kinds c i f)) low) })

climb_stuck : (d n least l : ℕ) (v : List Lexeme) (x : SqlExpr) (t : Lexeme) (ts : List Lexeme) → Reads l v x → least ≤ l → least ≤ binds t.kind → l < binds t.kind → 0 < n →
    Meets 0 (λ e m. climb (expr e) m least l x) (Behind least v) (t ∷ ts) (climb (expr d) n least l x (t ∷ ts))
climb_stuck d n least l v x t ts r le low high some =
    subst (λ o. Meets 0 (λ e m. climb (expr e) m least l x) (Behind least v) (t ∷ ts) o) (sym (climb_blocked (expr d) n least l x (t ∷ ts) low high some))
    (record {
      word = [];
      split = refl;
      begins = ([], x, begun (lower least l le r));
      echoes = λ e m c f k turns.
          let whole = front_cons c t f in
          climb_blocked (expr e) m least l x c (subst (λ a. least ≤ binds a) (sym (same_kinds c (t ∷ ts) f)) low) (subst (λ a. l < binds a) (sym (same_kinds c (t ∷ ts) f)) high) (omega (arith, ap length whole.1));
    })

climb_as : (e m least l : ℕ) (x : SqlExpr) (j : List Lexeme) (k : LexemeKind) → kind j ≡ k → least ≤ binds k → binds k ≤ l → IsLevel least → length j ≤ m →
    climb (expr e) m least l x j ≡ (operation (expr e) x >>= (λ z. climb (expr e) (m - 1) least (made (binds k)) z)) j
climb_as e m least l x [] k same low within is turns = absurd (omega (arith, is.0, ap binds same))
climb_as e m least l x (t ∷ ts) k same low within is turns =
    climb_goes (expr e) m least l x (t ∷ ts) (omega (arith, ap binds same)) (omega (arith, ap binds same)) (omega arith)
    ∙ ap (λ k. (operation (expr e) x >>= (λ z. climb (expr e) (m - 1) least (made (binds k)) z)) (t ∷ ts)) same

-- with an operation
climb_on : (n d : ℕ) → Nested d → (least l : ℕ) (v : List Lexeme) (x : SqlExpr) (t : Lexeme) (ts : List Lexeme) → IsLevel least → l ≤ 8 → Reads l v x → length ts ≤ d → length ts ≤ n →
    ((l : ℕ) (v : List Lexeme) (x : SqlExpr) (i : List Lexeme) → l ≤ 8 → Reads l v x → least ≤ l → length i ≤ d → length i ≤ n → Meets 0 (λ e m. climb (expr e) m least l x) (Behind least v) i (climb (expr d) n least l x i)) →
    least ≤ binds t.kind → binds t.kind ≤ l → Meets 0 (λ e m. climb (expr e) m least l x) (Behind least v) (t ∷ ts) (climb (expr d) (suc n) least l x (t ∷ ts))
climb_on n d nested least l v x t ts is high r deep long others low within =
    let b = binds t.kind in
    let one_less : suc n - 1 ≡ n = omega arith in
    let value : climb (expr d) (suc n) least l x (t ∷ ts) ≡ (operation (expr d) x >>= climb (expr d) n least (made b)) (t ∷ ts) =
    climb_goes (expr d) (suc n) least l x (t ∷ ts) low within (omega arith) ∙ ap (λ m. (operation (expr d) x >>= climb (expr d) m least (made b)) (t ∷ ts)) one_less in
    let above = made_above b least low is.2 in
    subst (λ o. Meets 0 (λ e m. climb (expr e) m least l x) (Behind least v) (t ∷ ts) o) (sym value)
    (meets_weaker 0 _ (Grown (made b) v ⨟ (λ u z w y. Reads least ((v ++ u) ++ w) y)) (Behind least v) (t ∷ ts) _
    (λ w y g. reads_as (ap (λ z. v ++ z) g.3 ∙ simp append_assoc) refl g.5)
    (meets_alike 0 (λ e m. operation (expr e) x >>= (λ z. climb (expr e) (m - 1) least (made b) z)) _ _ (t ∷ ts) _
    (λ e m j same fits turns. climb_as e m least l x j t.kind same low within is turns)
    (meets_turn 0 (λ e m. operation (expr e) x) (λ z e m. climb (expr e) m least (made b) z) (Grown (made b) v) (λ u z w y. Reads least ((v ++ u) ++ w) y) (t ∷ ts) (operation (expr d) x (t ∷ ts))
    (climb (expr d) n least (made b)) (omega arith) (λ u z g. g.0) (λ u z g. ([], z, begun (lower least (made b) above g.1)))
    (meets_operation d nested v x t ts deep (omega (arith, is.0)) (omega arith) (lower b l within r))
    (λ u o z g less. others (made b) (v ++ u) z o (made_low b (omega arith)) g.1 above (omega arith) (omega arith)))))

meets_climb : (n d : ℕ) → Nested d → (least : ℕ) → IsLevel least → (l : ℕ) (v : List Lexeme) (x : SqlExpr) (i : List Lexeme) → l ≤ 8 → Reads l v x → least ≤ l → length i ≤ d → length i ≤ n →
    Meets 0 (λ e m. climb (expr e) m least l x) (Behind least v) i (climb (expr d) n least l x i)
meets_climb n d nested least is l v x [] high r le deep long = climb_ends d n least l v x [] r le (omega (arith, is.0))
meets_climb zero d nested least is l v x (t ∷ ts) high r le deep long = absurd (omega arith)
meets_climb (suc n) d nested least is l v x (t ∷ ts) high r le deep long =
    ⊎_elim (climb_ends d (suc n) least l v x (t ∷ ts) r le)
    (λ low. ⊎_elim (λ blocked. climb_stuck d (suc n) least l v x t ts r le low blocked (omega arith))
    (climb_on n d nested least l v x t ts is high r (omega arith) (omega arith) (meets_climb n d nested least is) low)
    (below_or l (binds t.kind)))
    (below_or (binds t.kind) least)

-- ---- whole expressions

prefix_refuses_by : (inner : ℕ → Parser SqlExpr) (least : ℕ) (i : List Lexeme) (k : LexemeKind) → least ≤ 8 → start_level k < least → prefix_by inner least k i ≡ Err i
unfolding negation_reader
prefix_refuses_by inner least i k.Not high low = rw (lt-leb least 3 low)
prefix_refuses_by inner least i _ high low = absurd (omega arith)

level_refuses : (inner : ℕ → Parser SqlExpr) (least : ℕ) (i : List Lexeme) → least ≤ 8 → start_level (kind i) < least → level inner least i ≡ Err i
unfolding level prefix
level_refuses inner least i high low = rw (prefix_refuses_by inner least i (kind i) high low)

level_as : (inner : ℕ → Parser SqlExpr) (least : ℕ) (j : List Lexeme) (k : LexemeKind) → kind j ≡ k →
    level inner least j ≡ (prefix inner least >>= (λ x o. climb inner (length o) least (start_level k) x o)) j
unfolding level
level_as inner least j k h = ap (λ k. (prefix inner least >>= (λ x o. climb inner (length o) least (start_level k) x o)) j) h

start_low : (k : LexemeKind) → start_level k ≤ 8
start_low k.Not = omega arith
start_low _ = omega arith

meets_level : (d : ℕ) → Nested d → (least : ℕ) → IsLevel least → (t : Lexeme) (ts : List Lexeme) → length ts ≤ d → Meets 1 (λ e m. level (expr e) least) (Reads least) (t ∷ ts) (level (expr d) least (t ∷ ts))
meets_level d nested least is t ts deep =
    ⊎_elim
    (λ low. subst (λ o. Meets 1 (λ e m. level (expr e) least) (Reads least) (t ∷ ts) o) (sym (level_refuses (expr d) least (t ∷ ts) is.1 low))
    (refused 1 (λ e m. level (expr e) least) (Reads least) t ts (some_expr least is.1) (λ e m c. level_refuses (expr e) least (t ∷ c) is.1 low)))
    (λ le. subst (λ o. Meets 1 (λ e m. level (expr e) least) (Reads least) (t ∷ ts) o) (sym (level_as (expr d) least (t ∷ ts) t.kind refl))
    (meets_alike 1 (λ e m. prefix (expr e) least >>= (λ x o. climb (expr e) (length o) least (start_level t.kind) x o)) _ (Reads least) (t ∷ ts) _ (λ e m j same _ _. level_as (expr e) least j t.kind same)
    (meets_weaker 1 _ (Reads (start_level t.kind) ⨟ (λ u x w y. Reads least (u ++ w) y)) (Reads least) (t ∷ ts) _ (λ w y g. reads_as g.3 refl g.5)
    (meets_turn 1 (λ e m. prefix (expr e) least) (λ x e m o. climb (expr e) (length o) least (start_level t.kind) x o) (Reads (start_level t.kind)) (λ u x w y. Reads least (u ++ w) y) (t ∷ ts)
    (prefix (expr d) least (t ∷ ts)) (λ x o. climb (expr d) (length o) least (start_level t.kind) x o) (omega arith) (λ u x r. nonempty r)
    (λ u x r. ([], x, begun (lower least (start_level t.kind) le r)))
    (meets_prefix d nested least t ts deep le)
    (λ u o x r less. meets_turns (λ e m. climb (expr e) m least (start_level t.kind) x) (λ w y. Reads least (u ++ w) y) o _
    (meets_climb (length o) d nested least is (start_level t.kind) u x o (start_low t.kind) r le (omega arith) (le_refl (length o))))))))
    (below_or (start_level t.kind) least)

shorter_none : (w c : List Lexeme) → length (w ++ c) ≤ 0 → w ≡ []
shorter_none [] c h = refl
shorter_none (t ∷ w) c h = absurd (omega arith)

deeper : (least : ℕ) (i : List Lexeme) (r : Outcome SqlExpr) → Meets 1 (λ e m. level (expr e) least) (Reads least) i r → Meets 0 (λ e m. expr e least) (Reads least) i r
unfolding expr
deeper least i (Ok p) h = record { word = h.word; split = h.split; holds = h.holds; echoes = λ e m c f n k. by_depth e m c f n k }
  where
    by_depth : Echoes 0 (λ e m. expr e least) h.word (λ c. Ok (p.0, c)) p.1
    by_depth zero m c f n k = absurd (omega (arith, nonempty h.holds, length-append h.word c))
    by_depth (suc e) m c f n k = h.echoes e m c f (omega (arith, n)) k
deeper least i (Err r) h = record { word = h.word; split = h.split; begins = h.begins; echoes = λ e m c f n k. by_depth e m c f n k }
  where
    by_depth : Echoes 0 (λ e m. expr e least) h.word Err r
    by_depth zero m c f n k = ap (λ w. Err (w ++ c)) (shorter_none h.word c n)
    by_depth (suc e) m c f n k = h.echoes e m c f (omega (arith, n)) k

expr_level : (d least : ℕ) (i : List Lexeme) → expr (suc d) least i ≡ level (expr d) least i
unfolding expr
expr_level d least i = refl

pub meets_expr : (d : ℕ) → Nested d
meets_expr d least [] is deep =
    subst (λ o. Meets 0 (λ e m. expr e least) (Reads least) [] o) (sym (expr_nil d least))
    (record { word = []; split = refl; begins = some_expr least is.1; echoes = λ e m c f n k. subst (λ z. expr e least z ≡ Err z) (sym (front_nil c f)) (expr_nil e least) })
meets_expr zero least (t ∷ ts) is deep = absurd (omega arith)
meets_expr (suc d) least (t ∷ ts) is deep =
    subst (λ o. Meets 0 (λ e m. expr e least) (Reads least) (t ∷ ts) o) (sym (expr_level d least (t ∷ ts)))
    (deeper least (t ∷ ts) _ (meets_level d (meets_expr d) least is t ts (omega arith)))
