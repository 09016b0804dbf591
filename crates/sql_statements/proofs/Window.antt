-- Outermost expressions within the limit: a window of one more than the most tokens tells all.
use Rattle.std.proofs.Common.{◌≡◌, ℕ, zero, suc, ◌+◌, ◌-◌, ◌≤◌, ◌<◌, le_refl, Bool, true, false, cond, List, [], ◌∷◌, ◌++◌, length, take, drop, take-append-drop, Ok, Err, refl, sym, ap, ◌∙◌, subst, append_assoc, append-nil, arith, length-append, inl, inr}
use Rattle.std.specs.Prelude.{nat_le, pos}
use Rattle.std.proofs.lemmas.Bool.{le-leb, leb-true, leb-false}
use Rattle.std.proofs.lemmas.List.{length-take-le, length-drop}
use Rattle.std.proofs.Math.Seq.{take-append-add, drop-append_seam}
use Rattle.sql_tree.specs.declared.expr.SqlExpr.{SqlExpr}
use Rattle.sql_tree.specs.declared.expr.SqlExpr.TheVariants as tree
use Rattle.sql_tree.specs.declared.lexeme.Lexeme.{Lexeme}
use Rattle.sql_tree.specs.Lexemes.{kind}
use Rattle.sql_phrases.specs.Parsers.{Outcome as ExprOutcome}
use Rattle.sql_phrases.proofs.Phrases.{front, same_kinds}
use Rattle.sql_phrases.proofs.Phrases as phrases
use Rattle.sql_expr.specs.Operators.{binds}
use Rattle.sql_tree.specs.declared.lexeme.LexemeKind.TheVariants as k
use Rattle.sql_phrases.proofs.Terminals.{plain}
use Rattle.sql_expr.specs.Grammar.{Reads, number, IsExpr, BeginsExpr}
use Rattle.sql_expr.specs.Descent.{expr}
use Rattle.sql_expr.proofs.Reading.{goes, settles, nonempty, no_star}
use Rattle.sql_expr.proofs.Meeting.{meets_expr, lower}
use Rattle.sql_statements.specs.declared.error.ParseError.TheVariants.{Unexpected, TooLong}
use Rattle.sql_statements.specs.Parsers.{Outcome}
use Rattle.sql_statements.specs.Limits.{max_tokens, IsShort, mark, AreTokens, lifted, past_limit, unlimited, limited}
use Rattle.sql_statements.proofs.Marks.{no_mark, only_mark, front_more, expr_tokens}
use Rattle.sql_statements.proofs.Good.{Meets, Agrees, Completes, Plain, Fills, Reaches, Good}

-- the same answer, at each depth that is enough, whatever stands behind the next token
abbrev Sure : List Lexeme → (List Lexeme → ExprOutcome SqlExpr) → List Lexeme → Type 0
Sure w answer c = (e : ℕ) (d : List Lexeme) → front d ≡ front c → length (w ++ d) ≤ e → expr e 1 (w ++ d) ≡ answer d

front_take : (n : ℕ) (c : List Lexeme) → 0 < n → front (take n c) ≡ front c
front_take zero c h = absurd (omega arith)
front_take (suc n) [] h = refl
front_take (suc n) (t ∷ c) h = refl

window : (w c : List Lexeme) → length w ≤ max_tokens → take (suc max_tokens) (w ++ c) ≡ w ++ take (suc max_tokens - length w) c
window w c h =
    let whole : suc max_tokens ≡ length w + (suc max_tokens - length w) = omega arith in
    ap (λ n. take n (w ++ c)) whole ∙ take-append-add w c (suc max_tokens - length w)

behind : (w c : List Lexeme) (n : ℕ) → n ≡ length w → drop n (w ++ c) ≡ c
behind w c n h = ap (λ n. drop n (w ++ c)) h ∙ drop-append_seam w c

past_ok : (w c : List Lexeme) (x : SqlExpr) → length w ≤ max_tokens → max_tokens < length (w ++ c) →
    past_limit (w ++ c) (Ok (x, take (suc max_tokens - length w) c)) ≡ Ok (x, c)
past_ok w c x low high =
    let k = suc max_tokens - length w in
    let size : length (take k c) ≡ k = length-take-le k c (omega (arith, length-append w c)) in
    ap (λ b. cond b (Ok (x, drop (suc max_tokens - length (take k c)) (w ++ c))) (Err (TooLong, drop max_tokens (w ++ c)))) (le-leb 1 (length (take k c)) (omega (arith, size)))
    ∙ ap (λ z. Ok (x, z)) (behind w c (suc max_tokens - length (take k c)) (omega (arith, size)))

past_err : (w c : List Lexeme) → length w ≤ max_tokens → max_tokens < length (w ++ c) → past_limit (w ++ c) (Err (take (suc max_tokens - length w) c)) ≡ Err (Unexpected, c)
past_err w c low high =
    let k = suc max_tokens - length w in
    let size : length (take k c) ≡ k = length-take-le k c (omega (arith, length-append w c)) in
    ap (λ b. cond b (Err (Unexpected, drop (suc max_tokens - length (take k c)) (w ++ c))) (Err (TooLong, drop max_tokens (w ++ c)))) (le-leb 1 (length (take k c)) (omega (arith, size)))
    ∙ ap (λ z. Err (Unexpected, z)) (behind w c (suc max_tokens - length (take k c)) (omega (arith, size)))

-- an answer within the limit stands, however many tokens there are
limited_by : (w c : List Lexeme) (answer : List Lexeme → ExprOutcome SqlExpr) (all : Outcome SqlExpr) → length w ≤ max_tokens → Sure w answer c → lifted (answer c) ≡ all →
    (max_tokens < length (w ++ c) → past_limit (w ++ c) (answer (take (suc max_tokens - length w) c)) ≡ all) → limited (w ++ c) ≡ all
unfolding limited
limited_by w c answer all low sure short long = by_test (nat_le (length (w ++ c)) max_tokens) refl
  where
    by_test : (b : Bool) → nat_le (length (w ++ c)) max_tokens ≡ b →
        cond b (lifted (expr (length (w ++ c)) 1 (w ++ c))) (past_limit (w ++ c) (expr (suc max_tokens) 1 (take (suc max_tokens) (w ++ c)))) ≡ all
    by_test true e = ap lifted (sure (length (w ++ c)) c refl (le_refl (length (w ++ c)))) ∙ short
    by_test false e =
        let high = leb-false (length (w ++ c)) max_tokens e in
        let k = suc max_tokens - length w in
        let size : length (take k c) ≡ k = length-take-le k c (omega (arith, length-append w c)) in
        ap (λ z. past_limit (w ++ c) (expr (suc max_tokens) 1 z)) (window w c low)
        ∙ ap (past_limit (w ++ c)) (sure (suc max_tokens) (take k c) (front_take k c (omega arith)) (omega (arith, length-append w (take k c), size)))
        ∙ long high

limited_ok : (w c : List Lexeme) (x : SqlExpr) → length w ≤ max_tokens → Sure w (λ d. Ok (x, d)) c → limited (w ++ c) ≡ Ok (x, c)
limited_ok w c x low sure = limited_by w c (λ d. Ok (x, d)) (Ok (x, c)) low sure refl (past_ok w c x low)

limited_err : (w c : List Lexeme) → length w ≤ max_tokens → Sure w Err c → limited (w ++ c) ≡ Err (Unexpected, c)
limited_err w c low sure = limited_by w c Err (Err (Unexpected, c)) low sure refl (past_err w c low)

unlimited_by : (w c : List Lexeme) (answer : List Lexeme → ExprOutcome SqlExpr) → Sure w answer c → unlimited (w ++ c) ≡ lifted (answer c)
unfolding unlimited
unlimited_by w c answer sure = ap lifted (sure (length (w ++ c)) c refl (le_refl (length (w ++ c))))

again : (w c r : List Lexeme) (answer : List Lexeme → ExprOutcome SqlExpr) → phrases.Echoes 0 (λ e m. expr e 1) w answer r → front c ≡ front r → Sure w answer c
again w c r answer echoes f e d g n = echoes e (length (w ++ d)) d (g ∙ f) (omega (arith, n)) (le_refl (length (w ++ d)))

-- ---- what the limited reader meets

some_tree : SqlExpr
some_tree = tree.Number (pos 0)

-- what it and the reader without a limit did
abbrev Both : List Lexeme → Outcome SqlExpr → Type 0
Both i r = Meets (λ m. limited) (λ X. X) i r × Agrees r (unlimited i)

took : (i w o r : List Lexeme) (x : SqlExpr) → i ≡ w ++ o → IsExpr w x → length w ≤ max_tokens → phrases.Echoes 0 (λ e m. expr e 1) w (λ d. Ok (x, d)) r → front o ≡ front r → Both i (Ok (x, o))
took i w o r x split held low echoes f = (
  record { word = w; split = split; holds = (held, low); echoes = λ m c g n. limited_ok w c x low (again w c r (λ d. Ok (x, d)) echoes (g ∙ f)) },
  inl (sym (ap unlimited split ∙ unlimited_by w o (λ d. Ok (x, d)) (again w o r (λ d. Ok (x, d)) echoes f))),
)

stopped : (i w o r : List Lexeme) → i ≡ w ++ o → BeginsExpr w → length w ≤ max_tokens → phrases.Echoes 0 (λ e m. expr e 1) w Err r → front o ≡ front r → Both i (Err (Unexpected, o))
stopped i w o r split begun low echoes f = (
  record {
    word = w;
    split = split;
    why = inr ([], w, [], some_tree, refl, (begun, low), inr refl);
    echoes = λ is m c g n. limited_err w c low (again w c r Err echoes (g ∙ f));
  },
  inl (sym (ap unlimited split ∙ unlimited_by w o Err (again w o r Err echoes f))),
)

-- the window has a token more than the limit
longer : (i : List Lexeme) → max_tokens < length i → (t : Lexeme) × (more : List Lexeme) × (drop max_tokens i ≡ t ∷ more) × (take (suc max_tokens) i ≡ take max_tokens i ++ t ∷ [])
longer i h = by_rest (drop max_tokens i) refl
  where
    by_rest : (r : List Lexeme) → drop max_tokens i ≡ r → (t : Lexeme) × (more : List Lexeme) × (drop max_tokens i ≡ t ∷ more) × (take (suc max_tokens) i ≡ take max_tokens i ++ t ∷ [])
    by_rest [] e = absurd (omega (arith, ap length e, length-drop max_tokens i))
    by_rest (t ∷ more) e =
        let size : length (take max_tokens i) ≡ max_tokens = length-take-le max_tokens i (omega arith) in
        let whole : i ≡ take max_tokens i ++ (t ∷ more) = sym (take-append-drop max_tokens i) ∙ ap (λ z. take max_tokens i ++ z) e in
        let count : suc max_tokens ≡ length (take max_tokens i) + 1 = omega (arith, size) in
        (t, more, e, ap (take (suc max_tokens)) whole ∙ ap (λ n. take n (take max_tokens i ++ (t ∷ more))) count ∙ take-append-add (take max_tokens i) (t ∷ more) 1)

too_long : (i : List Lexeme) → max_tokens < length i → BeginsExpr (take (suc max_tokens) i) → Both i (Err (TooLong, drop max_tokens i))
too_long i h begun =
    let more = longer i h in (
      record {
        word = take max_tokens i;
        split = sym (take-append-drop max_tokens i);
        why = ([], take max_tokens i, [], some_tree, refl, (length-take-le max_tokens i (omega arith), (more.0, more.1, more.2, subst BeginsExpr more.3 begun)), inr refl);
        echoes = λ is m c f n. absurd (cc);
      },
      inr (drop max_tokens i, refl),
    )

short : (i : List Lexeme) → length i ≤ max_tokens → (r : ExprOutcome SqlExpr) → phrases.Meets 0 (λ e m. expr e 1) (Reads 1) i r → Both i (lifted r)
short i low (Ok p) h = took i h.word p.1 p.1 p.0 h.split h.holds (omega (arith, ap length h.split, length-append h.word p.1)) h.echoes refl
short i low (Err r) h = stopped i h.word r r h.split h.begins (omega (arith, ap length h.split, length-append h.word r)) h.echoes refl

-- where the reading of the window stands, in all of the tokens
placed : (i w o : List Lexeme) → max_tokens < length i → take (suc max_tokens) i ≡ w ++ o → 0 < length o →
    (length w ≤ max_tokens) × (i ≡ w ++ drop (suc max_tokens - length o) i) × (front (drop (suc max_tokens - length o) i) ≡ front o)
placed i w o high split some =
    let size : length (take (suc max_tokens) i) ≡ suc max_tokens = length-take-le (suc max_tokens) i (omega arith) in
    let both : length w + length o ≡ suc max_tokens = omega (arith, ap length split, length-append w o, size) in
    let whole : i ≡ w ++ (o ++ drop (suc max_tokens) i) = sym (take-append-drop (suc max_tokens) i) ∙ ap (λ z. z ++ drop (suc max_tokens) i) split ∙ append_assoc w o (drop (suc max_tokens) i) in
    let rest : drop (suc max_tokens - length o) i ≡ o ++ drop (suc max_tokens) i =
    ap (drop (suc max_tokens - length o)) whole ∙ behind w (o ++ drop (suc max_tokens) i) (suc max_tokens - length o) (omega (arith, both)) in
    (omega (arith, both), whole ∙ ap (λ z. w ++ z) (sym rest), ap front rest ∙ front_more o (drop (suc max_tokens) i) some)

none_left : (o : List Lexeme) → length o < 1 → o ≡ []
none_left [] h = refl
none_left (t ∷ o) h = absurd (omega arith)

long : (i : List Lexeme) → max_tokens < length i → (r : ExprOutcome SqlExpr) → phrases.Meets 0 (λ e m. expr e 1) (Reads 1) (take (suc max_tokens) i) r → Both i (past_limit i r)
long i high (Ok p) h = by_test (nat_le 1 (length p.1)) refl
  where
    by_test : (b : Bool) → nat_le 1 (length p.1) ≡ b → Both i (cond b (Ok (p.0, drop (suc max_tokens - length p.1) i)) (Err (TooLong, drop max_tokens i)))
    by_test true e =
        let at = placed i h.word p.1 high h.split (leb-true 1 (length p.1) e) in
        took i h.word (drop (suc max_tokens - length p.1) i) p.1 p.0 at.1 h.holds at.0 h.echoes at.2
    by_test false e =
        let none = none_left p.1 (leb-false 1 (length p.1) e) in
        too_long i high ([], p.0, subst (λ z. IsExpr z p.0) (sym (append-nil (take (suc max_tokens) i) ∙ h.split ∙ ap (λ z. h.word ++ z) none ∙ append-nil h.word)) h.holds)
long i high (Err r) h = by_test (nat_le 1 (length r)) refl
  where
    by_test : (b : Bool) → nat_le 1 (length r) ≡ b → Both i (cond b (Err (Unexpected, drop (suc max_tokens - length r) i)) (Err (TooLong, drop max_tokens i)))
    by_test true e =
        let at = placed i h.word r high h.split (leb-true 1 (length r) e) in
        stopped i h.word (drop (suc max_tokens - length r) i) r at.1 h.begins at.0 h.echoes at.2
    by_test false e =
        let none = none_left r (leb-false 1 (length r) e) in
        too_long i high (subst BeginsExpr (sym (h.split ∙ ap (λ z. h.word ++ z) none ∙ append-nil h.word)) h.begins)

both : (i : List Lexeme) → Both i (limited i)
unfolding limited
both i = by_test (nat_le (length i) max_tokens) refl
  where
    by_test : (b : Bool) → nat_le (length i) max_tokens ≡ b → Both i (cond b (lifted (expr (length i) 1 i)) (past_limit i (expr (suc max_tokens) 1 (take (suc max_tokens) i))))
    by_test true e = short i (leb-true (length i) max_tokens e) (expr (length i) 1 i) (meets_expr (length i) 1 i (omega arith, omega arith, λ h. omega arith) (le_refl (length i)))
    by_test false e =
        let high = leb-false (length i) max_tokens e in
        long i high (expr (suc max_tokens) 1 (take (suc max_tokens) i))
        (meets_expr (suc max_tokens) 1 (take (suc max_tokens) i) (omega arith, omega arith, λ h. omega arith) (omega (arith, length-take-le (suc max_tokens) i (omega arith))))

read_whole : (w o : List Lexeme) (x : SqlExpr) → IsExpr w x → binds (kind o) < 1 → Sure w (λ d. Ok (x, d)) o
read_whole w o x r b e d f n = settles 1 w x (goes r) (nonempty r) e 1 d (omega arith) (subst (λ a. binds a < 1) (sym (same_kinds d o f)) b) n

pub limited_completes : Completes limited IsShort
limited_completes = (λ w o x h b. limited_ok w o x h.1 (read_whole w o x h.0 b), λ w x h. (nonempty h.0, no_star h.0))

pub unlimited_completes : Completes unlimited IsExpr
unlimited_completes = (λ w o x h b. unlimited_by w o (λ d. Ok (x, d)) (read_whole w o x h b), λ w x h. (nonempty h, no_star h))

some_short : (w : List Lexeme) × (x : SqlExpr) × IsShort w x
some_short = (plain k.Number ∷ [], tree.Number (pos 0), (lower 1 8 (omega arith) (number (plain k.Number) refl (omega arith)), omega arith))

-- what may follow an expression
abbrev pub Ends : List Lexeme → Type 0
Ends o = binds (kind o) < 1

plain_expr : Plain (λ X. X)
plain_expr w x tokens (inl held) = held
plain_expr w x tokens (inr is) = absurd (no_mark [] [] (subst AreTokens is tokens))

fills_expr : Fills (λ X. X)
fills_expr u more x tokens (inl held) e t is = absurd (no_mark u more (expr_tokens held.0))
fills_expr u more x tokens (inr alone) e t is =
    ([], t, subst (λ z. IsExpr (z ++ (e ++ [])) t) (sym (only_mark u more mark alone).0) (subst (λ z. IsExpr z t) (sym (append-nil e)) is))

reaches_expr : Reaches limited (λ X. X) Ends
reaches_expr all u more x tokens (inl held) o fits i e t is f q stops = absurd (no_mark u more (expr_tokens held.0))
reaches_expr all u more x tokens (inr alone) o fits i e t is f q stops = ap (λ z. limited (z ++ i)) (only_mark u more mark alone).0 ∙ stops

pub good_expr : Good (λ E. E) (λ X. X) Ends
good_expr = record {
  completes = λ E X e w o x held fits. e.0 w o x held fits;
  meets = λ i. (both i).0;
  agrees = λ i. (both i).1;
  some = some_short;
  wider = λ X Y wide w x held. wide w x held;
  plain = plain_expr;
  fills = fills_expr;
  reaches = reaches_expr;
}

-- ---- an expression that is too long

-- the tokens that a reading left
abbrev left : ExprOutcome SqlExpr → List Lexeme
left (Ok p) = p.1
left (Err r) = r

same_pair : (p q : SqlExpr × List Lexeme) → ◌≡◌ {A = ExprOutcome SqlExpr} (Ok p) (Ok q) → p ≡ q
same_pair p q h = cc

-- what is read of a beginning of an expression leaves nothing of it
nothing_left : (w m : List Lexeme) (y : SqlExpr) (r : ExprOutcome SqlExpr) → IsExpr (w ++ m) y → phrases.Meets 0 (λ e m. expr e 1) (Reads 1) w r → left r ≡ []
nothing_left w m y (Ok p) is h = by_rest p.1 refl
  where
    by_rest : (o : List Lexeme) → p.1 ≡ o → p.1 ≡ []
    by_rest [] e = e
    by_rest (t ∷ o) e =
        let split : w ++ m ≡ h.word ++ (p.1 ++ m) = ap (λ z. z ++ m) h.split ∙ append_assoc h.word p.1 m in
        let n = length (w ++ m) in
        let some : front (p.1 ++ m) ≡ front p.1 = front_more p.1 m (omega (arith, ap length e)) in
        let short = h.echoes n n (p.1 ++ m) some (omega (arith, ap length split)) (omega (arith, ap length split)) in
        let all : expr n 1 (w ++ m) ≡ Ok (y, []) = ap (expr n 1) (sym (append-nil (w ++ m))) ∙ read_whole (w ++ m) [] y is (omega arith) n [] refl (omega (arith, ap length (append-nil (w ++ m)))) in
        let ends = ap (λ z. length z.1) (same_pair (p.0, p.1 ++ m) (y, []) (sym short ∙ ap (expr n 1) (sym split) ∙ all)) in
        absurd (omega (arith, ends, ap length e, length-append p.1 m))
nothing_left w m y (Err r) is h = by_rest r refl
  where
    by_rest : (o : List Lexeme) → r ≡ o → r ≡ []
    by_rest [] e = e
    by_rest (t ∷ o) e =
        let split : w ++ m ≡ h.word ++ (r ++ m) = ap (λ z. z ++ m) h.split ∙ append_assoc h.word r m in
        let n = length (w ++ m) in
        let some : front (r ++ m) ≡ front r = front_more r m (omega (arith, ap length e)) in
        let short = h.echoes n n (r ++ m) some (omega (arith, ap length split)) (omega (arith, ap length split)) in
        let all : expr n 1 (w ++ m) ≡ Ok (y, []) = ap (expr n 1) (sym (append-nil (w ++ m))) ∙ read_whole (w ++ m) [] y is (omega arith) n [] refl (omega (arith, ap length (append-nil (w ++ m)))) in
        let wrong = sym short ∙ ap (expr n 1) (sym split) ∙ all in
        absurd (cc)

past_end : (i : List Lexeme) (r : ExprOutcome SqlExpr) → left r ≡ [] → past_limit i r ≡ Err (TooLong, drop max_tokens i)
past_end i (Ok p) e = ap (λ z. cond (nat_le 1 (length z)) (Ok (p.0, drop (suc max_tokens - length z) i)) (Err (TooLong, drop max_tokens i))) e
past_end i (Err r) e = ap (λ z. cond (nat_le 1 (length z)) (Err (Unexpected, drop (suc max_tokens - length z) i)) (Err (TooLong, drop max_tokens i))) e

-- the most tokens, and one with which an expression goes on
pub limited_long : (v rest : List Lexeme) (t : Lexeme) → length v ≡ max_tokens → BeginsExpr (v ++ t ∷ []) → limited (v ++ t ∷ rest) ≡ Err (TooLong, t ∷ rest)
unfolding limited
limited_long v rest t size begun = by_test (nat_le (length (v ++ t ∷ rest)) max_tokens) refl
  where
    by_test : (b : Bool) → nat_le (length (v ++ t ∷ rest)) max_tokens ≡ b →
        cond b (lifted (expr (length (v ++ t ∷ rest)) 1 (v ++ t ∷ rest))) (past_limit (v ++ t ∷ rest) (expr (suc max_tokens) 1 (take (suc max_tokens) (v ++ t ∷ rest)))) ≡ Err (TooLong, t ∷ rest)
    by_test true e = absurd (omega (arith, leb-true (length (v ++ t ∷ rest)) max_tokens e, length-append v (t ∷ rest), size))
    by_test false e =
        let count : suc max_tokens ≡ length v + 1 = omega (arith, size) in
        let front_is : take (suc max_tokens) (v ++ t ∷ rest) ≡ v ++ t ∷ [] = ap (λ n. take n (v ++ t ∷ rest)) count ∙ take-append-add v (t ∷ rest) 1 in
        let read = expr (suc max_tokens) 1 (v ++ t ∷ []) in
        let none = nothing_left (v ++ t ∷ []) begun.0 begun.1 read begun.2
        (meets_expr (suc max_tokens) 1 (v ++ t ∷ []) (omega arith, omega arith, λ h. omega arith) (omega (arith, length-append v (t ∷ []), size))) in
        ap (λ z. past_limit (v ++ t ∷ rest) (expr (suc max_tokens) 1 z)) front_is
        ∙ past_end (v ++ t ∷ rest) read none
        ∙ ap (λ z. Err (TooLong, z)) (behind v (t ∷ rest) max_tokens (sym size))
