-- The grammar has one tree for the tokens, and the reader's answer is what the grammar says.
use Rattle.std.proofs.Common.{◌≡◌, ◌≢◌, ℕ, zero, suc, ◌+◌, ◌-◌, ◌≤◌, ◌<◌, Bool, true, false, cond, List, [], ◌∷◌, ◌++◌, length, take, drop, length-take, take-take, take-append-drop, Result, Ok, Err, refl, sym, ap, ◌∙◌, subst, append_assoc, append-nil, arith, length-append, le_refl, le_trans, ◌⊎◌, inl, inr}
use Rattle.std.specs.Prelude.{IfOk}
use Rattle.std.proofs.lemmas.Bool.{le-leb, leb-true, leb-false, lt-leb}
use Rattle.std.proofs.Math.Seq.{take-append_seam, take-append-add}
use Rattle.sql_tree.specs.declared.expr.SqlExpr.{SqlExpr}
use Rattle.sql_expr.specs.declared.error.Refusal.{Refusal}
use Rattle.sql_expr.specs.declared.error.Refusal.TheVariants.{Memory, Unexpected}
use Rattle.sql_tree.specs.declared.lexeme.Lexeme.{Lexeme}
use Rattle.sql_tree.specs.Lexemes.{kind}
use Rattle.sql_expr.specs.Operators.{binds}
use Rattle.sql_expr.specs.Grammar.{Reads, IsExpr, BeginsExpr, IsUnexpected}
use Rattle.sql_phrases.specs.Parsers.{Outcome}
use Rattle.sql_expr.specs.Descent.{expr, ended, whole, IsPlaced}
use Rattle.sql_phrases.proofs.Phrases.{Meets, Taken, Stuck, Echoes, front}
use Rattle.sql_expr.proofs.Reading.{goes, settles, nonempty}
use Rattle.sql_expr.proofs.Meeting.{meets_expr}

-- an expression is read whole, at any depth that is enough
pub reads_whole : (w : List Lexeme) (x : SqlExpr) → IsExpr w x → (d : ℕ) → length w ≤ d → expr d 1 w ≡ Ok (x, [])
reads_whole w x r d h =
    subst (λ z. expr d 1 z ≡ Ok (x, [])) (append-nil w) (settles 1 w x (goes r) (nonempty r) d 1 [] (omega arith) (omega arith) (omega (arith, ap length (append-nil w))))

-- the pair of an answer
same_pair : (p q : SqlExpr × List Lexeme) → ◌≡◌ {A = Outcome SqlExpr} (Ok p) (Ok q) → p ≡ q
same_pair p q h = cc

pub one_tree : (w : List Lexeme) (x y : SqlExpr) → IsExpr w x → IsExpr w y → x ≡ y
one_tree w x y r s =
    let first = reads_whole w x r (length w) (le_refl (length w)) in
    let second = reads_whole w y s (length w) (le_refl (length w)) in
    ap (λ p. p.0) (same_pair (x, []) (y, []) (sym first ∙ second))

-- ---- where a reading stops

stops_at : (ts w r : List Lexeme) → ts ≡ w ++ r → (answer : List Lexeme → Outcome SqlExpr) → BeginsExpr w → Echoes 0 (λ e m. expr e 1) w answer r →
    ((c : List Lexeme) (y : SqlExpr) → 0 < length c → answer c ≢ Ok (y, [])) → ((x : SqlExpr) → IsExpr ts x → ⊥) → IsUnexpected ts (length ts - length r)
stops_at ts w r split answer begins echoes never none =
    let at : length ts - length r ≡ length w = omega (arith, ap length split, length-append w r) in
    let read : take (length ts - length r) ts ≡ w = ap (λ n. take n ts) at ∙ ap (take (length w)) split ∙ take-append_seam w r in
    record {
      within = omega arith;
      begins = subst BeginsExpr (sym read) begins;
      stops = λ more more_begins. by_rest r split echoes at more more_begins;
      not_whole = none;
    }
  where
    by_rest : (r : List Lexeme) → ts ≡ w ++ r → Echoes 0 (λ e m. expr e 1) w answer r → length ts - length r ≡ length w → length ts - length r < length ts → BeginsExpr (take (suc (length ts - length r)) ts) → ⊥
    by_rest [] split echoes at more begun = omega (arith, ap length split, ap length (append-nil w))
    by_rest (t ∷ r) split echoes at more begun =
        let one_more : suc (length ts - length (t ∷ r)) ≡ length w + 1 = omega (arith, at) in
        let read : take (suc (length ts - length (t ∷ r))) ts ≡ w ++ t ∷ [] = ap (λ n. take n ts) one_more ∙ ap (take (length w + 1)) split ∙ take-append-add w (t ∷ r) 1 in
        let whole : (take (suc (length ts - length (t ∷ r))) ts) ++ begun.0 ≡ w ++ (t ∷ begun.0) = ap (λ z. z ++ begun.0) read ∙ append_assoc w (t ∷ []) begun.0 in
        let is : IsExpr (w ++ (t ∷ begun.0)) begun.1 = subst (λ z. IsExpr z begun.1) whole begun.2 in
        let n = length (w ++ (t ∷ begun.0)) in
        never (t ∷ begun.0) begun.1 (omega arith) (sym (echoes n n (t ∷ begun.0) refl (omega arith) (le_refl n)) ∙ reads_whole (w ++ (t ∷ begun.0)) begun.1 is n (le_refl n))

abbrev pub IsRight : List Lexeme → Result SqlExpr ℕ → Type 0
IsRight ts (Ok x) = IsExpr ts x
IsRight ts (Err at) = IsUnexpected ts at

right_by : (ts : List Lexeme) (r : Outcome SqlExpr) → expr (length ts) 1 ts ≡ r → Meets 0 (λ e m. expr e 1) (Reads 1) ts r → IsRight ts (ended (length ts) r)
right_by ts (Ok (x, [])) e h = subst (λ z. IsExpr z x) (sym (append-nil h.word) ∙ sym h.split) h.holds
right_by ts (Ok (x, t ∷ o)) e h =
    stops_at ts h.word (t ∷ o) h.split (λ c. Ok (x, c)) ([], x, subst (λ z. IsExpr z x) (sym (append-nil h.word)) h.holds) h.echoes
    (λ c y some same. omega (arith, ap (λ p. length p.1) (same_pair (x, c) (y, []) same)))
    (λ y is. let all = reads_whole ts y is (length ts) (le_refl (length ts)) in omega (arith, ap (λ p. length p.1) (same_pair (x, t ∷ o) (y, []) (sym e ∙ all))))
right_by ts (Err r) e h =
    stops_at ts h.word r h.split Err h.begins h.echoes (λ c y some same. cc) (λ y is. let all = reads_whole ts y is (length ts) (le_refl (length ts)) in cc)

pub whole_right : (ts : List Lexeme) → IsRight ts (whole ts)
unfolding whole
whole_right ts = right_by ts (expr (length ts) 1 ts) refl (meets_expr (length ts) 1 ts (omega arith, omega arith, λ h. omega arith) (le_refl (length ts)))

pub whole_takes : (ts : List Lexeme) (x : SqlExpr) → IsExpr ts x → whole ts ≡ Ok x
unfolding whole
whole_takes ts x is = ap (ended (length ts)) (reads_whole ts x is (length ts) (le_refl (length ts)))

-- ---- the public clauses, from the answer

pub answer_ok : (ts : List Lexeme) (r : Result SqlExpr Refusal) → IsPlaced (whole ts) r → IfOk r (λ x. IsExpr ts x)
answer_ok ts (Ok x) h = subst (IsRight ts) h (whole_right ts)
answer_ok ts (Err e) h = tt

same_tree : (x y : SqlExpr) → ◌≡◌ {A = Result SqlExpr ℕ} (Ok x) (Ok y) → x ≡ y
same_tree x y e = cc

pub answer_only : (ts : List Lexeme) (r : Result SqlExpr Refusal) → IsPlaced (whole ts) r → (x : SqlExpr) → IsExpr ts x → (r ≡ Ok x) ⊎ (r ≡ Err Memory)
answer_only ts (Ok y) h x is = inl (ap Ok (same_tree y x (sym h ∙ whole_takes ts x is)))
answer_only ts (Err Memory) h x is = inr refl
answer_only ts (Err (Unexpected at)) h x is = let some = whole_takes ts x is in absurd (cc)

pub answer_unexpected : (ts : List Lexeme) (r : Result SqlExpr Refusal) → IsPlaced (whole ts) r → (at : ℕ) → r ≡ Err (Unexpected at) → IsUnexpected ts at
answer_unexpected ts r h at e = subst (IsRight ts) (subst (IsPlaced (whole ts)) e h) (whole_right ts)
