-- The grammar has one reading of the tokens, and the reader's answer is what the grammar says.
use Rattle.std.proofs.Common.{◌≡◌, ◌≢◌, ℕ, suc, ◌+◌, ◌-◌, ◌≤◌, ◌<◌, List, [], ◌∷◌, ◌++◌, length, take, drop, Result, Ok, Err, refl, sym, ap, ◌∙◌, subst, append_assoc, append-nil, arith, length-append, le_refl, ◌⊎◌, inl, inr, ⊎_elim}
use Rattle.std.specs.Prelude.{IfOk}
use Rattle.std.proofs.Math.Seq.{take-append_seam, take-append-add, drop-append_seam}
use Rattle.sql_tree.specs.declared.statement.Statement.{Statement}
use Rattle.sql_tree.specs.declared.lexeme.Lexeme.{Lexeme}
use Rattle.sql_expr.specs.Grammar.{IsExpr}
use Rattle.sql_statements.specs.declared.error.ParseError.{ParseError}
use Rattle.sql_statements.specs.declared.error.ParseError.TheVariants as errors
use Rattle.sql_statements.specs.declared.error.Refusal.{Refusal}
use Rattle.sql_statements.specs.declared.error.Refusal.TheVariants.{Memory, Unexpected, TooLong}
use Rattle.sql_statements.specs.Parsers.{Outcome}
use Rattle.sql_statements.specs.Grammar.{pipeline}
use Rattle.sql_statements.specs.Descent.{pipeline as pipeline_reader}
use Rattle.sql_statements.specs.Limits.{IsShort, IsFull, Cut, limited, unlimited}
use Rattle.sql_statements.specs.Pipelines.{IsPipeline, IsShortPipeline, BeginsPipeline, IsTooLong, ended, whole, IsAnswer}
use Rattle.sql_statements.proofs.Good.{Meets, Echoes, IsLong, Begun, short_in}
use Rattle.sql_statements.proofs.Window.{limited_completes, unlimited_completes}
use Rattle.sql_statements.proofs.Pipelines.{good_pipeline}

abbrev Reader : ℕ → List Lexeme → Outcome (List Statement)
Reader m = pipeline_reader limited

reads_short : (ts : List Lexeme) (p : List Statement) → IsShortPipeline ts p → pipeline_reader limited ts ≡ Ok (p, [])
reads_short ts p h = ap (pipeline_reader limited) (sym (append-nil ts)) ∙ good_pipeline.completes limited IsShort limited_completes ts [] p h refl

reads_any : (ts : List Lexeme) (p : List Statement) → IsPipeline ts p → pipeline_reader unlimited ts ≡ Ok (p, [])
reads_any ts p h = ap (pipeline_reader unlimited) (sym (append-nil ts)) ∙ good_pipeline.completes unlimited IsExpr unlimited_completes ts [] p h refl

same_pair : (p q : List Statement × List Lexeme) → ◌≡◌ {A = Outcome (List Statement)} (Ok p) (Ok q) → p ≡ q
same_pair p q h = cc

same_error : (p q : ParseError × List Lexeme) → ◌≡◌ {A = Outcome (List Statement)} (Err p) (Err q) → p ≡ q
same_error p q h = cc

not_long : (c o : List Lexeme) → ◌≡◌ {A = Outcome (List Statement)} (Err (errors.Unexpected, c)) (Err (errors.TooLong, o)) → ⊥
not_long c o h = let kinds = ap (λ p. p.0) (same_error (errors.Unexpected, c) (errors.TooLong, o) h) in absurd (cc)

-- the tokens of a pipeline have one list of statements
pub one_pipeline : (ts : List Lexeme) (p q : List Statement) → IsPipeline ts p → IsPipeline ts q → p ≡ q
one_pipeline ts p q g h = ap (λ z. z.0) (same_pair (p, []) (q, []) (sym (reads_any ts p g) ∙ reads_any ts q h))

-- what the reader with the limit answers, no pipeline gainsays
agreed : (ts : List Lexeme) (r : Outcome (List Statement)) → pipeline_reader limited ts ≡ r → (IsLong r → ⊥) → pipeline_reader unlimited ts ≡ r
agreed ts r e never = ⊎_elim (λ same. sym same ∙ e) (λ long. absurd (never (long.0, sym e ∙ long.1))) (good_pipeline.agrees ts)

-- what is read within the limit is read without it
pub wide : (ts : List Lexeme) (p : List Statement) → IsShortPipeline ts p → IsPipeline ts p
wide ts p h = good_pipeline.wider IsShort IsExpr short_in ts p h

-- ---- where a reading stops

-- The tokens before this place begin a pipeline whose outermost expressions are within the limit so far. With the one at
-- this place no pipeline begins, or all tokens are a beginning and no whole.
pub record IsStopped (ts : List Lexeme) (at : ℕ) : Type 0 where
  pub within : at ≤ length ts
  pub begins : Begun pipeline (take at ts)
  pub stops : at < length ts → BeginsPipeline (take (suc at) ts) → ⊥
  pub not_whole : (p : List Statement) → IsPipeline ts p → ⊥

stops_at : (ts w r : List Lexeme) → ts ≡ w ++ r → (answer : List Lexeme → Outcome (List Statement)) → Begun pipeline w → Echoes Reader w answer r → ((c : List Lexeme) → IsLong (answer c) → ⊥) →
    ((c : List Lexeme) (p : List Statement) → 0 < length c → answer c ≢ Ok (p, [])) → ((p : List Statement) → IsPipeline ts p → ⊥) → IsStopped ts (length ts - length r)
stops_at ts w r split answer begins echoes short never none =
    let at : length ts - length r ≡ length w = omega (arith, ap length split, length-append w r) in
    let read : take (length ts - length r) ts ≡ w = ap (λ n. take n ts) at ∙ ap (take (length w)) split ∙ take-append_seam w r in
    record {
      within = omega arith;
      begins = subst (Begun pipeline) (sym read) begins;
      stops = λ more more_begins. by_rest r split echoes at more more_begins;
      not_whole = none;
    }
  where
    by_rest : (r : List Lexeme) → ts ≡ w ++ r → Echoes Reader w answer r → length ts - length r ≡ length w → length ts - length r < length ts → BeginsPipeline (take (suc (length ts - length r)) ts) → ⊥
    by_rest [] split echoes at more begun = omega (arith, ap length split, ap length (append-nil w))
    by_rest (t ∷ r) split echoes at more begun =
        let one_more : suc (length ts - length (t ∷ r)) ≡ length w + 1 = omega (arith, at) in
        let read : take (suc (length ts - length (t ∷ r))) ts ≡ w ++ t ∷ [] = ap (λ n. take n ts) one_more ∙ ap (take (length w + 1)) split ∙ take-append-add w (t ∷ r) 1 in
        let all : (take (suc (length ts - length (t ∷ r))) ts) ++ begun.0 ≡ w ++ (t ∷ begun.0) = ap (λ z. z ++ begun.0) read ∙ append_assoc w (t ∷ []) begun.0 in
        let is : IsPipeline (w ++ (t ∷ begun.0)) begun.1 = subst (λ z. IsPipeline z begun.1) all begun.2 in
        let here = echoes (length (w ++ (t ∷ begun.0))) (t ∷ begun.0) refl (le_refl (length (w ++ (t ∷ begun.0)))) in
        never (t ∷ begun.0) begun.1 (omega arith) (sym (agreed (w ++ (t ∷ begun.0)) (answer (t ∷ begun.0)) here (short (t ∷ begun.0))) ∙ reads_any (w ++ (t ∷ begun.0)) begun.1 is)

-- what an answer says of the tokens
abbrev pub IsTrueOf : List Lexeme → Result (List Statement) Refusal → Type 0
IsTrueOf ts (Ok p) = IsShortPipeline ts p
IsTrueOf ts (Err Memory) = ⊥
IsTrueOf ts (Err (Unexpected at)) = IsStopped ts at
IsTrueOf ts (Err (TooLong at)) = IsTooLong ts at

long_at : (ts w r : List Lexeme) → ts ≡ w ++ r → Cut pipeline (IsFull r) w → IsTooLong ts (length ts - length r)
long_at ts w r split cut =
    let at : length ts - length r ≡ length w = omega (arith, ap length split, length-append w r) in
    let before : take (length ts - length r) ts ≡ w = ap (λ n. take n ts) at ∙ ap (take (length w)) split ∙ take-append_seam w r in
    let behind : drop (length ts - length r) ts ≡ r = ap (λ n. drop n ts) at ∙ ap (drop (length w)) split ∙ drop-append_seam w r in
    record {
      within = omega (arith, ap length split, length-append w r, ap length cut.5.1.2);
      cut = subst (λ z. Cut pipeline (IsFull z) (take (length ts - length r) ts)) (sym behind) (subst (λ z. Cut pipeline (IsFull r) z) (sym before) cut);
    }

no_rest : (ts : List Lexeme) (x y : List Statement) (t : Lexeme) (o : List Lexeme) → pipeline_reader unlimited ts ≡ Ok (x, t ∷ o) → IsPipeline ts y → ⊥
no_rest ts x y t o e is = omega (arith, ap (λ p. length p.1) (same_pair (x, t ∷ o) (y, []) (sym e ∙ reads_any ts y is)))

true_by : (ts : List Lexeme) (r : Outcome (List Statement)) → pipeline_reader limited ts ≡ r → Meets Reader pipeline ts r → IsTrueOf ts (ended (length ts) r)
true_by ts (Ok (p, [])) e h = subst (λ z. IsShortPipeline z p) (sym (append-nil h.word) ∙ sym h.split) h.holds
true_by ts (Ok (p, t ∷ o)) e h =
    stops_at ts h.word (t ∷ o) h.split (λ c. Ok (p, c)) (inl ([], p, subst (λ z. IsShortPipeline z p) (sym (append-nil h.word)) h.holds)) h.echoes (λ c long. let is = long.1 in absurd (cc))
    (λ c q some same. omega (arith, ap (λ p. length p.1) (same_pair (p, c) (q, []) same)))
    (λ q is. no_rest ts p q t o (agreed ts (Ok (p, t ∷ o)) e (λ long. let is = long.1 in absurd (cc))) is)
true_by ts (Err (errors.Memory, r)) e h = h.why
true_by ts (Err (errors.Unexpected, r)) e h =
    stops_at ts h.word r h.split (λ c. Err (errors.Unexpected, c)) h.why (h.echoes refl) (λ c long. not_long c long.0 long.1) (λ c q some same. cc)
    (λ q is. let all = reads_any ts q is in let here = agreed ts (Err (errors.Unexpected, r)) e (λ long. not_long r long.0 long.1) in absurd (cc))
true_by ts (Err (errors.TooLong, r)) e h = long_at ts h.word r h.split h.why

pub whole_true : (ts : List Lexeme) → IsTrueOf ts (whole ts)
unfolding whole
whole_true ts = true_by ts (pipeline_reader limited ts) refl (good_pipeline.meets ts)

pub whole_takes : (ts : List Lexeme) (p : List Statement) → IsShortPipeline ts p → whole ts ≡ Ok p
unfolding whole
whole_takes ts p is = ap (ended (length ts)) (reads_short ts p is)

-- ---- the public clauses, from the answer

pub answer_ok : (ts : List Lexeme) (r : Result (List Statement) Refusal) → IsAnswer (whole ts) r → IfOk r (λ p. IsShortPipeline ts p)
answer_ok ts (Ok p) h = subst (IsTrueOf ts) h (whole_true ts)
answer_ok ts (Err e) h = tt

pub answer_only : (ts : List Lexeme) (r : Result (List Statement) Refusal) → IsAnswer (whole ts) r → (p : List Statement) → IsShortPipeline ts p → (r ≡ Ok p) ⊎ (r ≡ Err Memory)
answer_only ts (Ok q) h p is = inl (sym h ∙ whole_takes ts p is)
answer_only ts (Err Memory) h p is = inr refl
answer_only ts (Err (Unexpected at)) h p is = let none = h (λ e. cc) in let some = whole_takes ts p is in absurd (cc)
answer_only ts (Err (TooLong at)) h p is = let none = h (λ e. cc) in let some = whole_takes ts p is in absurd (cc)
