-- Tokens are read in one way or refused for one reason, which is the one that the reader gives.
use Rattle.std.proofs.Common.{◌≡◌, ℕ, suc, ◌+◌, ◌-◌, ◌≤◌, ◌<◌, List, [], ◌∷◌, ◌++◌, length, take, drop, take-append-drop, Result, Ok, Err, refl, sym, ap, ◌∙◌, subst, append_assoc, arith, ◌⊎◌, inl, inr, ⊎_elim}
use Rattle.std.specs.Prelude.{IfErr}
use Rattle.std.proofs.lemmas.Bool.{cases_lt, cases_order}
use Rattle.std.proofs.lemmas.List.{take-take, length-take-le, length-drop}
use Rattle.std.proofs.Math.Seq.{take-append-add}
use Rattle.sql_tree.specs.declared.statement.Statement.{Statement}
use Rattle.sql_tree.specs.declared.lexeme.Lexeme.{Lexeme}
use Rattle.sql_phrases.proofs.Phrases.{front, front_append}
use Rattle.sql_expr.specs.Grammar.{BeginsExpr}
use Rattle.sql_statements.specs.declared.error.ParseError.TheVariants as errors
use Rattle.sql_statements.specs.declared.error.Refusal.{Refusal}
use Rattle.sql_statements.specs.declared.error.Refusal.TheVariants.{Memory, Unexpected, TooLong}
use Rattle.sql_statements.specs.Grammar.{pipeline}
use Rattle.sql_statements.specs.Descent.{pipeline as pipeline_reader}
use Rattle.sql_statements.specs.Limits.{max_tokens, IsMarked, mark, AreTokens, limited}
use Rattle.sql_statements.specs.Pipelines.{IsPipeline, IsShortPipeline, BeginsPipeline, IsTooLong, IsUnexpected, IsRefused, ended, whole, IsAnswer}
use Rattle.sql_statements.proofs.Marks.{tokens_before}
use Rattle.sql_statements.proofs.Good.{Begun}
use Rattle.sql_statements.proofs.Window.{limited_completes, limited_long}
use Rattle.sql_statements.proofs.Pipelines.{good_pipeline}
use Rattle.sql_statements.proofs.Answers.{wide, IsStopped, IsTrueOf, whole_true, whole_takes}

-- ---- beginnings

begins_less : (ts : List Lexeme) (m n : ℕ) → m ≤ n → BeginsPipeline (take n ts) → BeginsPipeline (take m ts)
begins_less ts m n le (more, p, is) =
    let all : take m ts ++ (drop m (take n ts) ++ more) ≡ take n ts ++ more =
    sym (append_assoc (take m ts) (drop m (take n ts)) more)
    ∙ ap (λ z. (z ++ drop m (take n ts)) ++ more) (sym (take-take m n ts le))
    ∙ ap (λ z. z ++ more) (take-append-drop m (take n ts)) in
    (drop m (take n ts) ++ more, p, subst (λ z. IsPipeline z p) (sym all) is)

-- a beginning of an expression, where one stands at the mark
begins_filled : (u v more : List Lexeme) (x : List Statement) → AreTokens u → pipeline IsMarked (u ++ mark ∷ more) x → BeginsExpr v → BeginsPipeline (u ++ v)
begins_filled u v more x tokens marked (m, y, is) =
    let f = good_pipeline.fills u more x tokens marked (v ++ m) y is in
    let all : u ++ ((v ++ m) ++ f.0) ≡ (u ++ v) ++ (m ++ f.0) = simp append_assoc in
    (m ++ f.0, f.1, subst (λ z. IsPipeline z f.1) all f.2)

begun_begins : (w : List Lexeme) → AreTokens w → Begun pipeline w → BeginsPipeline w
begun_begins w tokens (inl (more, x, h)) = (more, x, wide (w ++ more) x h)
begun_begins w tokens (inr (u, v, more, x, split, open_word, marked)) =
    subst BeginsPipeline (sym split) (begins_filled u v more x (tokens_before u v (subst AreTokens split tokens)) marked open_word.0)

tokens_taken : (n : ℕ) (ts : List Lexeme) → AreTokens ts → AreTokens (take n ts)
tokens_taken n ts tokens = tokens_before (take n ts) (drop n ts) (subst AreTokens (sym (take-append-drop n ts)) tokens)

-- the tokens up to one that goes past the limit, and that one
parted : (ts : List Lexeme) (at : ℕ) (u v rest : List Lexeme) (t : Lexeme) → take at ts ≡ u ++ v → drop at ts ≡ t ∷ rest → ts ≡ u ++ (v ++ t ∷ rest)
parted ts at u v rest t before behind =
    sym (take-append-drop at ts) ∙ ap (λ z. z ++ drop at ts) before ∙ ap (λ z. (u ++ v) ++ z) behind ∙ append_assoc u v (t ∷ rest)

taken_one : (ts : List Lexeme) (at : ℕ) (u v rest : List Lexeme) (t : Lexeme) → at < length ts → take at ts ≡ u ++ v → drop at ts ≡ t ∷ rest → take (suc at) ts ≡ u ++ (v ++ t ∷ [])
taken_one ts at u v rest t within before behind =
    let size : length (u ++ v) ≡ at = sym (ap length before) ∙ length-take-le at ts (omega arith) in
    let count : suc at ≡ length (u ++ v) + 1 = omega (arith, size) in
    let all : ts ≡ (u ++ v) ++ (t ∷ rest) = parted ts at u v rest t before behind ∙ sym (append_assoc u v (t ∷ rest)) in
    ap (λ n. take n ts) count ∙ ap (take (length (u ++ v) + 1)) all ∙ take-append-add (u ++ v) (t ∷ rest) 1 ∙ append_assoc u v (t ∷ [])

long_begins : (ts : List Lexeme) (at : ℕ) → AreTokens ts → IsTooLong ts at → BeginsPipeline (take (suc at) ts)
long_begins ts at tokens h =
    let (u, v, more, x, before, (size, (t, rest, behind, begun)), marked) = h.cut in
    subst BeginsPipeline (sym (taken_one ts at u v rest t h.within before behind))
    (begins_filled u (v ++ t ∷ []) more x (tokens_before u v (subst AreTokens before (tokens_taken at ts tokens))) marked begun)

-- ---- the reader stops at the token that goes past the limit

reads_long : (u v rest more : List Lexeme) (t : Lexeme) (x : List Statement) → AreTokens u → pipeline IsMarked (u ++ mark ∷ more) x → length v ≡ max_tokens → BeginsExpr (v ++ t ∷ []) →
    pipeline_reader limited (u ++ (v ++ t ∷ rest)) ≡ Err (errors.TooLong, t ∷ rest)
reads_long u v rest more t x tokens marked size begun =
    let split : (v ++ t ∷ []) ++ begun.0 ≡ v ++ (t ∷ begun.0) = append_assoc v (t ∷ []) begun.0 in
    good_pipeline.reaches limited_completes u more x tokens marked [] refl (v ++ t ∷ rest) ((v ++ t ∷ []) ++ begun.0) begun.1 begun.2
    (front_append v (t ∷ rest) (t ∷ begun.0) refl ∙ sym (ap front split)) (errors.TooLong, t ∷ rest) (limited_long v rest t size begun)

whole_long : (ts : List Lexeme) (at : ℕ) → AreTokens ts → IsTooLong ts at → whole ts ≡ Err (TooLong at)
unfolding whole
whole_long ts at tokens h =
    let (u, v, more, x, before, (size, (t, rest, behind, begun)), marked) = h.cut in
    let place : length ts - length (t ∷ rest) ≡ at = omega (arith, h.within, sym (ap length behind) ∙ length-drop at ts) in
    ap (ended (length ts)) (ap (pipeline_reader limited) (parted ts at u v rest t before behind)
    ∙ reads_long u v rest more t x (tokens_before u v (subst AreTokens before (tokens_taken at ts tokens))) marked size begun)
    ∙ ap (λ n. Err (TooLong n)) place

-- ---- the answer is a reason, and the reason is the answer

stopped_unexpected : (ts : List Lexeme) (at : ℕ) → AreTokens ts → whole ts ≡ Err (Unexpected at) → IsStopped ts at → IsUnexpected ts at
stopped_unexpected ts at tokens answer h = record {
  within = h.within;
  begins = begun_begins (take at ts) (tokens_taken at ts tokens) h.begins;
  none_too_long = λ earlier less long. let other = whole_long ts earlier tokens long in cc;
  stops = h.stops;
  not_whole = h.not_whole;
}

unexpected_here : (ts : List Lexeme) (at : ℕ) → AreTokens ts → IsUnexpected ts at → (r : Result (List Statement) Refusal) → whole ts ≡ r → IsTrueOf ts r → r ≡ Err (Unexpected at)
unexpected_here ts at tokens h (Ok p) answer is = absurd (h.not_whole p (wide ts p is))
unexpected_here ts at tokens h (Err Memory) answer is = absurd is
unexpected_here ts at tokens h (Err (Unexpected n)) answer is = ⊎_elim (λ same. ap (λ n. Err (Unexpected n)) (sym same))
    (λ other. absurd (⊎_elim
    (λ before. h.stops (omega (arith, is.within)) (begins_less ts (suc at) n before (begun_begins (take n ts) (tokens_taken n ts tokens) is.begins)))
    (λ behind. is.stops (omega (arith, h.within)) (begins_less ts (suc n) at behind h.begins)) other)) (cases_order at n)
unexpected_here ts at tokens h (Err (TooLong n)) answer is = absurd (⊎_elim (λ before. h.none_too_long n before is)
    (λ behind. h.stops (omega (arith, is.within)) (begins_less ts (suc at) (suc n) (omega arith) (long_begins ts n tokens is))) (cases_lt n at))

whole_refuses : (ts : List Lexeme) (r : Refusal) → AreTokens ts → IsRefused ts r → whole ts ≡ Err r
whole_refuses ts Memory tokens h = absurd h
whole_refuses ts (Unexpected at) tokens h = unexpected_here ts at tokens h (whole ts) refl (whole_true ts)
whole_refuses ts (TooLong at) tokens h = whole_long ts at tokens h

pub answer_refused : (ts : List Lexeme) (r : Result (List Statement) Refusal) → IsAnswer (whole ts) r → AreTokens ts → IfErr r (λ e. (e ≡ Memory) ⊎ IsRefused ts e)
answer_refused ts (Ok p) h tokens = tt
answer_refused ts (Err Memory) h tokens = inl refl
answer_refused ts (Err (Unexpected at)) h tokens =
    let answer = h (λ e. cc) in
    inr (stopped_unexpected ts at tokens answer (subst (IsTrueOf ts) answer (whole_true ts)))
answer_refused ts (Err (TooLong at)) h tokens = inr (subst (IsTrueOf ts) (h (λ e. cc)) (whole_true ts))

pub answer_only_refused : (ts : List Lexeme) (r : Result (List Statement) Refusal) → IsAnswer (whole ts) r → (e : Refusal) → AreTokens ts → IsRefused ts e → (r ≡ Err e) ⊎ (r ≡ Err Memory)
answer_only_refused ts (Ok p) h e tokens is = let other = whole_refuses ts e tokens is in absurd (cc)
answer_only_refused ts (Err Memory) h e tokens is = inr refl
answer_only_refused ts (Err (Unexpected at)) h e tokens is = inl (sym (h (λ e. cc)) ∙ whole_refuses ts e tokens is)
answer_only_refused ts (Err (TooLong at)) h e tokens is = inl (sym (h (λ e. cc)) ∙ whole_refuses ts e tokens is)

-- ---- laws

same_refusal : (r s : Refusal) → ◌≡◌ {A = Result (List Statement) Refusal} (Err r) (Err s) → r ≡ s
same_refusal r s h = cc

pub one_refusal : (ts : List Lexeme) (r s : Refusal) → AreTokens ts → IsRefused ts r → IsRefused ts s → r ≡ s
one_refusal ts r s tokens g h = same_refusal r s (sym (whole_refuses ts r tokens g) ∙ whole_refuses ts s tokens h)

pub refusals_apart : (ts : List Lexeme) (p : List Statement) (r : Refusal) → AreTokens ts → IsShortPipeline ts p → IsRefused ts r → ⊥
refusals_apart ts p r tokens is h = let read = whole_takes ts p is in let refused = whole_refuses ts r tokens h in cc
