-- Counts of rows, one after another.
use Rattle.std.proofs.Common.{◌≡◌, ◌<◌, ◌+◌, ℕ, suc, zero, List, [], ◌∷◌, length, map, set, get_or, Bool, true, false, not, cond, refl, sym, ◌∙◌, ap, subst, arith}
use Rattle.std.proofs.lemmas.List.Sums.{sum_by-cons}
use Rattle.value_core.specs.declared.change.Tally.{Tally}
use Rattle.value_core.specs.Order.{Row}
use Rattle.value_core.specs.Tallies.{added, both_tallies}
use Rattle.plan_core.specs.declared.expectation.Expectation.{Expectation}
use Rattle.flow_model.specs.Admission.{counts, passes, tally}
use Rattle.row_admission.specs.Answers.{marks_of}
use Rattle.view_query.specs.Judging.{tally_of}

-- ---- a row more

-- a count and those of more rows, with one row moved over
one-moved : (kept : Tally) (passed : Bool) (p f : ℕ) → both_tallies kept (record { passed = cond passed 1 0 + p; failed = cond (not passed) 1 0 + f }) ≡ both_tallies (both_tallies kept (tally_of passed)) (record { passed = p; failed = f })
one-moved kept true p f = let up : kept.passed + (1 + p) ≡ kept.passed + 1 + p = omega arith in let same : kept.failed + (0 + f) ≡ kept.failed + 0 + f = omega arith in λ i. record { passed = up i; failed = same i }
one-moved kept false p f = let up : kept.passed + (0 + p) ≡ kept.passed + 0 + p = omega arith in let same : kept.failed + (1 + f) ≡ kept.failed + 1 + f = omega arith in λ i. record { passed = up i; failed = same i }

tally-cons : (x : Expectation) (out : Row) (seen : List Row) → tally (out ∷ seen) x ≡ record { passed = cond (passes x out) 1 0 + (tally seen x).passed; failed = cond (not (passes x out)) 1 0 + (tally seen x).failed }
tally-cons x out seen =
    let up = sum_by-cons (λ (row : Row). cond (passes x row) 1 0) out seen in
    let down = sum_by-cons (λ (row : Row). cond (not (passes x row)) 1 0) out seen in
    λ i. record { passed = up i; failed = down i }

pub moved : (xs : List Expectation) (kept : List Tally) (out : Row) (seen : List Row) → length kept ≡ length xs
    → added kept (counts xs (out ∷ seen)) ≡ added (added kept (map tally_of (marks_of xs out))) (counts xs seen)
moved [] [] out seen same = refl
moved [] (one ∷ kept) out seen same = absurd cc
moved (x ∷ xs) [] out seen same = absurd cc
moved (x ∷ xs) (one ∷ kept) out seen same =
    let less : length kept ≡ length xs = cc in
    ap (λ (first : Tally). both_tallies one first ∷ added kept (counts xs (out ∷ seen))) (tally-cons x out seen)
    ∙ ap (λ (first : Tally). first ∷ added kept (counts xs (out ∷ seen))) (one-moved one (passes x out) (tally seen x).passed (tally seen x).failed)
    ∙ ap (λ (rest : List Tally). both_tallies (both_tallies one (tally_of (passes x out))) (tally seen x) ∷ rest) (moved xs kept out seen less)

-- ---- how many counts there are

pub length_marks : (xs : List Expectation) (row : Row) → length (marks_of xs row) ≡ length xs
length_marks [] row = refl
length_marks (x ∷ xs) row = ap suc (length_marks xs row)

pub length_counts : (xs : List Expectation) (rows : List Row) → length (counts xs rows) ≡ length xs
length_counts [] rows = refl
length_counts (x ∷ xs) rows = ap suc (length_counts xs rows)

-- ---- nothing more

-- with no row behind, the counts are whole
pub whole : (xs : List Expectation) (kept : List Tally) → length kept ≡ length xs → added kept (counts xs []) ≡ kept
whole [] [] same = refl
whole [] (one ∷ kept) same = absurd cc
whole (x ∷ xs) [] same = absurd cc
whole (x ∷ xs) (one ∷ kept) same =
    let up : one.passed + 0 ≡ one.passed = omega arith in
    let down : one.failed + 0 ≡ one.failed = omega arith in
    let rest = whole xs kept (let less : length kept ≡ length xs = cc in less) in
    λ i. record { passed = up i; failed = down i } ∷ rest i

pub zeros : (xs : List Expectation) (more : List Tally) → length more ≡ length xs → added (counts xs []) more ≡ more
zeros [] [] same = refl
zeros [] (one ∷ more) same = absurd cc
zeros (x ∷ xs) [] same = absurd cc
zeros (x ∷ xs) (one ∷ more) same =
    let up : 0 + one.passed ≡ one.passed = omega arith in
    let down : 0 + one.failed ≡ one.failed = omega arith in
    let rest = zeros xs more (let less : length more ≡ length xs = cc in less) in
    λ i. record { passed = up i; failed = down i } ∷ rest i

-- ---- in place

-- the first i of the counts have one row more
abbrev pub Counting : ℕ → List Tally → List Bool → List Tally → Type 0
Counting zero old marks new = new ≡ old
Counting (suc i) (one ∷ old) (mark ∷ marks) (more ∷ new) = (more ≡ both_tallies one (tally_of mark)) × Counting i old marks new
Counting (suc i) old marks new = ⊥

counts_next : (i : ℕ) (old : List Tally) (marks : List Bool) (new : List Tally) (d : Tally) (m : Bool) → i < length marks → length new ≡ length marks → Counting i old marks new
    → Counting (suc i) old marks (set new i (both_tallies (get_or new i d) (tally_of (get_or marks i m))))
counts_next i old [] new d m less same is = absurd (omega arith)
counts_next i old (mark ∷ marks) [] d m less same is = absurd (omega arith)
counts_next zero old (mark ∷ marks) (one ∷ new) d m less same is = subst (λ (o : List Tally). Counting 1 o (mark ∷ marks) (both_tallies one (tally_of mark) ∷ new)) is (refl, refl)
counts_next (suc i) [] (mark ∷ marks) (one ∷ new) d m less same is = absurd is
counts_next (suc i) (was ∷ old) (mark ∷ marks) (one ∷ new) d m less same is = (is.0, counts_next i old marks new d m (omega arith) (omega arith) is.1)

pub counts_more : (i : ℕ) (old : List Tally) (marks : List Bool) (new : List Tally) (d : Tally) (m : Bool) (one : Tally) → one ≡ both_tallies (get_or new i d) (tally_of (get_or marks i m)) → i < length marks → length new ≡ length marks
    → Counting i old marks new → Counting (i + 1) old marks (set new i one)
counts_more i old marks new d m one is less same so_far =
    let more : suc i ≡ i + 1 = omega arith in
    subst (λ (n : ℕ). Counting n old marks (set new i one)) more (subst (λ (t : Tally). Counting (suc i) old marks (set new i t)) (sym is) (counts_next i old marks new d m less same so_far))

pub counts_done : (old : List Tally) (marks : List Bool) (new : List Tally) → length old ≡ length marks → Counting (length marks) old marks new → new ≡ added old (map tally_of marks)
counts_done [] [] new same is = is
counts_done (one ∷ old) [] new same is = absurd (omega arith)
counts_done [] (mark ∷ marks) new same is = absurd (omega arith)
counts_done (one ∷ old) (mark ∷ marks) [] same is = absurd is
counts_done (one ∷ old) (mark ∷ marks) (more ∷ new) same is = ap (λ (first : Tally). first ∷ new) is.0 ∙ ap (λ (rest : List Tally). both_tallies one (tally_of mark) ∷ rest) (counts_done old marks new (omega arith) is.1)
