-- Counts of rows, one after another.
use Rattle.std.proofs.Common.{◌≡◌, ◌<◌, ◌≤◌, ◌+◌, ℕ, suc, zero, List, [], ◌∷◌, length, map, set, get_or, Bool, true, false, not, cond, Option, Some, None, refl, sym, ◌∙◌, ap, subst, arith}
use Rattle.std.specs.Prelude.{OnSome}
use Rattle.std.specs.List.{cons_option}
use Rattle.std.proofs.lemmas.List.Sums.{sum_by-cons}
use Rattle.value_core.specs.declared.change.Tally.{Tally}
use Rattle.value_core.specs.Order.{Row}
use Rattle.value_core.specs.Tallies.{added, both_tallies}
use Rattle.plan_core.specs.declared.expectation.Expectation.{Expectation}
use Rattle.flow_model.specs.Admission.{counts, passes, tally}
use Rattle.row_admission.specs.Answers.{marks_of}
use Rattle.row_flow.specs.Gathers.{AreBelow, counted_by, tally_of}
use Rattle.row_flow.specs.Results.{AreMarks}

-- ---- a row more

-- a count and those of more rows, with one row moved over
one-moved : (kept : Tally) (passed : Bool) (p f : ℕ) → both_tallies kept (record { passed = cond passed 1 0 + p; failed = cond (not passed) 1 0 + f }) ≡ both_tallies (both_tallies kept (tally_of passed)) (record { passed = p; failed = f })
one-moved kept true p f = let up : kept.passed + (1 + p) ≡ kept.passed + 1 + p = omega arith in let same : kept.failed + (0 + f) ≡ kept.failed + 0 + f = omega arith in λ i. record { passed = up i; failed = same i }
one-moved kept false p f = let up : kept.passed + (0 + p) ≡ kept.passed + 0 + p = omega arith in let same : kept.failed + (1 + f) ≡ kept.failed + 1 + f = omega arith in λ i. record { passed = up i; failed = same i }

tally-cons : (x : Expectation) (out : Row) (seen : List Row) → tally (out ∷ seen) x ≡ record { passed = cond (passes x out) 1 0 + (tally seen x).passed; failed = cond (not (passes x out)) 1 0 + (tally seen x).failed }
tally-cons x out seen =
    let up = sum_by-cons (λ (row : Row). cond (passes x row) 1 0) out seen in
    let down = sum_by-cons (λ (row : Row). cond (not (passes x row)) 1 0) out seen in
    λ i. record { passed = up i; failed = down i }

moved : (xs : List Expectation) (kept : List Tally) (out : Row) (seen : List Row) → length kept ≡ length xs
    → added kept (counts xs (out ∷ seen)) ≡ added (added kept (map tally_of (marks_of xs out))) (counts xs seen)
moved [] [] out seen same = refl
moved [] (one ∷ kept) out seen same = absurd cc
moved (x ∷ xs) [] out seen same = absurd cc
moved (x ∷ xs) (one ∷ kept) out seen same =
    let less : length kept ≡ length xs = cc in
    ap (λ (first : Tally). both_tallies one first ∷ added kept (counts xs (out ∷ seen))) (tally-cons x out seen)
    ∙ ap (λ (first : Tally). first ∷ added kept (counts xs (out ∷ seen))) (one-moved one (passes x out) (tally seen x).passed (tally seen x).failed)
    ∙ ap (λ (rest : List Tally). both_tallies (both_tallies one (tally_of (passes x out))) (tally seen x) ∷ rest) (moved xs kept out seen less)

pub counts_on : (xs : List Expectation) (own : Option Row) (marks : List Bool) (kept : List Tally) (seen : List Row) → AreMarks xs own marks → length kept ≡ length xs
    → added kept (counts xs (cons_option own seen)) ≡ added (counted_by own marks kept) (counts xs seen)
counts_on xs None marks kept seen are same = refl
counts_on xs (Some row) marks kept seen are same = moved xs kept row seen same ∙ ap (λ (given : List Bool). added (added kept (map tally_of given)) (counts xs seen)) (sym are)

-- ---- how many counts there are

length-marks : (xs : List Expectation) (row : Row) → length (marks_of xs row) ≡ length xs
length-marks [] row = refl
length-marks (x ∷ xs) row = ap suc (length-marks xs row)

pub each_seen : (xs : List Expectation) (own : Option Row) (marks : List Bool) (kept : List Tally) → AreMarks xs own marks → length kept ≡ length xs → OnSome own (length kept ≡ length marks)
each_seen xs None marks kept are same = tt
each_seen xs (Some row) marks kept are same = same ∙ sym (ap length are ∙ length-marks xs row)

length-added : (kept : List Tally) (marks : List Bool) → length kept ≡ length marks → length (added kept (map tally_of marks)) ≡ length kept
length-added [] marks same = refl
length-added (one ∷ kept) [] same = absurd cc
length-added (one ∷ kept) (mark ∷ marks) same = ap suc (length-added kept marks (let less : length kept ≡ length marks = cc in less))

pub each_on : (xs : List Expectation) (own : Option Row) (marks : List Bool) (kept : List Tally) → AreMarks xs own marks → length kept ≡ length xs → length (counted_by own marks kept) ≡ length xs
each_on xs None marks kept are same = same
each_on xs (Some row) marks kept are same = length-added kept marks (same ∙ sym (ap length are ∙ length-marks xs row)) ∙ same

pub length-counts : (xs : List Expectation) (rows : List Row) → length (counts xs rows) ≡ length xs
length-counts [] rows = refl
length-counts (x ∷ xs) rows = ap suc (length-counts xs rows)

-- ---- how large they are

below_more : (limit : ℕ) (kept : List Tally) (marks : List Bool) → AreBelow limit kept → AreBelow (limit + 1) (added kept (map tally_of marks))
below_more limit [] marks below = tt
below_more limit (one ∷ kept) [] below = tt
below_more limit (one ∷ kept) (true ∷ marks) below = (omega (arith, below.0), below_more limit kept marks below.1)
below_more limit (one ∷ kept) (false ∷ marks) below = (omega (arith, below.0), below_more limit kept marks below.1)

pub below_later : (limit more : ℕ) (kept : List Tally) → limit ≤ more → AreBelow limit kept → AreBelow more kept
below_later limit more [] up below = tt
below_later limit more (one ∷ kept) up below = (omega (arith, up, below.0), below_later limit more kept up below.1)

pub below_on : (own : Option Row) (marks : List Bool) (limit : ℕ) (kept : List Tally) → AreBelow limit kept → AreBelow (limit + 1) (counted_by own marks kept)
below_on None marks limit kept below = below_later limit (limit + 1) kept (omega arith) below
below_on (Some row) marks limit kept below = below_more limit kept marks below

pub below_zeros : (xs : List Expectation) → AreBelow 1 (counts xs [])
below_zeros [] = tt
below_zeros (x ∷ xs) = (omega arith, below_zeros xs)

-- ---- nothing more

-- with no row behind, the counts are whole
pub whole : (xs : List Expectation) (kept : List Tally) → length kept ≡ length xs → added kept (counts xs []) ≡ kept
whole [] [] same = refl
whole [] (one ∷ kept) same = absurd cc
whole (x ∷ xs) [] same = absurd cc
whole (x ∷ xs) (one ∷ kept) same =
    let up : one.passed + 0 ≡ one.passed = omega arith in
    let down : one.failed + 0 ≡ one.failed = omega arith in
    let rest = whole xs kept (let less : length kept ≡ length xs = cc in less) in
    λ i. record { passed = up i; failed = down i } ∷ rest i

pub zeros : (xs : List Expectation) (more : List Tally) → length more ≡ length xs → added (counts xs []) more ≡ more
zeros [] [] same = refl
zeros [] (one ∷ more) same = absurd cc
zeros (x ∷ xs) [] same = absurd cc
zeros (x ∷ xs) (one ∷ more) same =
    let up : 0 + one.passed ≡ one.passed = omega arith in
    let down : 0 + one.failed ≡ one.failed = omega arith in
    let rest = zeros xs more (let less : length more ≡ length xs = cc in less) in
    λ i. record { passed = up i; failed = down i } ∷ rest i

-- ---- in place

-- the first i of the counts have one row more
abbrev pub Counting : ℕ → List Tally → List Bool → List Tally → Type 0
Counting zero old marks new = new ≡ old
Counting (suc i) (one ∷ old) (mark ∷ marks) (more ∷ new) = (more ≡ both_tallies one (tally_of mark)) × Counting i old marks new
Counting (suc i) old marks new = ⊥

counts_next : (i : ℕ) (old : List Tally) (marks : List Bool) (new : List Tally) (d : Tally) (m : Bool) → i < length marks → length new ≡ length marks → Counting i old marks new
    → Counting (suc i) old marks (set new i (both_tallies (get_or new i d) (tally_of (get_or marks i m))))
counts_next i old [] new d m less same is = absurd (omega arith)
counts_next i old (mark ∷ marks) [] d m less same is = absurd (omega arith)
counts_next zero old (mark ∷ marks) (one ∷ new) d m less same is = subst (λ (o : List Tally). Counting 1 o (mark ∷ marks) (both_tallies one (tally_of mark) ∷ new)) is (refl, refl)
counts_next (suc i) [] (mark ∷ marks) (one ∷ new) d m less same is = absurd is
counts_next (suc i) (was ∷ old) (mark ∷ marks) (one ∷ new) d m less same is = (is.0, counts_next i old marks new d m (omega arith) (omega arith) is.1)

pub counts_more : (i : ℕ) (old : List Tally) (marks : List Bool) (new : List Tally) (d : Tally) (m : Bool) (one : Tally) → one ≡ both_tallies (get_or new i d) (tally_of (get_or marks i m)) → i < length marks → length new ≡ length marks
    → Counting i old marks new → Counting (i + 1) old marks (set new i one)
counts_more i old marks new d m one is less same so_far =
    let more : suc i ≡ i + 1 = omega arith in
    subst (λ (n : ℕ). Counting n old marks (set new i one)) more (subst (λ (t : Tally). Counting (suc i) old marks (set new i t)) (sym is) (counts_next i old marks new d m less same so_far))

pub below_at : (i limit : ℕ) (old : List Tally) (marks : List Bool) (new : List Tally) (d : Tally) → i < length new → AreBelow limit old → Counting i old marks new → (get_or new i d).passed + (get_or new i d).failed < limit
below_at i limit old marks [] d less below is = absurd (omega arith)
below_at zero limit old marks (one ∷ new) d less below is = (subst (λ (o : List Tally). AreBelow limit o) (sym is) below).0
below_at (suc i) limit [] marks (one ∷ new) d less below is = absurd is
below_at (suc i) limit (was ∷ old) [] (one ∷ new) d less below is = absurd is
below_at (suc i) limit (was ∷ old) (mark ∷ marks) (one ∷ new) d less below is = below_at i limit old marks new d (omega arith) below.1 is.1

pub counts_done : (old : List Tally) (marks : List Bool) (new : List Tally) → length old ≡ length marks → Counting (length marks) old marks new → new ≡ added old (map tally_of marks)
counts_done [] [] new same is = is
counts_done (one ∷ old) [] new same is = absurd (omega arith)
counts_done [] (mark ∷ marks) new same is = absurd (omega arith)
counts_done (one ∷ old) (mark ∷ marks) [] same is = absurd is
counts_done (one ∷ old) (mark ∷ marks) (more ∷ new) same is = ap (λ (first : Tally). first ∷ new) is.0 ∙ ap (λ (rest : List Tally). both_tallies one (tally_of mark) ∷ rest) (counts_done old marks new (omega arith) is.1)
