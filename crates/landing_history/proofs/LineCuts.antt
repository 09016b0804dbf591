-- Complete lines of bytes that are cut where a line ends, or behind the last one.
use Rattle.std.proofs.Common.{◌≡◌, ℕ, zero, suc, ◌+◌, ◌-◌, ◌<◌, ◌≤◌, List, [], ◌∷◌, ◌++◌, length, get_or, take, Bool, true, false, cond, eqb, refl, sym, ap, ◌∙◌, subst, append_assoc, length-append, take-add, add-one, filter, nat_le, arith}
use Rattle.std.specs.Prelude.{slice_range}
use Rattle.std.proofs.lemmas.Bool.Decides.{nat_tests}
use Rattle.std.proofs.lemmas.List.{take_more, length-take-le}
use Rattle.landing_core.specs.Lines.{CompleteLine, complete_len, lines_from}
use Rattle.landing_history.specs.Taken.{line_end}

abbrev pub line_at : ℕ → List ℕ → CompleteLine
line_at start begun = record { start = start; bytes = begun }

-- ---- at an LF the lines in front of it end, and the next line begins behind it

both_ways : (test : Bool) (line : CompleteLine) (a b c d rest : List CompleteLine) → a ≡ b ++ rest → c ≡ d ++ rest → cond test (line ∷ a) c ≡ cond test (line ∷ b) d ++ rest
both_ways true line a b c d rest ended begun_on = ap (λ lines. line ∷ lines) ended
both_ways false line a b c d rest ended begun_on = begun_on

pub cut_at_lf : (start : ℕ) (begun front behind : List ℕ) (next : ℕ) → next ≡ start + length begun + length front + 1 → lines_from start begun (front ++ 10 ∷ behind) ≡ lines_from start begun (front ++ 10 ∷ []) ++ lines_from next [] behind
cut_at_lf start begun [] behind next is =
    let same : start + length begun + 1 ≡ next = omega arith in
    ap (λ n. line_at start begun ∷ lines_from n [] behind) same
cut_at_lf start begun (b ∷ front) behind next is =
    both_ways (eqb b 10) (line_at start begun) _ _ _ _ (lines_from next [] behind) (cut_at_lf (start + length begun + 1) [] front behind next (omega arith)) (cut_at_lf start (begun ++ b ∷ []) front behind next (omega (arith, length-append begun (b ∷ []))))

-- ---- what stands behind the last LF gives no line

abbrev CutsAt : ℕ → List ℕ → Type 0
CutsAt n bs = (start : ℕ) (begun : List ℕ) → lines_from start begun bs ≡ lines_from start begun (take n bs)

first_line : (start : ℕ) (begun : List ℕ) (b : ℕ) (bs : List ℕ) (test : Bool) → eqb b 10 ≡ test → CutsAt 0 bs → cond test (line_at start begun ∷ lines_from (start + length begun + 1) [] bs) (lines_from start (begun ++ b ∷ []) bs) ≡ lines_from start begun (take (cond test 1 0) (b ∷ bs))
first_line start begun b bs true is cuts = rw is (ap (λ lines. line_at start begun ∷ lines) (cuts (start + length begun + 1) []))
first_line start begun b bs false is cuts = cuts start (begun ++ b ∷ [])

both_cut : (test : Bool) (line : CompleteLine) (a b c d : List CompleteLine) → a ≡ b → c ≡ d → cond test (line ∷ a) c ≡ cond test (line ∷ b) d
both_cut true line a b c d ended begun_on = ap (λ lines. line ∷ lines) ended
both_cut false line a b c d ended begun_on = begun_on

more_lines : (start : ℕ) (begun : List ℕ) (b : ℕ) (bs : List ℕ) (n : ℕ) → CutsAt n bs → lines_from start begun (b ∷ bs) ≡ lines_from start begun (take (n + 1) (b ∷ bs))
more_lines start begun b bs n cuts =
    rw (add-one n) (both_cut (eqb b 10) (line_at start begun) _ _ _ _ (cuts (start + length begun + 1) []) (cuts start (begun ++ b ∷ [])))

is_zero : (n : ℕ) → eqb n 0 ≡ true → n ≡ 0
is_zero n e = grind (arith, nat_tests)

cut_by : (start : ℕ) (begun : List ℕ) (b : ℕ) (bs : List ℕ) (n : ℕ) (test : Bool) → eqb n 0 ≡ test → CutsAt n bs → lines_from start begun (b ∷ bs) ≡ lines_from start begun (take (cond test (cond (eqb b 10) 1 0) (n + 1)) (b ∷ bs))
cut_by start begun b bs n true is cuts = first_line start begun b bs (eqb b 10) refl (subst (λ m. CutsAt m bs) (is_zero n is) cuts)
cut_by start begun b bs n false is cuts = more_lines start begun b bs n cuts

pub lines_cut : (bytes : List ℕ) → CutsAt (complete_len bytes) bytes
lines_cut [] start begun = refl
lines_cut (b ∷ bs) start begun = cut_by start begun b bs (complete_len bs) (eqb (complete_len bs) 0) refl (lines_cut bs)

-- ---- the last LF

short_by : (n : ℕ) (m : ℕ) (a b : Bool) → n ≤ m → cond a (cond b 1 0) (n + 1) ≤ suc m
short_by n m true true short = omega arith
short_by n m true false short = omega arith
short_by n m false b short = omega arith

pub complete_short : (bytes : List ℕ) → complete_len bytes ≤ length bytes
complete_short [] = omega arith
complete_short (b ∷ bs) = short_by (complete_len bs) (length bs) (eqb (complete_len bs) 0) (eqb b 10) (complete_short bs)

abbrev pub EndsAt : List ℕ → ℕ → Type 0
EndsAt bytes n = 0 < n → get_or bytes (n - 1) 0 ≡ 10

ends_more : (b : ℕ) (bs : List ℕ) (n : ℕ) → eqb n 0 ≡ false → EndsAt bs n → get_or (b ∷ bs) (n + 1 - 1) 0 ≡ 10
ends_more b bs zero is ends = absurd (let none : ⊥ = grind (arith, nat_tests) in none)
ends_more b bs (suc n) is ends =
    let here : suc n + 1 - 1 ≡ suc n = omega arith in
    let back : suc n - 1 ≡ n = omega arith in
    rw here (rw back at (ends (omega arith)))

is_lf : (b : ℕ) → eqb b 10 ≡ true → b ≡ 10
is_lf b e = grind (arith, nat_tests)

ends_first : (b : ℕ) (bs : List ℕ) (test : Bool) → eqb b 10 ≡ test → EndsAt (b ∷ bs) (cond test 1 0)
ends_first b bs true is above = is_lf b is
ends_first b bs false is above = absurd (let none : ⊥ = omega arith in none)

ends_by : (b : ℕ) (bs : List ℕ) (n : ℕ) (test : Bool) → eqb n 0 ≡ test → EndsAt bs n → EndsAt (b ∷ bs) (cond test (cond (eqb b 10) 1 0) (n + 1))
ends_by b bs n true is ends = ends_first b bs (eqb b 10) refl
ends_by b bs n false is ends = λ above. ends_more b bs n is ends

pub complete_ends : (bytes : List ℕ) → EndsAt bytes (complete_len bytes)
complete_ends [] = λ above. absurd (let none : ⊥ = omega arith in none)
complete_ends (b ∷ bs) = ends_by b bs (complete_len bs) (eqb (complete_len bs) 0) refl (complete_ends bs)

-- ---- the lines of a file's front are those up to a place where one ends and those behind it

pub within : (bytes : List ℕ) (i : ℕ) → get_or bytes i 0 ≡ 10 → i < length bytes
within [] i is = absurd (let none : 0 ≡ 10 = is in cc)
within (b ∷ bs) zero is = omega arith
within (b ∷ bs) (suc i) is = omega (arith, within bs i is)

from_start : (bytes : List ℕ) (q : ℕ) → lines_from 0 [] (take q bytes) ≡ lines_from 0 [] (take (q - 0) bytes)
from_start bytes q = let same : q ≡ q - 0 = omega arith in ap (λ n. lines_from 0 [] (take n bytes)) same

front_at_lf : (bytes : List ℕ) (i : ℕ) → get_or bytes i 0 ≡ 10 → take (i + 1) bytes ≡ take i bytes ++ 10 ∷ []
front_at_lf bytes i is = take_more bytes i 0 (within bytes i is) ∙ ap (λ b. take i bytes ++ b ∷ []) is

pub length_at_lf : (bytes : List ℕ) (i : ℕ) → get_or bytes i 0 ≡ 10 → length (take i bytes) ≡ i
length_at_lf bytes i is = let inside : i < length bytes = within bytes i is in length-take-le i bytes (omega arith)

pub split_at_lf : (bytes : List ℕ) (i q : ℕ) → get_or bytes i 0 ≡ 10 → i + 1 ≤ q → take q bytes ≡ take i bytes ++ 10 ∷ slice_range bytes (i + 1) q
split_at_lf bytes i q is later =
    let front : take (i + 1) bytes ≡ take i bytes ++ 10 ∷ [] = front_at_lf bytes i is in
    let rest = slice_range bytes (i + 1) q in
    let total : q ≡ (i + 1) + (q - (i + 1)) = omega arith in
    ap (λ n. take n bytes) total ∙ take-add (i + 1) (q - (i + 1)) bytes ∙ ap (λ xs. xs ++ rest) front ∙ append_assoc (take i bytes) (10 ∷ []) rest

from_lf : (bytes : List ℕ) (i q : ℕ) → get_or bytes i 0 ≡ 10 → i + 1 ≤ q → lines_from 0 [] (take q bytes) ≡ lines_from 0 [] (take (i + 1) bytes) ++ lines_from (i + 1) [] (slice_range bytes (i + 1) q)
from_lf bytes i q is later =
    let rest = slice_range bytes (i + 1) q in
    let long : length (take i bytes) ≡ i = length_at_lf bytes i is in
    let cut : lines_from 0 [] (take i bytes ++ 10 ∷ rest) ≡ lines_from 0 [] (take i bytes ++ 10 ∷ []) ++ lines_from (i + 1) [] rest = cut_at_lf 0 [] (take i bytes) rest (i + 1) (omega arith) in
    ap (lines_from 0 []) (split_at_lf bytes i q is later) ∙ cut ∙ ap (λ xs. lines_from 0 [] xs ++ lines_from (i + 1) [] rest) (sym (front_at_lf bytes i is))

pub lines_between : (bytes : List ℕ) (p q : ℕ) → EndsAt bytes p → p ≤ q → lines_from 0 [] (take q bytes) ≡ lines_from 0 [] (take p bytes) ++ lines_from p [] (slice_range bytes p q)
lines_between bytes zero q ends later = from_start bytes q
lines_between bytes (suc i) q ends later =
    let back : suc i - 1 ≡ i = omega arith in
    let is : get_or bytes i 0 ≡ 10 = rw back at (ends (omega arith)) in
    subst (λ n. lines_from 0 [] (take q bytes) ≡ lines_from 0 [] (take n bytes) ++ lines_from n [] (slice_range bytes n q)) (add-one i) (from_lf bytes i q is (omega arith))

-- ---- the lines of a front are those that end within it

abbrev ended : ℕ → CompleteLine → Bool
ended place line = nat_le (line_end line) place

none_ended_by : (place start : ℕ) (begun : List ℕ) (a b : List CompleteLine) (test : Bool) → place ≤ start + length begun → filter (ended place) a ≡ [] → filter (ended place) b ≡ [] → filter (ended place) (cond test (line_at start begun ∷ a) b) ≡ []
none_ended_by place start begun a b true early ended_later going = by (nat_le (start + length begun + 1) place) refl
  where
    by : (late : Bool) → nat_le (start + length begun + 1) place ≡ late → cond late (line_at start begun ∷ filter (ended place) a) (filter (ended place) a) ≡ []
    by true is = absurd (let never : ⊥ = grind (arith, nat_tests) in never)
    by false is = ended_later
none_ended_by place start begun a b false early ended_later going = going

none_ended : (place start : ℕ) (begun bytes : List ℕ) → place ≤ start + length begun → filter (ended place) (lines_from start begun bytes) ≡ []
none_ended place start begun [] early = refl
none_ended place start begun (b ∷ bytes) early =
    none_ended_by place start begun (lines_from (start + length begun + 1) [] bytes) (lines_from start (begun ++ b ∷ []) bytes) (eqb b 10) early (none_ended place (start + length begun + 1) [] bytes (omega arith)) (none_ended place start (begun ++ b ∷ []) bytes (omega (arith, length-append begun (b ∷ []))))

ended_by : (place start : ℕ) (begun : List ℕ) (a b c d : List CompleteLine) (test : Bool) → start + length begun + 1 ≤ place → a ≡ filter (ended place) b → c ≡ filter (ended place) d → cond test (line_at start begun ∷ a) c ≡ filter (ended place) (cond test (line_at start begun ∷ b) d)
ended_by place start begun a b c d true early ended_later going = by (nat_le (start + length begun + 1) place) refl
  where
    by : (late : Bool) → nat_le (start + length begun + 1) place ≡ late → line_at start begun ∷ a ≡ cond late (line_at start begun ∷ filter (ended place) b) (filter (ended place) b)
    by true is = ap (λ lines. line_at start begun ∷ lines) ended_later
    by false is = absurd (let never : ⊥ = grind (arith, nat_tests) in never)
ended_by place start begun a b c d false early ended_later going = going

ended_from : (start : ℕ) (begun : List ℕ) (n place : ℕ) (bytes : List ℕ) → place ≡ start + length begun + n → lines_from start begun (take n bytes) ≡ filter (ended place) (lines_from start begun bytes)
ended_from start begun zero place bytes is = sym (none_ended place start begun bytes (omega arith))
ended_from start begun (suc n) place [] is = refl
ended_from start begun (suc n) place (b ∷ bytes) is =
    ended_by place start begun (lines_from (start + length begun + 1) [] (take n bytes)) (lines_from (start + length begun + 1) [] bytes) (lines_from start (begun ++ b ∷ []) (take n bytes)) (lines_from start (begun ++ b ∷ []) bytes) (eqb b 10) (omega arith) (ended_from (start + length begun + 1) [] n place bytes (omega arith)) (ended_from start (begun ++ b ∷ []) n place bytes (omega (arith, length-append begun (b ∷ []))))

pub front_lines : (bytes : List ℕ) (place : ℕ) → lines_from 0 [] (take place bytes) ≡ filter (λ line. nat_le (line_end line) place) (lines_from 0 [] bytes)
front_lines bytes place = ended_from 0 [] place place bytes (omega arith)
