-- One more turn of a loop.
use Rattle.std.proofs.Common.{◌≡◌, ℕ, zero, suc, ◌+◌, List, [], ◌∷◌, ◌++◌, refl, sym, ◌∙◌, ap, arith, append_assoc, add-one, drop, length, get_or, ◌<◌, ◌≤◌, take}
use Rattle.std.specs.Prelude.{option_to_list}
use Rattle.std.specs.List.{flat_map, range_with_len}
use Rattle.std.proofs.lemmas.List.{append-nil, drop_more, take_more, take-append-le}
use Rattle.std.proofs.lemmas.Grind.{flat_map-append}
use Rattle.plan_check.specs.declared.visits.Visit.{Visit}
use Rattle.plan_check.specs.Visits.{of_level, visit_of, visits_at, visits_with}

range_suc : (from count last : ℕ) → from + count ≡ last → range_with_len from (suc count) ≡ range_with_len from count ++ last ∷ []
range_suc from zero last e = ap (λ (n : ℕ). n ∷ []) (omega (arith, e))
range_suc from (suc count) last e = ap (λ (ns : List ℕ). from ∷ ns) (range_suc (from + 1) count last (omega (arith, e)))

-- one more number
pub range_more : (count : ℕ) → range_with_len 0 (count + 1) ≡ range_with_len 0 count ++ count ∷ []
range_more count = ap (range_with_len 0) (add-one count) ∙ range_suc 0 count count (omega arith)

-- one more level
pub levels_more : (visits : List Visit) (levels : List ℕ) (i : ℕ) → i < length levels → flat_map (of_level visits) (take (i + 1) levels) ≡ flat_map (of_level visits) (take i levels) ++ of_level visits (get_or levels i 0)
levels_more visits levels i within =
    ap (flat_map (of_level visits)) (take_more levels i 0 within) ∙
    flat_map-append (of_level visits) (take i levels) (get_or levels i 0 ∷ []) ∙
    ap (λ (x : List Visit). flat_map (of_level visits) (take i levels) ++ x) (append-nil (of_level visits (get_or levels i 0)))

-- those of lesser levels stay
pub lesser_kept : {A : Type 0} (count : ℕ) (sofar lesser more : List A) → count ≡ length lesser → take count sofar ≡ lesser → count ≤ length sofar → take count (sofar ++ more) ≡ lesser
lesser_kept count sofar lesser more is kept within = take-append-le count sofar more within ∙ kept

no_levels : (visits : List Visit) (places : List ℕ) → visits ++ visits_with places [] ≡ visits
no_levels visits [] = append-nil visits
no_levels visits (place ∷ places) = append-nil visits

-- where no level is left
pub no_levels_left : (visits : List Visit) (places rest : List ℕ) → length rest ≡ 0 → visits ++ visits_with places rest ≡ visits
no_levels_left visits places [] e = no_levels visits places
no_levels_left visits places (level ∷ rest) e = absurd (omega (arith, e))

-- one more place
pub places_more : (visits : List Visit) (places sofar : List ℕ) (i : ℕ) → i < length places → (sofar ++ option_to_list (visit_of visits (get_or places i 0))) ++ visits_at visits (drop (i + 1) places) ≡ sofar ++ visits_at visits (drop i places)
places_more visits places sofar i within =
    append_assoc sofar (option_to_list (visit_of visits (get_or places i 0))) (visits_at visits (drop (i + 1) places)) ∙
    ap (λ (x : List ℕ). sofar ++ visits_at visits x) (sym (drop_more places i 0 within))
