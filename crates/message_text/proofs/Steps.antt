-- One more level.
use Rattle.std.proofs.Common.{◌≡◌, ℕ, zero, suc, ◌+◌, List, [], ◌∷◌, ◌++◌, ◌∙◌, ap, arith, add-one}
use Rattle.std.specs.List.{flat_map, range_with_len}
use Rattle.std.proofs.lemmas.List.{append-nil}
use Rattle.std.proofs.lemmas.Grind.{flat_map-append}
use Rattle.plan_core.specs.declared.plan.Dataset.{Dataset}
use Rattle.message_text.specs.PlanLines.{level_lines}

range_suc : (from count last : ℕ) → from + count ≡ last → range_with_len from (suc count) ≡ range_with_len from count ++ last ∷ []
range_suc from zero last e = ap (λ (n : ℕ). n ∷ []) (omega (arith, e))
range_suc from (suc count) last e = ap (λ (ns : List ℕ). from ∷ ns) (range_suc (from + 1) count last (omega (arith, e)))

range_more : (count : ℕ) → range_with_len 0 (count + 1) ≡ range_with_len 0 count ++ count ∷ []
range_more count = ap (range_with_len 0) (add-one count) ∙ range_suc 0 count count (omega arith)

-- the lines of one more level
pub levels_more : (plan : List Dataset) (count : ℕ) → flat_map (level_lines plan) (range_with_len 0 (count + 1)) ≡ flat_map (level_lines plan) (range_with_len 0 count) ++ level_lines plan count
levels_more plan count =
    ap (flat_map (level_lines plan)) (range_more count) ∙
    flat_map-append (level_lines plan) (range_with_len 0 count) (count ∷ []) ∙
    ap (λ (x : List ℕ). flat_map (level_lines plan) (range_with_len 0 count) ++ x) (append-nil (level_lines plan count))
