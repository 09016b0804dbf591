-- The datasets of a plan are those of its walk.
use Rattle.std.proofs.Common.{◌≡◌, inl, inr, ℕ, zero, suc, ◌+◌, ◌<◌, ◌≤◌, Bool, true, false, cond, List, [], ◌∷◌, ◌++◌, map, filter, Option, Some, None, Ok, refl, sym, ap, subst, ◌∙◌, arith, eqb-true, eq-eqb, ne_eqb}
use Rattle.std.specs.Prelude.{nat_eq, slice_get, option_map, option_and_then, option_to_list}
use Rattle.std.specs.List.{AllByRecursion, flat_map, position_from, range_with_len}
use Rattle.std.proofs.lemmas.Iterator.Adapters.{position_from-zero}
use Rattle.std.proofs.lemmas.Bool.{eqb-false}
use Rattle.std.proofs.lemmas.Option.{slice_get-map}
use Rattle.sql_tree.specs.declared.statement.Statement.{Statement}
use Rattle.plan_core.specs.declared.plan.Dataset.{Dataset}
use Rattle.origin_checks.specs.declared.resolved.Resolved.{Resolved}
use Rattle.plan_check.specs.declared.visits.Visit.{Visit}
use Rattle.plan_check.specs.Visits.{by_level, declared_places, greatest_level, of_level, visit_of, visit_to, visits_at, visits_of, visits_with}
use Rattle.plan_check.specs.Walks.{in_order, walk}
use Rattle.plan_check.proofs.Declared.{ascending_from}
use Rattle.plan_check.proofs.Judged.{Mark, mark_of, visit_mark, walked_marks}
use Rattle.plan_check.proofs.Placed.{AreAbove, AreAscending}
use Rattle.plan_check.proofs.Visiting.{Among, is_to}
use Rattle.plan_laws.proofs.Apart.{AreApart, all_among, among_all, among_back, among_either}
use Rattle.plan_laws.proofs.Walking.{AreAmong, among_kept}
use Rattle.plan_laws.proofs.Slots.{here_first, left_among, taken_among, taken_left}

-- ---- visits have different places

abbrev same_place : Visit → Visit → Bool
same_place a b = nat_eq b.place a.place

above_unlike : (place level : ℕ) (places levels : List ℕ) → AreAbove place places → AllByRecursion (λ other. same_place other (visit_to place level) ≡ false) (visits_with places levels)
above_unlike place level [] levels above = tt
above_unlike place level (next ∷ places) [] above = tt
above_unlike place level (next ∷ places) (other ∷ levels) above =
    (ne_eqb place next (λ e. let less : place < next = above.0 in omega (arith, less, e)), above_unlike place level places levels above.1)

visits_apart : (places levels : List ℕ) → AreAscending places → AreApart same_place (visits_with places levels)
visits_apart [] levels ascending = tt
visits_apart (place ∷ places) [] ascending = tt
visits_apart (place ∷ places) (level ∷ levels) ascending = (above_unlike place level places levels ascending.0, visits_apart places levels ascending.1)

unlike_false : (first other x y : Visit) → same_place other first ≡ false → x ≡ first → y ≡ other → x.place ≡ y.place → ⊥
unlike_false first other x y unlike e f same = eqb-false first.place other.place unlike (ap (λ (v : Visit). v.place) (sym e) ∙ same ∙ ap (λ (v : Visit). v.place) f)

only_one : (visits : List Visit) → AreApart same_place visits → (x y : Visit) → Among x visits → Among y visits → x.place ≡ y.place → x ≡ y
only_one [] apart x y m n same = absurd m
only_one (first ∷ more) apart x y (inl e) (inl f) same = e ∙ sym f
only_one (first ∷ more) apart x y (inl e) (inr n) same = absurd (unlike_false first y x y (all_among (λ other. same_place other first ≡ false) more apart.0 y n) e refl same)
only_one (first ∷ more) apart x y (inr m) (inl f) same = absurd (unlike_false first x y x (all_among (λ other. same_place other first ≡ false) more apart.0 x m) f refl (sym same))
only_one (first ∷ more) apart x y (inr m) (inr n) same = only_one more apart.1 x y m n same

-- ---- so they have by level

all_kept : (P : Visit → Type 0) (test : Visit → Bool) (visits : List Visit) → AllByRecursion P visits → AllByRecursion P (filter test visits)
all_kept P test visits all = among_all P (filter test visits) (λ visit m. all_among P visits all visit (among_kept test visit visits m).1)

if_apart : (kept : Bool) (first : Visit) (more : List Visit) → AllByRecursion (λ other. same_place other first ≡ false) more → AreApart same_place more → AreApart same_place (cond kept (first ∷ more) more)
if_apart true first more all apart = (all, apart)
if_apart false first more all apart = apart

kept_apart : (test : Visit → Bool) (visits : List Visit) → AreApart same_place visits → AreApart same_place (filter test visits)
kept_apart test [] apart = tt
kept_apart test (first ∷ more) apart =
    if_apart (test first) first (filter test more) (all_kept (λ other. same_place other first ≡ false) test more apart.0) (kept_apart test more apart.1)

joined_apart : (xs ys : List Visit) → AreApart same_place xs → AreApart same_place ys → ((x y : Visit) → Among x xs → Among y ys → same_place y x ≡ false) → AreApart same_place (xs ++ ys)
joined_apart [] ys front back cross = back
joined_apart (x ∷ xs) ys front back cross = (
  among_all (λ other. same_place other x ≡ false) (xs ++ ys) (λ other m. elim (among_either other xs ys m) [
    | inl n ↦ all_among (λ y. same_place y x ≡ false) xs front.0 other n
    | inr n ↦ cross x other (inl refl) n
  ]),
  joined_apart xs ys front.1 back (λ a b m n. cross a b (inr m) n),
)

-- a visit of these levels is one of all, of that level or a greater one
record IsFrom (visits : List Visit) (level : ℕ) (visit : Visit) : Type 0 where
  least : level ≤ visit.level
  there : Among visit visits

from_level : (visits : List Visit) (level count : ℕ) (visit : Visit) → Among visit (flat_map (of_level visits) (range_with_len level count)) → IsFrom visits level visit
from_level visits level zero visit m = absurd m
from_level visits level (suc count) visit m = elim (among_either visit (of_level visits level) (flat_map (of_level visits) (range_with_len (level + 1) count)) m) [
  | inl n ↦
      let kept = among_kept (λ (v : Visit). nat_eq v.level level) visit visits n in
      let is : visit.level ≡ level = eqb-true visit.level level kept.0 in
      record { least = omega (arith, is); there = kept.1 }
  | inr n ↦ let rest = from_level visits (level + 1) count visit n in record { least = omega (arith, rest.least); there = rest.there }
]

levels_apart : (visits : List Visit) (level count : ℕ) → AreApart same_place visits → AreApart same_place (flat_map (of_level visits) (range_with_len level count))
levels_apart visits level zero apart = tt
levels_apart visits level (suc count) apart =
    joined_apart (of_level visits level) (flat_map (of_level visits) (range_with_len (level + 1) count)) (kept_apart (λ (v : Visit). nat_eq v.level level) visits apart) (levels_apart visits (level + 1) count apart) (λ x y m n.
    let kept = among_kept (λ (v : Visit). nat_eq v.level level) x visits m in
    let from = from_level visits (level + 1) count y n in
    ne_eqb x.place y.place (λ same.
    let is : x.level ≡ level = eqb-true x.level level kept.0 in
    let one : x.level ≡ y.level = ap (λ (v : Visit). v.level) (only_one visits apart x y kept.1 from.there same) in
    let least : level + 1 ≤ y.level = from.least in
    omega (arith, is, one, least)))

-- ---- the visit to a place

at_among : {A : Type 0} (xs : List A) (index : ℕ) (x : A) → slice_get xs index ≡ Some x → Among x xs
at_among [] index x e = absurd (cc)
at_among (first ∷ more) zero x e = let same : first ≡ x = cc in inl (sym same)
at_among (first ∷ more) (suc index) x e = inr (at_among more index x e)

among_at : {A : Type 0} (xs : List A) (x : A) → Among x xs → (index : ℕ) × (slice_get xs index ≡ Some x)
among_at [] x m = absurd m
among_at (first ∷ more) x (inl e) = (0, ap Some (sym e))
among_at (first ∷ more) x (inr m) = let later = among_at more x m in (suc later.0, later.1)

found_at : (order : List Visit) (start index : ℕ) (visit : Visit) → AreApart same_place order → slice_get order index ≡ Some visit → position_from (is_to visit.place) start order ≡ Some (start + index)
found_at [] start index visit apart at = absurd (cc)
found_at (first ∷ more) start zero visit apart at =
    let same : first ≡ visit = cc in
    let here : is_to visit.place first ≡ true = eq-eqb first.place visit.place (ap (λ (v : Visit). v.place) same) in
    let is : start ≡ start + 0 = omega arith in
    ap (λ (b : Bool). cond b (Some start) (position_from (is_to visit.place) (start + 1) more)) here ∙ ap Some is
found_at (first ∷ more) start (suc index) visit apart at =
    let here : is_to visit.place first ≡ false = all_among (λ other. same_place other first ≡ false) more apart.0 visit (at_among more index visit at) in
    let is : (start + 1) + index ≡ start + suc index = omega arith in
    ap (λ (b : Bool). cond b (Some start) (position_from (is_to visit.place) (start + 1) more)) here ∙ found_at more (start + 1) index visit apart.1 at ∙ ap Some is

visit_found : (order : List Visit) (index : ℕ) (visit : Visit) → AreApart same_place order → slice_get order index ≡ Some visit → visit_of order visit.place ≡ Some index
visit_found order index visit apart at =
    let is : 0 + index ≡ index = omega arith in
    position_from-zero (is_to visit.place) order ∙ found_at order 0 index visit apart at ∙ ap Some is

visit_place : (places levels : List ℕ) (visit : Visit) → Among visit (visits_with places levels) → Among visit.place places
visit_place [] levels visit m = absurd m
visit_place (place ∷ places) [] visit m = absurd m
visit_place (place ∷ places) (level ∷ levels) visit (inl e) = inl (ap (λ (v : Visit). v.place) e)
visit_place (place ∷ places) (level ∷ levels) visit (inr m) = inr (visit_place places levels visit m)

index_among : (order : List Visit) (places : List ℕ) (place index : ℕ) → Among place places → visit_of order place ≡ Some index → Among index (visits_at order places)
index_among order [] place index m is = absurd m
index_among order (first ∷ more) place index (inl e) is =
    here_first (visit_of order first) index (visits_at order more) (subst (λ (p : ℕ). visit_of order p ≡ Some index) e is)
index_among order (first ∷ more) place index (inr m) is = among_back index (option_to_list (visit_of order first)) (visits_at order more) (index_among order more place index m is)

-- ---- a plan and its walk

marked_by : (statements : List Statement) (one : Mark) (found : Option Visit) → Some one ≡ option_map (visit_mark statements) found → (visit : Visit) × (found ≡ Some visit)
marked_by statements one None e = absurd (cc)
marked_by statements one (Some visit) e = (visit, refl)

-- each dataset of a walk has its visit
visit_at : (statements : List Statement) (datasets : List Dataset) (order : List Visit) (index : ℕ) (dataset : Dataset) → map mark_of datasets ≡ map (visit_mark statements) order → slice_get datasets index ≡ Some dataset →
    (visit : Visit) × (slice_get order index ≡ Some visit)
visit_at statements datasets order index dataset marks at =
    marked_by statements (mark_of dataset) (slice_get order index)
    (sym (ap (option_map mark_of) at) ∙ sym (slice_get-map mark_of datasets index) ∙ ap (λ (x : List Mark). slice_get x index) marks ∙ slice_get-map (visit_mark statements) order index)

-- each dataset of a plan is one of the walk
pub planned_walked : (visits : List Visit) (places : List ℕ) (datasets : List Dataset) → AreAmong (in_order visits places datasets) datasets
planned_walked visits places datasets dataset m =
    let left = taken_left (map Some datasets) (visits_at (by_level visits) places) dataset m in
    left_among datasets left.0 dataset left.1

-- each dataset of the walk is one of the plan
pub walked_planned : (statements : List Statement) (resolved : List Resolved) (levels : List ℕ) (datasets : List Dataset) → walk statements resolved (visits_of statements levels) ≡ Ok datasets →
    AreAmong datasets (in_order (visits_of statements levels) (declared_places statements) datasets)
walked_planned statements resolved levels datasets walked dataset m =
    let visits = visits_of statements levels in
    let order = by_level visits in
    let at = among_at datasets dataset m in
    let visit = visit_at statements datasets order at.0 dataset (walked_marks statements resolved visits datasets walked) at.1 in
    let from = from_level visits 0 (greatest_level visits + 1) visit.0 (at_among order at.0 visit.0 visit.1) in
    let apart = levels_apart visits 0 (greatest_level visits + 1) (visits_apart (declared_places statements) levels (ascending_from 0 statements)) in
    taken_among (map Some datasets) (visits_at order (declared_places statements)) at.0 dataset
    (index_among order (declared_places statements) visit.0.place at.0 (visit_place (declared_places statements) levels visit.0 from.there) (visit_found order at.0 visit.0 apart visit.1))
    (ap (option_and_then (λ (slot : Option Dataset). slot)) (slice_get-map Some datasets at.0 ∙ ap (option_map Some) at.1))
