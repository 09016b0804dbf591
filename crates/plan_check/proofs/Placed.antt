-- The datasets of visits stand in the order of places, each with the name of its place and its level.
use Rattle.std.proofs.Common.{◌≡◌, ◌≢◌, ℕ, zero, suc, ◌+◌, ◌<◌, Bool, true, false, cond, List, [], ◌∷◌, ◌++◌, Option, Some, None, length, refl, sym, ◌∙◌, ap, subst, inl, inr, arith, get_or}
use Rattle.std.specs.Prelude.{◌⊎◌, ◌||◌, map, nat_eq, slice_get, slice_set, option_map, option_and_then, option_to_list, position}
use Rattle.std.specs.List.{filter, flat_map, list_any, position_from}
use Rattle.std.proofs.lemmas.Bool.{eqb-true}
use Rattle.std.proofs.lemmas.Iterator.Adapters.{position_from-zero}
use Rattle.std.proofs.lemmas.List.Quantifiers.{position-Some}
use Rattle.std.proofs.lemmas.Option.{slice_get-map}
use Rattle.sql_tree.specs.declared.statement.Statement.{Statement}
use Rattle.plan_core.specs.declared.plan.Dataset.{Dataset}
use Rattle.column_checks.specs.ByName.{items_placed, slot_left, taken_from}
use Rattle.plan_check.specs.declared.visits.Visit.{Visit}
use Rattle.plan_check.specs.Visits.{by_level, levels_in, of_level, visit_of, visit_to, visits_at}
use Rattle.plan_check.specs.Walks.{in_order}
use Rattle.plan_check.proofs.Judged.{Mark, mark_of, visit_mark}
use Rattle.plan_check.proofs.Visiting.{Among, AreVisited, is_to}

-- ---- the first that passes a test

pub record IsFirstAt {A : Type 0} (test : A → Bool) (xs : List A) (start : ℕ) : Type 0 where
  pub index : ℕ
  pub item : A
  pub found : position_from test start xs ≡ Some (start + index)
  pub is : slice_get xs index ≡ Some item
  pub passes : test item ≡ true

same_in : {A : Type 0} {x y : A} → Some x ≡ Some y → x ≡ y
same_in e = cc

shifted : (start index : ℕ) → Some ((start + 1) + index) ≡ Some (start + suc index)
shifted start index = ap Some (omega arith)

first_by : {A : Type 0} (test : A → Bool) (first : A) (more : List A) (start : ℕ) (passes : Bool) → test first ≡ passes → (list_any test more ≡ true → IsFirstAt test more (start + 1)) →
    (test first ≡ true) ⊎ (list_any test more ≡ true) → IsFirstAt test (first ∷ more) start
first_by test first more start true e rest h = record {
  index = 0;
  item = first;
  found = ap (λ (b : Bool). cond b (Some start) (position_from test (start + 1) more)) e ∙ ap Some (omega arith);
  is = refl;
  passes = e;
}
first_by test first more start false e rest (inl h) = absurd (cc)
first_by test first more start false e rest (inr h) = let found = rest h in record {
  index = suc found.index;
  item = found.item;
  found = ap (λ (b : Bool). cond b (Some start) (position_from test (start + 1) more)) e ∙ found.found ∙ shifted start found.index;
  is = found.is;
  passes = found.passes;
}

either : (a b : Bool) → (a || b) ≡ true → (a ≡ true) ⊎ (b ≡ true)
either true b e = inl refl
either false b e = inr e

first_at : {A : Type 0} (test : A → Bool) (xs : List A) (start : ℕ) → list_any test xs ≡ true → IsFirstAt test xs start
first_at test [] start h = absurd (cc)
first_at test (first ∷ more) start h = first_by test first more start (test first) refl (first_at test more (start + 1)) (either (test first) (list_any test more) h)

among_at : {A : Type 0} (xs : List A) (index : ℕ) (x : A) → slice_get xs index ≡ Some x → Among x xs
among_at [] index x e = absurd (cc)
among_at (first ∷ more) zero x e = inl (sym (same_in e))
among_at (first ∷ more) (suc index) x e = inr (among_at more index x e)

-- ---- slots

-- there is a visit to the place, and the dataset in its slot has its name and level
pub record IsHeld (statements : List Statement) (order : List Visit) (slots : List (Option Dataset)) (wanted : Visit) : Type 0 where
  pub index : ℕ
  pub dataset : Dataset
  pub visit : visit_of order wanted.place ≡ Some index
  pub slot : slot_left slots index ≡ Some dataset
  pub is_marked : visit_mark statements wanted ≡ mark_of dataset

abbrev pub AreHeld : List Statement → List Visit → List (Option Dataset) → List Visit → Type 0
AreHeld statements order slots [] = Unit {0}
AreHeld statements order slots (wanted ∷ more) = IsHeld statements order slots wanted × AreHeld statements order slots more

abbrev pub AreAbove : ℕ → List ℕ → Type 0
AreAbove least [] = Unit {0}
AreAbove least (place ∷ more) = (least < place) × AreAbove least more

abbrev pub AreAscending : List ℕ → Type 0
AreAscending [] = Unit {0}
AreAscending (place ∷ more) = AreAbove place more × AreAscending more

abbrev pub places_of : List Visit → List ℕ
places_of visits = map (λ (visit : Visit). visit.place) visits

slot_mark : (found : Option Dataset) (one : Mark) → option_map mark_of found ≡ Some one → (dataset : Dataset) × (found ≡ Some dataset) × (mark_of dataset ≡ one)
slot_mark None one e = absurd (cc)
slot_mark (Some dataset) one e = (dataset, refl, same_in e)

held_by : (statements : List Statement) (order : List Visit) (datasets : List Dataset) (wanted : Visit) → map mark_of datasets ≡ map (visit_mark statements) order → (first : IsFirstAt (is_to wanted.place) order 0) → first.item ≡ wanted →
    IsHeld statements order (map Some datasets) wanted
held_by statements order datasets wanted marks first same =
    let marked : option_map mark_of (slice_get datasets first.index) ≡ Some (visit_mark statements first.item) =
    sym (slice_get-map mark_of datasets first.index) ∙ ap (λ (x : List Mark). slice_get x first.index) marks ∙ slice_get-map (visit_mark statements) order first.index ∙ ap (option_map (visit_mark statements)) first.is in
    let there = slot_mark (slice_get datasets first.index) (visit_mark statements first.item) marked in
    record {
      index = first.index;
      dataset = there.0;
      visit = position_from-zero (is_to wanted.place) order ∙ first.found ∙ ap Some (omega arith);
      slot = ap (option_and_then (λ (slot : Option Dataset). slot)) (slice_get-map Some datasets first.index ∙ ap (option_map Some) there.1);
      is_marked = ap (visit_mark statements) (sym same) ∙ sym there.2;
    }

-- a visit to the place of one of these is that one
abbrev pub AreOnly : List Visit → List Visit → Type 0
AreOnly order visits = (x wanted : Visit) → Among x order → Among wanted visits → x.place ≡ wanted.place → x ≡ wanted

all_held : (statements : List Statement) (order : List Visit) (datasets : List Dataset) (visits : List Visit) → map mark_of datasets ≡ map (visit_mark statements) order → AreOnly order visits → AreVisited order (places_of visits) →
    AreHeld statements order (map Some datasets) visits
all_held statements order datasets [] marks only visited = tt
all_held statements order datasets (wanted ∷ more) marks only visited =
    let first = first_at (is_to wanted.place) order 0 visited.0 in (
      held_by statements order datasets wanted marks first (only first.item wanted (among_at order first.index first.item first.is) (inl refl) (eqb-true first.item.place wanted.place first.passes)),
      all_held statements order datasets more marks (λ x other m n. only x other m (inr n)) visited.1,
    )

-- a slot keeps what it has where another one is emptied
other_slot : {A : Type 0} (slots : List (Option A)) (taken index : ℕ) → (index ≡ taken → ⊥) → slice_get (slice_set slots taken None) index ≡ slice_get slots index
other_slot [] taken index differ = refl
other_slot (first ∷ more) zero zero differ = absurd (differ refl)
other_slot (first ∷ more) zero (suc index) differ = refl
other_slot (first ∷ more) (suc taken) zero differ = refl
other_slot (first ∷ more) (suc taken) (suc index) differ = other_slot more taken index (λ e. differ (ap suc e))

visits_differ : (order : List Visit) (place other taken index : ℕ) → place < other → visit_of order place ≡ Some taken → visit_of order other ≡ Some index → index ≡ taken → ⊥
visits_differ order place other taken index less is_taken is_index same =
    let one : (get_or order taken (visit_to 0 0)).place ≡ place = eqb-true _ place (position-Some (is_to place) order taken (visit_to 0 0) is_taken).1 in
    let two : (get_or order index (visit_to 0 0)).place ≡ other = eqb-true _ other (position-Some (is_to other) order index (visit_to 0 0) is_index).1 in
    let three : (get_or order index (visit_to 0 0)).place ≡ (get_or order taken (visit_to 0 0)).place = ap (λ (i : ℕ). (get_or order i (visit_to 0 0)).place) same in
    omega (arith, less, one, two, three)

held_behind : (statements : List Statement) (order : List Visit) (slots : List (Option Dataset)) (place taken : ℕ) (other : Visit) → visit_of order place ≡ Some taken → place < other.place → IsHeld statements order slots other →
    IsHeld statements order (slice_set slots taken None) other
held_behind statements order slots place taken other is less held = record {
  index = held.index;
  dataset = held.dataset;
  visit = held.visit;
  slot = ap (option_and_then (λ (slot : Option Dataset). slot)) (other_slot slots taken held.index (visits_differ order place other.place taken held.index less is held.visit)) ∙ held.slot;
  is_marked = held.is_marked;
}

all_held_behind : (statements : List Statement) (order : List Visit) (slots : List (Option Dataset)) (place taken : ℕ) (others : List Visit) → visit_of order place ≡ Some taken → AreAbove place (places_of others) → AreHeld statements order slots others →
    AreHeld statements order (slice_set slots taken None) others
all_held_behind statements order slots place taken [] is above held = tt
all_held_behind statements order slots place taken (other ∷ more) is above held =
    (held_behind statements order slots place taken other is above.0 held.0, all_held_behind statements order slots place taken more is above.1 held.1)

-- ---- names and levels

abbrev taken_at : List Visit → List (Option Dataset) → List ℕ → List Dataset
taken_at order slots places = taken_from slots (visits_at order places)

first_taken : (statements : List Statement) (order : List Visit) (slots : List (Option Dataset)) (wanted : Visit) (more : List ℕ) (held : IsHeld statements order slots wanted) →
    map mark_of (taken_at order slots (wanted.place ∷ more)) ≡ visit_mark statements wanted ∷ map mark_of (taken_at order (slice_set slots held.index None) more)
first_taken statements order slots wanted more held =
    ap (λ (o : Option ℕ). map mark_of (taken_from slots (option_to_list o ++ visits_at order more))) held.visit ∙
    ap (λ (o : Option Dataset). map mark_of (option_to_list o ++ taken_at order (slice_set slots held.index None) more)) held.slot ∙
    ap (λ (one : Mark). one ∷ map mark_of (taken_at order (slice_set slots held.index None) more)) (sym held.is_marked)

all_taken : (statements : List Statement) (order : List Visit) (slots : List (Option Dataset)) (visits : List Visit) → AreAscending (places_of visits) → AreHeld statements order slots visits →
    map mark_of (taken_at order slots (places_of visits)) ≡ map (visit_mark statements) visits
all_taken statements order slots [] ascending held = refl
all_taken statements order slots (wanted ∷ more) ascending held =
    first_taken statements order slots wanted (places_of more) held.0 ∙
    ap (λ (marks : List Mark). visit_mark statements wanted ∷ marks)
    (all_taken statements order (slice_set slots held.0.index None) more ascending.1 (all_held_behind statements order slots wanted.place held.0.index more held.0.visit ascending.0 held.1))

-- ---- the visits of a list of ascending places

among_append : {A : Type 0} (x : A) (xs ys : List A) → Among x (xs ++ ys) → Among x xs ⊎ Among x ys
among_append x [] ys m = inr m
among_append x (y ∷ more) ys (inl e) = inl (inl e)
among_append x (y ∷ more) ys (inr m) = elim (among_append x more ys m) [ inl n ↦ inl (inr n) | inr n ↦ inr n ]

among_kept : {A : Type 0} (x y : A) (kept : Bool) (more others : List A) → (Among x more → Among x others) → Among x (cond kept (y ∷ more) more) → Among x (y ∷ others)
among_kept x y true more others f (inl e) = inl e
among_kept x y true more others f (inr m) = inr (f m)
among_kept x y false more others f m = inr (f m)

among_filter : {A : Type 0} (test : A → Bool) (x : A) (xs : List A) → Among x (filter test xs) → Among x xs
among_filter test x [] m = m
among_filter test x (y ∷ more) m = among_kept x y (test y) (filter test more) more (among_filter test x more) m

among_levels : (visits : List Visit) (x : Visit) (levels : List ℕ) → Among x (flat_map (of_level visits) levels) → Among x visits
among_levels visits x [] m = absurd m
among_levels visits x (level ∷ more) m =
    elim (among_append x (of_level visits level) (flat_map (of_level visits) more) m) [ inl n ↦ among_filter (λ (v : Visit). nat_eq v.level level) x visits n | inr n ↦ among_levels visits x more n ]

above_place : (least : ℕ) (x : Visit) (visits : List Visit) → AreAbove least (places_of visits) → Among x visits → least < x.place
above_place least x [] above m = absurd m
above_place least x (first ∷ more) above (inl e) = subst (λ (v : Visit). least < v.place) (sym e) above.0
above_place least x (first ∷ more) above (inr m) = above_place least x more above.1 m

only_among : (visits : List Visit) → AreAscending (places_of visits) → (x y : Visit) → Among x visits → Among y visits → x.place ≡ y.place → x ≡ y
only_among [] ascending x y m n same = absurd m
only_among (first ∷ more) ascending x y (inl e) (inl f) same = e ∙ sym f
only_among (first ∷ more) ascending x y (inl e) (inr n) same =
    let less : first.place < y.place = above_place first.place y more ascending.0 n in
    let is : x.place ≡ first.place = ap (λ (v : Visit). v.place) e in
    absurd (omega (arith, less, is, same))
only_among (first ∷ more) ascending x y (inr m) (inl f) same =
    let less : first.place < x.place = above_place first.place x more ascending.0 m in
    let is : y.place ≡ first.place = ap (λ (v : Visit). v.place) f in
    absurd (omega (arith, less, is, same))
only_among (first ∷ more) ascending x y (inr m) (inr n) same = only_among more ascending.1 x y m n same

-- datasets that come by level have in the order of the places of their visits the names and levels of these
pub placed_marks : (statements : List Statement) (visits : List Visit) (datasets : List Dataset) → AreAscending (places_of visits) → map mark_of datasets ≡ map (visit_mark statements) (by_level visits) → AreVisited (by_level visits) (places_of visits) →
    map mark_of (in_order visits (places_of visits) datasets) ≡ map (visit_mark statements) visits
placed_marks statements visits datasets ascending marks visited =
    all_taken statements (by_level visits) (map Some datasets) visits ascending
    (all_held statements (by_level visits) datasets visits marks (λ x wanted m n. only_among visits ascending x wanted (among_levels visits x (levels_in visits) m) n) visited)
