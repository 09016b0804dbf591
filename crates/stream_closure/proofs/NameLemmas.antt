-- The names at places of a plan.
use Rattle.std.proofs.Common.{◌≡◌, ◌⊎◌, inl, inr, ℕ, zero, suc, ◌<◌, List, [], ◌∷◌, length, get_or, Bool, true, false, cond, not, ◌&&◌, ◌||◌, IsTrue, AllPairs, Contains, slice_get, option_map, Option, Some, None, refl, sym, ap, ◌∙◌, arith}
use Rattle.std.specs.Prelude.{bytes_eq, is_some}
use Rattle.std.specs.List.{cons_option, list_all, list_any}
use Rattle.std.specs.Option.{option_map_or}
use Rattle.std.specs.List.Sorted.{IsStrictlyIncreasing}
use Rattle.std.proofs.lemmas.List.Kept.{AllPairs-from_increasing}
use Rattle.std.proofs.lemmas.Option.{get_or_from_slice_get, slice_get_within}
use Rattle.std.proofs.lemmas.Slice.Eq.{bytes_eq-Decides}
use Rattle.value_core.specs.NameFold.{folded, same_name}
use Rattle.landing_core.specs.declared.landing.LandingFile.{LandingFile}
use Rattle.plan_core.specs.declared.plan.Dataset.{Dataset as Part}
use Rattle.plan_core.specs.Sound.{IsSoundPlan}
use Rattle.state_model.specs.Dataset.{Dataset, State, dataset_of}
use Rattle.state_model.specs.Follows.{FitsReset, names_differ}
use Rattle.state_steps.specs.Stands.{AllStand, Stands}
use Rattle.state_steps.specs.Steps.{is_named_in}
use Rattle.stream_closure.specs.Streams.{name_at, names_at}

-- ---- names that are the same

name_is : (a b : List ℕ) → same_name a b ≡ true → folded a ≡ folded b
name_is a b e = (bytes_eq-Decides (folded a) (folded b)).0 e

pub name_itself : (name : List ℕ) → same_name name name ≡ true
name_itself name = (bytes_eq-Decides (folded name) (folded name)).1 refl

pub two_names : (a b c : List ℕ) → same_name a c ≡ true → same_name b c ≡ true → same_name a b ≡ true
two_names a b c one two = (bytes_eq-Decides (folded a) (folded b)).1 (name_is a c one ∙ sym (name_is b c two))

pub named_alike : (names : List (List ℕ)) (a b : List ℕ) → same_name a b ≡ true → is_named_in names a ≡ is_named_in names b
named_alike names a b e = ap (λ (f : List ℕ). list_any (λ n. bytes_eq f (folded n)) names) (name_is a b e)

-- ---- members of a list

pub in_rest : (x node : ℕ) (xs : List ℕ) → Contains xs node → Contains (x ∷ xs) node
in_rest x node xs there = (suc there.0, omega (arith, there.1), there.2)

cases_in : (x node : ℕ) (xs : List ℕ) (k : ℕ) → k < length (x ∷ xs) → get_or (x ∷ xs) k node ≡ node → (x ≡ node) ⊎ Contains xs node
cases_in x node xs zero inside e = inl e
cases_in x node xs (suc k) inside e = inr (k, omega arith, e)

-- ---- a name at a place

pub or_right : (a b : Bool) → b ≡ true → (a || b) ≡ true
or_right true b e = refl
or_right false b e = e

any_behind : (test : List ℕ → Bool) (o : Option (List ℕ)) (names : List (List ℕ)) → list_any test names ≡ true → list_any test (cons_option o names) ≡ true
any_behind test None names e = e
any_behind test (Some name) names e = or_right (test name) (list_any test names) e

any_first : (test : List ℕ → Bool) (o : Option (List ℕ)) (name : List ℕ) (names : List (List ℕ)) → o ≡ Some name → test name ≡ true → list_any test (cons_option o names) ≡ true
any_first test o name names is passes = ap (λ p. list_any test (cons_option p names)) is ∙ ap (λ b. b || list_any test names) passes

pub named_at : (plan : List Part) (places : List ℕ) (place : ℕ) (part : Part) (name : List ℕ) → Contains places place → slice_get plan place ≡ Some part → same_name name part.name ≡ true → is_named_in (names_at plan places) name ≡ true
named_at plan [] place part name there is same = absurd (omega (arith, there.1))
named_at plan (x ∷ xs) place part name there is same =
    elim (cases_in x place xs there.0 there.1 there.2) [
      | inl here ↦ any_first (same_name name) (name_at plan x) part.name (names_at plan xs) (ap (name_at plan) here ∙ ap (λ o. option_map (λ p. p.name) o) is) same
      | inr later ↦ any_behind (same_name name) (name_at plan x) (names_at plan xs) (named_at plan xs place part name later is same)
    ]

-- a name is that of the dataset at one of the places
pub record Found (plan : List Part) (places : List ℕ) (name : List ℕ) : Type 0 where
  pub place : ℕ
  pub there : Contains places place
  pub part : Part
  pub part_is : slice_get plan place ≡ Some part
  pub same : same_name name part.name ≡ true

found_later : (plan : List Part) (x : ℕ) (xs : List ℕ) (name : List ℕ) → Found plan xs name → Found plan (x ∷ xs) name
found_later plan x xs name f = record { place = f.place; there = in_rest x f.place xs f.there; part = f.part; part_is = f.part_is; same = f.same }

found_here : (plan : List Part) (x : ℕ) (xs : List ℕ) (name : List ℕ) (part : Part) (test : Bool) → slice_get plan x ≡ Some part → same_name name part.name ≡ test → (test || is_named_in (names_at plan xs) name) ≡ true
    → (is_named_in (names_at plan xs) name ≡ true → Found plan xs name) → Found plan (x ∷ xs) name
found_here plan x xs name part true is same e behind = record { place = x; there = (zero, omega arith, refl); part = part; part_is = is; same = same }
found_here plan x xs name part false is same e behind = found_later plan x xs name (behind e)

found_by : (plan : List Part) (x : ℕ) (xs : List ℕ) (name : List ℕ) (o : Option Part) → slice_get plan x ≡ o → list_any (same_name name) (cons_option (option_map (λ p. p.name) o) (names_at plan xs)) ≡ true
    → (is_named_in (names_at plan xs) name ≡ true → Found plan xs name) → Found plan (x ∷ xs) name
found_by plan x xs name None is e behind = found_later plan x xs name (behind e)
found_by plan x xs name (Some part) is e behind = found_here plan x xs name part (same_name name part.name) is refl e behind

pub found_at : (plan : List Part) (places : List ℕ) (name : List ℕ) → is_named_in (names_at plan places) name ≡ true → Found plan places name
found_at plan [] name e = cc
found_at plan (x ∷ xs) name e = found_by plan x xs name (slice_get plan x) refl e (found_at plan xs name)

-- ---- a test of all names

pub and_both : (a b : Bool) → a ≡ true → b ≡ true → (a && b) ≡ true
and_both true b one two = two
and_both false b one two = one

pub and_left : (a b : Bool) → (a && b) ≡ true → a ≡ true
and_left true b e = refl
and_left false b e = e

pub and_right : (a b : Bool) → (a && b) ≡ true → b ≡ true
and_right true b e = e
and_right false b e = cc

-- a test of the name at a place, which passes where there is none
abbrev pub at_place : List Part → (List ℕ → Bool) → ℕ → Bool
at_place plan test place = option_map_or test (name_at plan place) true

all_by : (test : List ℕ → Bool) (o : Option (List ℕ)) (names : List (List ℕ)) → option_map_or test o true ≡ true → list_all test names ≡ true → list_all test (cons_option o names) ≡ true
all_by test None names here later = later
all_by test (Some name) names here later = and_both (test name) (list_all test names) here later

pub all_names : (plan : List Part) (test : List ℕ → Bool) (places : List ℕ) → ((place : ℕ) → Contains places place → at_place plan test place ≡ true) → list_all test (names_at plan places) ≡ true
all_names plan test [] each = refl
all_names plan test (x ∷ xs) each =
    all_by test (name_at plan x) (names_at plan xs) (each x (zero, omega arith, refl)) (all_names plan test xs (λ place there. each place (in_rest x place xs there)))

first_of_all : (test : List ℕ → Bool) (o : Option (List ℕ)) (names : List (List ℕ)) → list_all test (cons_option o names) ≡ true → (option_map_or test o true ≡ true) × (list_all test names ≡ true)
first_of_all test None names e = (refl, e)
first_of_all test (Some name) names e = (and_left (test name) (list_all test names) e, and_right (test name) (list_all test names) e)

pub each_name : (plan : List Part) (test : List ℕ → Bool) (places : List ℕ) → list_all test (names_at plan places) ≡ true → (place : ℕ) → Contains places place → at_place plan test place ≡ true
each_name plan test [] all place there = absurd (omega (arith, there.1))
each_name plan test (x ∷ xs) all place there =
    let both = first_of_all test (name_at plan x) (names_at plan xs) all in
    elim (cases_in x place xs there.0 there.1 there.2) [
      | inl here ↦ ap (at_place plan test) (sym here) ∙ both.0
      | inr later ↦ each_name plan test xs both.1 place later
    ]

-- ---- names at places that ascend differ

pub not_same : (b : Bool) → IsTrue (not b) → b ≡ false
not_same true e = cc
not_same false e = refl

pub apart_at : (plan : List Part) → IsSoundPlan plan → (i j : ℕ) (a b : Part) → i < j → slice_get plan i ≡ Some a → slice_get plan j ≡ Some b → same_name a.name b.name ≡ false
apart_at plan sound i j a b less a_is b_is =
    let differ : IsTrue (not (same_name (get_or plan i a).name (get_or plan j a).name)) = sound.names_differ i j a less (slice_get_within plan j b b_is) in
    sym (ap (λ (p : Part). same_name p.name (get_or plan j a).name) (get_or_from_slice_get plan i a a a_is) ∙ ap (λ (p : Part). same_name a.name p.name) (get_or_from_slice_get plan j b a b_is))
    ∙ not_same (same_name (get_or plan i a).name (get_or plan j a).name) differ

pub not_found : (b : Bool) → (b ≡ true → ⊥) → not b ≡ true
not_found true never = absurd (never refl)
not_found false never = refl

pairs_below : (x : ℕ) (xs : List ℕ) → AllPairs (λ a b. a < b) (x ∷ xs) → (place : ℕ) → Contains xs place → x < place
pairs_below x xs pairs place there = let up : x < get_or xs there.0 place = pairs zero (suc there.0) place (omega arith) (omega (arith, there.1)) in omega (arith, there.2)

pairs_rest : (x : ℕ) (xs : List ℕ) → AllPairs (λ a b. a < b) (x ∷ xs) → AllPairs (λ a b. a < b) xs
pairs_rest x xs pairs i j d less inside = pairs (suc i) (suc j) d (omega arith) (omega arith)

module _ (plan : List Part) (sound : IsSoundPlan plan) where
  clash : (x : ℕ) (xs : List ℕ) (part : Part) → AllPairs (λ a b. a < b) (x ∷ xs) → slice_get plan x ≡ Some part → is_named_in (names_at plan xs) part.name ≡ true → ⊥
  clash x xs part pairs is e =
      let f = found_at plan xs part.name e in
      let apart : same_name part.name f.part.name ≡ false = apart_at plan sound x f.place part f.part (pairs_below x xs pairs f.place f.there) is f.part_is in
      let both : true ≡ false = sym f.same ∙ apart in
      let never : ⊥ = cc in never

  differ_by : (x : ℕ) (xs : List ℕ) (o : Option Part) → AllPairs (λ a b. a < b) (x ∷ xs) → slice_get plan x ≡ o → names_differ (names_at plan xs) ≡ true → names_differ (cons_option (option_map (λ p. p.name) o) (names_at plan xs)) ≡ true
  differ_by x xs None pairs is rest = rest
  differ_by x xs (Some part) pairs is rest =
      and_both (not (is_named_in (names_at plan xs) part.name)) (names_differ (names_at plan xs)) (not_found (is_named_in (names_at plan xs) part.name) (clash x xs part pairs is)) rest

  differ_pairs : (places : List ℕ) → AllPairs (λ a b. a < b) places → names_differ (names_at plan places) ≡ true
  differ_pairs [] pairs = refl
  differ_pairs (x ∷ xs) pairs = differ_by x xs (slice_get plan x) pairs refl (differ_pairs xs (pairs_rest x xs pairs))

  pub differ_at : (places : List ℕ) → IsStrictlyIncreasing places → names_differ (names_at plan places) ≡ true
  differ_at places up = differ_pairs places (AllPairs-from_increasing places up)

-- ---- names of the datasets of a store that stands

found_among : (name : List ℕ) (d : Dataset) (ds : State) (test : Bool) → is_some (dataset_of ds name) ≡ true → is_some (cond test (Some d) (dataset_of ds name)) ≡ true
found_among name d ds true there = refl
found_among name d ds false there = there

module _ (ever : List LandingFile) (whole : State) where
  stored_at : (parts : List Part) (state : State) (place : ℕ) (part : Part) → AllStand ever whole parts state → slice_get parts place ≡ Some part → is_some (dataset_of state part.name) ≡ true
  stored_at [] state place part all is = cc
  stored_at (p ∷ ps) [] place part all is = absurd all
  stored_at (p ∷ ps) (d ∷ ds) zero part all is =
      let one : p ≡ part = ap (λ o. option_map_or (λ q. q) o p) is in
      let same : same_name d.definition.name part.name ≡ true = ap (λ (n : List ℕ). same_name n part.name) (all.0.is_of.name ∙ ap (λ (q : Part). q.name) one) ∙ name_itself part.name in
      ap (λ b. is_some (cond b (Some d) (dataset_of ds part.name))) same
  stored_at (p ∷ ps) (d ∷ ds) (suc place) part all is = found_among part.name d ds (same_name d.definition.name part.name) (stored_at ps ds place part all.1 is)

defined_by : (state : State) (o : Option Part) → ((part : Part) → o ≡ Some part → is_some (dataset_of state part.name) ≡ true) → option_map_or (λ name. is_some (dataset_of state name)) (option_map (λ p. p.name) o) true ≡ true
defined_by state None each = refl
defined_by state (Some part) each = each part refl

pub fits_reset : (parts : List Part) (ever : List LandingFile) (state : State) (places : List ℕ) → Stands parts ever state → IsStrictlyIncreasing places → FitsReset state (names_at parts places)
fits_reset parts ever state places stands up = record {
  defined = all_names parts (λ name. is_some (dataset_of state name)) places (λ place there. defined_by state (slice_get parts place) (λ part is. stored_at ever state parts state place part stands.each is));
  differ = differ_at parts stands.sound places up;
}
