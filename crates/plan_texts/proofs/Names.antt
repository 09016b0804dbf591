-- Datasets by their names.
use Rattle.std.proofs.Common.{◌≡◌, ◌⊎◌, inl, inr, ℕ, zero, suc, ◌+◌, ◌<◌, Bool, true, false, cond, List, [], ◌∷◌, Option, Some, None, get_or, map, refl, sym, ap, subst, ◌∙◌, arith}
use Rattle.std.specs.Prelude.{IsTrue, bytes_eq, find, not, slice_get}
use Rattle.std.specs.List.{AllByRecursion, AllPairs, position_from}
use Rattle.std.proofs.lemmas.Bool.{cases_lt}
use Rattle.std.proofs.lemmas.Iterator.Adapters.{position_from-zero}
use Rattle.std.proofs.lemmas.Option.{get_or_from_slice_get, slice_get_within}
use Rattle.std.proofs.lemmas.Slice.Eq.{bytes_eq-Decides}
use Rattle.std.proofs.Math.Nat.{eq-or-lt_of_le}
use Rattle.value_core.specs.NameFold.{folded, same_name}
use Rattle.plan_core.specs.declared.plan.Dataset.{Dataset}
use Rattle.plan_core.specs.Sound.{dataset_named}
use Rattle.name_checks.specs.Edges.{dataset_place}
use Rattle.plan_texts.proofs.Lists.{Among, among_at, in_some, no_some}

-- ---- names that are the same

folds : (a b : List ℕ) → same_name a b ≡ true → folded a ≡ folded b
folds a b e = (bytes_eq-Decides (folded a) (folded b)).0 e

pub name_itself : (name : List ℕ) → same_name name name ≡ true
name_itself name = (bytes_eq-Decides (folded name) (folded name)).1 refl

pub name_back : (a b : List ℕ) → same_name a b ≡ true → same_name b a ≡ true
name_back a b e = (bytes_eq-Decides (folded b) (folded a)).1 (sym (folds a b e))

pub name_along : (a b c : List ℕ) → same_name a b ≡ true → same_name b c ≡ true → same_name a c ≡ true
name_along a b c e f = (bytes_eq-Decides (folded a) (folded c)).1 (folds a b e ∙ folds b c f)

pub named_alike : (plan : List Dataset) (a b : List ℕ) → same_name a b ≡ true → dataset_named plan a ≡ dataset_named plan b
named_alike plan a b e = ap (λ (f : List ℕ). find (λ (dataset : Dataset). bytes_eq (folded dataset.name) f) plan) (folds a b e)

-- ---- what is found

-- it is there and has the name
pub record IsFound (plan : List Dataset) (name : List ℕ) (dataset : Dataset) : Type 0 where
  pub index : ℕ
  pub is_there : slice_get plan index ≡ Some dataset
  pub same : same_name dataset.name name ≡ true

found_more : (first : Dataset) (more : List Dataset) (name : List ℕ) (dataset : Dataset) → IsFound more name dataset → IsFound (first ∷ more) name dataset
found_more first more name dataset found = record { index = suc found.index; is_there = found.is_there; same = found.same }

found_by : (first : Dataset) (more : List Dataset) (name : List ℕ) (dataset : Dataset) (test : Bool) → same_name first.name name ≡ test → (dataset_named more name ≡ Some dataset → IsFound more name dataset) →
    cond test (Some first) (dataset_named more name) ≡ Some dataset → IsFound (first ∷ more) name dataset
found_by first more name dataset true is rest e = let one : first ≡ dataset = in_some e in record { index = 0; is_there = e; same = subst (λ (d : Dataset). same_name d.name name ≡ true) one is }
found_by first more name dataset false is rest e = found_more first more name dataset (rest e)

pub found : (plan : List Dataset) (name : List ℕ) (dataset : Dataset) → dataset_named plan name ≡ Some dataset → IsFound plan name dataset
found [] name dataset e = absurd (no_some e)
found (first ∷ more) name dataset e = found_by first more name dataset (same_name first.name name) refl (found more name dataset) e

-- what holds of all holds of what is found
pub of_found : (P : Dataset → Type 0) (plan : List Dataset) (index : ℕ) (dataset : Dataset) → AllByRecursion P plan → slice_get plan index ≡ Some dataset → P dataset
of_found P [] index dataset all e = absurd (no_some e)
of_found P (first ∷ more) zero dataset all e = subst P (in_some e) all.0
of_found P (first ∷ more) (suc index) dataset all e = of_found P more index dataset all.1 e

-- ---- names that differ

abbrev pub HaveDifferentNames : List Dataset → Type 0
HaveDifferentNames plan = AllPairs (λ (a b : Dataset). IsTrue (not (same_name a.name b.name))) plan

never : (test : Bool) → test ≡ true → not test ≡ true → ⊥
never true e f = cc
never false e f = cc

not_behind : (plan : List Dataset) (i j : ℕ) (a b : Dataset) → HaveDifferentNames plan → slice_get plan i ≡ Some a → slice_get plan j ≡ Some b → same_name a.name b.name ≡ true → i < j → ⊥
not_behind plan i j a b differ at_i at_j same less =
    let one : get_or plan i a ≡ a = get_or_from_slice_get plan i a a at_i in
    let two : get_or plan j a ≡ b = get_or_from_slice_get plan j b a at_j in
    let apart : not (same_name (get_or plan i a).name (get_or plan j a).name) ≡ true = differ i j a less (slice_get_within plan j b at_j) in
    never (same_name a.name b.name) same (subst (λ (d : Dataset). not (same_name a.name d.name) ≡ true) two (subst (λ (d : Dataset). not (same_name d.name (get_or plan j a).name) ≡ true) one apart))

-- one name stands at one place
pub one_place : (plan : List Dataset) (i j : ℕ) (a b : Dataset) → HaveDifferentNames plan → slice_get plan i ≡ Some a → slice_get plan j ≡ Some b → same_name a.name b.name ≡ true → i ≡ j
one_place plan i j a b differ at_i at_j same =
    elim (cases_lt i j) [
      | inl less ↦ absurd (not_behind plan i j a b differ at_i at_j same less)
      | inr le ↦ elim (eq-or-lt_of_le le) [ inl is ↦ sym is | inr less ↦ absurd (not_behind plan j i b a differ at_j at_i (name_back a.name b.name same) less) ]
    ]

none_by : (first : Dataset) (more : List Dataset) (name : List ℕ) (dataset : Dataset) (test : Bool) → same_name first.name name ≡ test → (Among dataset more → dataset_named more name ≡ None → ⊥) → same_name dataset.name name ≡ true → (dataset ≡ first) ⊎ Among dataset more →
    cond test (Some first) (dataset_named more name) ≡ None → ⊥
none_by first more name dataset true is rest same m e = no_some (sym e)
none_by first more name dataset false is rest same (inl one) e = let no : true ≡ false = sym same ∙ ap (λ (d : Dataset). same_name d.name name) one ∙ is in cc
none_by first more name dataset false is rest same (inr m) e = rest m e

not_none : (plan : List Dataset) (name : List ℕ) (dataset : Dataset) → Among dataset plan → same_name dataset.name name ≡ true → dataset_named plan name ≡ None → ⊥
not_none [] name dataset m same e = absurd m
not_none (first ∷ more) name dataset m same e = none_by first more name dataset (same_name first.name name) refl (λ n. not_none more name dataset n same) same m e

named_by : (plan : List Dataset) (name : List ℕ) (index : ℕ) (dataset : Dataset) (o : Option Dataset) → HaveDifferentNames plan → slice_get plan index ≡ Some dataset → same_name dataset.name name ≡ true → Among dataset plan → dataset_named plan name ≡ o → o ≡ Some dataset
named_by plan name index dataset None differ is same m e = absurd (not_none plan name dataset m same e)
named_by plan name index dataset (Some other) differ is same m e =
    let f = found plan name other e in
    let one : f.index ≡ index = one_place plan f.index index other dataset differ f.is_there is (name_along other.name name dataset.name f.same (name_back dataset.name name same)) in
    sym f.is_there ∙ ap (slice_get plan) one ∙ is

-- what is at an index has its name
pub named_at : (plan : List Dataset) (name : List ℕ) (index : ℕ) (dataset : Dataset) → HaveDifferentNames plan → slice_get plan index ≡ Some dataset → same_name dataset.name name ≡ true → dataset_named plan name ≡ Some dataset
named_at plan name index dataset differ is same = named_by plan name index dataset (dataset_named plan name) differ is same (among_at plan index dataset is) refl

-- two of one name are one
pub one_named : (plan : List Dataset) (a b : Dataset) (i j : ℕ) → HaveDifferentNames plan → slice_get plan i ≡ Some a → slice_get plan j ≡ Some b → same_name a.name b.name ≡ true → a ≡ b
one_named plan a b i j differ at_i at_j same = in_some (sym at_i ∙ ap (slice_get plan) (one_place plan i j a b differ at_i at_j same) ∙ at_j)

-- ---- places among the names

abbrev pub name_of : Dataset → List ℕ
name_of dataset = dataset.name

one_bool : (a b : Bool) → (a ≡ true → b ≡ true) → (b ≡ true → a ≡ true) → a ≡ b
one_bool true b f g = sym (f refl)
one_bool false true f g = g refl
one_bool false false f g = refl

same_back : (a b : List ℕ) → same_name a b ≡ same_name b a
same_back a b = one_bool (same_name a b) (same_name b a) (name_back a b) (name_back b a)

-- the dataset is at an index, which is the first of its name
pub record IsPlaced (plan : List Dataset) (name : List ℕ) (dataset : Dataset) : Type 0 where
  pub index : ℕ
  pub is_there : slice_get plan index ≡ Some dataset
  pub placed : dataset_place (map name_of plan) name ≡ Some index

record IsPlacedFrom (start : ℕ) (plan : List Dataset) (name : List ℕ) (dataset : Dataset) : Type 0 where
  index : ℕ
  is_there : slice_get plan index ≡ Some dataset
  placed : position_from (same_name name) start (map name_of plan) ≡ Some (start + index)

placed_by : (start : ℕ) (first : Dataset) (more : List Dataset) (name : List ℕ) (dataset : Dataset) (test : Bool) → same_name first.name name ≡ test → (dataset_named more name ≡ Some dataset → IsPlacedFrom (start + 1) more name dataset) →
    cond test (Some first) (dataset_named more name) ≡ Some dataset → IsPlacedFrom start (first ∷ more) name dataset
placed_by start first more name dataset true is rest e = record {
  index = 0;
  is_there = e;
  placed = ap (λ (b : Bool). cond b (Some start) (position_from (same_name name) (start + 1) (map name_of more))) (same_back name first.name ∙ is) ∙ ap Some (omega arith);
}
placed_by start first more name dataset false is rest e = let there = rest e in record {
  index = suc there.index;
  is_there = there.is_there;
  placed = ap (λ (b : Bool). cond b (Some start) (position_from (same_name name) (start + 1) (map name_of more))) (same_back name first.name ∙ is) ∙ there.placed ∙ ap Some (omega arith);
}

placed_from : (start : ℕ) (plan : List Dataset) (name : List ℕ) (dataset : Dataset) → dataset_named plan name ≡ Some dataset → IsPlacedFrom start plan name dataset
placed_from start [] name dataset e = absurd (no_some e)
placed_from start (first ∷ more) name dataset e = placed_by start first more name dataset (same_name first.name name) refl (placed_from (start + 1) more name dataset) e

pub placed : (plan : List Dataset) (name : List ℕ) (dataset : Dataset) → dataset_named plan name ≡ Some dataset → IsPlaced plan name dataset
placed plan name dataset e =
    let there = placed_from 0 plan name dataset e in
    record { index = there.index; is_there = there.is_there; placed = position_from-zero (same_name name) (map name_of plan) ∙ there.placed ∙ ap Some (omega arith) }

-- there is a dataset at an index, and it has the name
pub record IsThere (plan : List Dataset) (name : List ℕ) (index : ℕ) : Type 0 where
  pub dataset : Dataset
  pub is_there : slice_get plan index ≡ Some dataset
  pub same : same_name dataset.name name ≡ true

record IsThereFrom (start : ℕ) (plan : List Dataset) (name : List ℕ) (place : ℕ) : Type 0 where
  index : ℕ
  is_index : place ≡ start + index
  there : IsThere plan name index

there_by : (start : ℕ) (first : Dataset) (more : List Dataset) (name : List ℕ) (place : ℕ) (test : Bool) → same_name name first.name ≡ test → (position_from (same_name name) (start + 1) (map name_of more) ≡ Some place → IsThereFrom (start + 1) more name place) →
    cond test (Some start) (position_from (same_name name) (start + 1) (map name_of more)) ≡ Some place → IsThereFrom start (first ∷ more) name place
there_by start first more name place true is rest e =
    let one : start ≡ place = in_some e in
    record { index = 0; is_index = omega (arith, one); there = record { dataset = first; is_there = refl; same = name_back name first.name is } }
there_by start first more name place false is rest e =
    let r = rest e in
    record { index = suc r.index; is_index = omega (arith, r.is_index); there = record { dataset = r.there.dataset; is_there = r.there.is_there; same = r.there.same } }

there_from : (start : ℕ) (plan : List Dataset) (name : List ℕ) (place : ℕ) → position_from (same_name name) start (map name_of plan) ≡ Some place → IsThereFrom start plan name place
there_from start [] name place e = absurd (no_some e)
there_from start (first ∷ more) name place e = there_by start first more name place (same_name name first.name) refl (there_from (start + 1) more name place) e

pub there_at : (plan : List Dataset) (name : List ℕ) (place : ℕ) → dataset_place (map name_of plan) name ≡ Some place → IsThere plan name place
there_at plan name place e =
    let r = there_from 0 plan name place (sym (position_from-zero (same_name name) (map name_of plan)) ∙ e) in
    subst (IsThere plan name) (sym (r.is_index ∙ omega arith)) r.there
