-- A flow by its place in a plan.
use Rattle.std.proofs.Common.{◌≡◌, ℕ, zero, suc, ◌<◌, List, [], ◌∷◌, length, get_or, Bool, true, false, cond, not, IsTrue, slice_get, slice_set, Option, Some, refl, ap, ◌∙◌, subst, arith}
use Rattle.std.specs.List.{AllByRecursion}
use Rattle.std.specs.Option.{option_map_or}
use Rattle.std.proofs.lemmas.Option.{get_or_from_slice_get, slice_get_within}
use Rattle.std.proofs.lemmas.Slice.Eq.{bytes_eq-Decides}
use Rattle.value_core.specs.NameFold.{folded, same_name}
use Rattle.plan_core.specs.declared.flow.AppendFlow.{AppendFlow}
use Rattle.plan_core.specs.declared.plan.Dataset.{Dataset as Part}
use Rattle.plan_core.specs.Sound.{IsSoundPlan, dataset_named}
use Rattle.flow_engine.specs.declared.flow_id.FlowId.{FlowId}
use Rattle.flow_engine.specs.Flows.{IsFlowAt, IsFlowOf}
use Rattle.flow_engine.specs.Points.{marked}

-- ---- what stands at a place

pub at_one : {A : Type 0} (one other : A) → ◌≡◌ {A = Option A} (Some one) (Some other) → one ≡ other
at_one one other is = ap (λ found. option_map_or (λ x. x) found one) is

-- ---- a dataset by its name

name_itself : (name : List ℕ) → same_name name name ≡ true
name_itself name = (bytes_eq-Decides (folded name) (folded name)).1 refl

not_true : (b : Bool) → IsTrue (not b) → b ≡ false
not_true true is = cc
not_true false is = refl

-- the dataset at a place is the first one of its name, where no earlier one has it
named_at : (parts : List Part) (place : ℕ) (part : Part) → slice_get parts place ≡ Some part → ((j : ℕ) (p : Part) → j < place → slice_get parts j ≡ Some p → same_name p.name part.name ≡ false)
    → dataset_named parts part.name ≡ Some part
named_at [] place part is clear = cc
named_at (p ∷ ps) zero part is clear =
    let one : p ≡ part = at_one p part is in
    let here : same_name p.name part.name ≡ true = ap (λ (q : Part). same_name q.name part.name) one ∙ name_itself part.name in
    ap (λ b. cond b (Some p) (dataset_named ps part.name)) here ∙ ap (λ (q : Part). Some q) one
named_at (p ∷ ps) (suc place) part is clear =
    ap (λ b. cond b (Some p) (dataset_named ps part.name)) (clear zero p (omega arith) refl) ∙ named_at ps place part is (λ j q less. clear (suc j) q (omega arith))

-- each dataset of a sound plan is found by its name
pub named_there : (plan : List Part) → IsSoundPlan plan → (place : ℕ) (part : Part) → slice_get plan place ≡ Some part → dataset_named plan part.name ≡ Some part
named_there plan sound place part is =
    named_at plan place part is
    (λ j p less there.
    let apart = sound.names_differ j place part less (slice_get_within plan place part is) in
    let one : get_or plan j part ≡ p = get_or_from_slice_get plan j p part there in
    let other : get_or plan place part ≡ part = get_or_from_slice_get plan place part part is in
    not_true (same_name p.name part.name)
    (subst (λ (q : Part). IsTrue (not (same_name p.name q.name))) other (subst (λ (q : Part). IsTrue (not (same_name q.name (get_or plan place part).name))) one apart)))

-- each dataset at a place is as all of them are
pub at_place : (P : Part → Type 0) (parts : List Part) (place : ℕ) (part : Part) → AllByRecursion P parts → slice_get parts place ≡ Some part → P part
at_place P [] place part all is = cc
at_place P (p ∷ ps) zero part all is = subst P (at_one p part is) all.0
at_place P (p ∷ ps) (suc place) part all is = at_place P ps place part all.1 is

-- ---- a flow by its place

pub at_flow : (plan : List Part) (id : FlowId) (dataset : Part) (flow : AppendFlow) → slice_get plan id.dataset ≡ Some dataset → IsFlowOf dataset id.flow flow → IsFlowAt plan id dataset flow
at_flow plan id dataset flow there is = record { flows = is.flows; dataset_is = there; appends = is.appends; flow_is = is.flow_is; named = is.named }

-- ---- marks

pub marked_not : (place : ℕ) (marks : List Bool) → marked place false marks ≡ marks
marked_not place [] = refl
marked_not zero (first ∷ more) = refl
marked_not (suc place) (first ∷ more) = ap (λ (list : List Bool). first ∷ list) (marked_not place more)

pub marked_length : (place : ℕ) (is : Bool) (marks : List Bool) → length (marked place is marks) ≡ length marks
marked_length place is [] = refl
marked_length zero true (first ∷ more) = refl
marked_length zero false (first ∷ more) = refl
marked_length (suc place) is (first ∷ more) = ap suc (marked_length place is more)

pub marked_there : (place : ℕ) (marks : List Bool) → slice_set marks place true ≡ marked place true marks
marked_there place [] = refl
marked_there zero (first ∷ more) = refl
marked_there (suc place) (first ∷ more) = ap (λ (list : List Bool). first ∷ list) (marked_there place more)
