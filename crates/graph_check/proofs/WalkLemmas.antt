-- Walks, cycles and levels.
use Rattle.std.proofs.Common.{◌≡◌, ◌≢◌, ℕ, zero, suc, ◌+◌, ◌<◌, ◌≤◌, ◌⊎◌, List, [], ◌∷◌, length, eqb, get_or, refl, sym, subst, inl, inr, arith}
use Rattle.std.specs.List.{All, AllPairs, Contains}
use Rattle.std.proofs.lemmas.List.Elements.{All-contains, All-cons, All-nil}
use Rattle.std.proofs.lemmas.List.Kept.{AllPairs-cons}
use Rattle.std.proofs.lemmas.Map.Made.{IsDistinct-from_AllPairs}
use Rattle.std.proofs.lemmas.Map.Steps.{length-le_from_distinct_below}
use Rattle.std.proofs.lemmas.Map.Views.{Contains-from_any}
use Rattle.std.proofs.lemmas.Bool.Decides.{Decides-eqb}
use Rattle.std.proofs.lemmas.Bool.{cases_eq}
use Rattle.graph_check.specs.Graphs.{AreWithin, Reads, Walk}
use Rattle.graph_check.specs.Levels.{HasLevel, above_sources}

-- both ends of an edge are nodes
pub reads_within : (count : ℕ) (edges : List (ℕ × ℕ)) (reader source : ℕ) → AreWithin count edges → Reads edges reader source → (reader < count) × (source < count)
reads_within count edges reader source within reads = All-contains (λ (edge : ℕ × ℕ). (edge.0 < count) × (edge.1 < count)) edges (reader, source) within reads

-- the first part of a walk
pub walk_front : (edges : List (ℕ × ℕ)) (short long from to : ℕ) → short ≤ long → Walk edges from long to → (middle : ℕ) × Walk edges from short middle
walk_front edges zero long from to shorter walk = (from, refl)
walk_front edges (suc short) zero from to shorter walk = absurd (omega arith)
walk_front edges (suc short) (suc long) from to shorter walk =
    let rest = walk_front edges short long walk.0 to (omega arith) walk.2 in
    (rest.0, (walk.0, walk.1, rest.1))

-- one walk behind another
pub walk_append : (edges : List (ℕ × ℕ)) (first more total from middle to : ℕ) → total ≡ first + more → Walk edges from first middle → Walk edges middle more to → Walk edges from total to
walk_append edges zero more total from middle to sum a b =
    let e : more ≡ total = omega arith in
    subst (λ n. Walk edges from n to) e (subst (λ n. Walk edges n more to) (sym a) b)
walk_append edges (suc first) more zero from middle to sum a b = absurd (omega arith)
walk_append edges (suc first) more (suc total) from middle to sum a b = (a.0, a.1, walk_append edges first more total a.0 middle to (omega arith) a.2 b)

-- a source of a node with a level has one
pub level_of_source : (edges : List (ℕ × ℕ)) {node : ℕ} (source : ℕ) → HasLevel edges node → Reads edges node source → HasLevel edges source
level_of_source edges source (above_sources each) reads = each source reads

pub level_along : (edges : List (ℕ × ℕ)) (steps from to : ℕ) → HasLevel edges from → Walk edges from steps to → HasLevel edges to
level_along edges zero from to has walk = subst (λ n. HasLevel edges n) walk has
level_along edges (suc steps) from to has walk = level_along edges steps walk.0 to (level_of_source edges walk.0 has walk.1) walk.2

-- a node on a cycle has no level
pub cycle_without : (edges : List (ℕ × ℕ)) {node : ℕ} → HasLevel edges node → (steps : ℕ) → Walk edges node (suc steps) node → ⊥
cycle_without edges {node} (above_sources each) steps walk = cycle_without edges (each walk.0 walk.1) steps (walk_append edges steps (suc zero) (suc steps) walk.0 node walk.0 (omega arith) walk.2 (walk.0, walk.1, refl))

-- a node whose walks are shorter than some number has a level
pub level_below : (edges : List (ℕ × ℕ)) (bound node : ℕ) → ((steps to : ℕ) → Walk edges node steps to → steps < bound) → HasLevel edges node
level_below edges zero node short = let none : zero < zero = short zero node refl in absurd (omega arith)
level_below edges (suc bound) node short =
    above_sources (λ source reads. level_below edges bound source (λ steps to walk. let next : suc steps < suc bound = short (suc steps) to (source, reads, walk) in omega arith))

-- different numbers below a bound are no more than it
pub distinct_length : (count : ℕ) (nodes : List ℕ) → AllPairs (λ x y. x ≢ y) nodes → All (λ x. x < count) nodes → length nodes ≤ count
distinct_length count nodes distinct below =
    length-le_from_distinct_below nodes count (IsDistinct-from_AllPairs {eq = eqb} Decides-eqb nodes distinct) (λ q found. All-contains (λ x. x < count) nodes q below (Contains-from_any {eq = eqb} (λ x y. (Decides-eqb x y).0) q nodes found))

-- whether a number is in a list
pub contains_or_not : (nodes : List ℕ) (node : ℕ) → Contains nodes node ⊎ All (λ x. node ≢ x) nodes
contains_or_not [] node = inr (All-nil (λ x. node ≢ x))
contains_or_not (x ∷ nodes) node =
    elim (cases_eq x node) [
      | inl same ↦ inl (zero, omega arith, same)
      | inr differs ↦ elim (contains_or_not nodes node) [
        | inl there ↦ inl (suc there.0, omega (arith, there.1), there.2)
        | inr none ↦ inr (All-cons (λ y. node ≢ y) x nodes (λ same. differs (sym same)) none)
      ]
    ]

-- a node from which a walk leads to a cycle
pub record LeadsToCycle (edges : List (ℕ × ℕ)) (from : ℕ) : Type 0 where
  pub node : ℕ
  pub before : ℕ
  pub way : Walk edges from before node
  pub round : ℕ
  pub cycle : Walk edges node (suc round) node

pub leads_without : (edges : List (ℕ × ℕ)) (from : ℕ) → LeadsToCycle edges from → HasLevel edges from → ⊥
leads_without edges from leads has = cycle_without edges (level_along edges leads.before from leads.node has leads.way) leads.round leads.cycle

-- where each seen node leads to a node, each leads on to its source
lead_more : (edges : List (ℕ × ℕ)) (seen : List ℕ) (from source : ℕ) → Reads edges from source → ((x : ℕ) → Contains seen x → (n : ℕ) × Walk edges x (suc n) from) → (x k : ℕ) → k < length (from ∷ seen) → get_or (from ∷ seen) k x ≡ x → (n : ℕ) × Walk edges x (suc n) source
lead_more edges seen from source reads lead x zero inside same = (zero, subst (λ y. Walk edges y (suc zero) source) same (source, reads, refl))
lead_more edges seen from source reads lead x (suc k) inside same =
    let before = lead x (k, omega arith, same) in
    (suc before.0, walk_append edges (suc before.0) (suc zero) (suc (suc before.0)) x from source (omega arith) before.1 (source, reads, refl))

-- a step before a way to a cycle
leads_on : (edges : List (ℕ × ℕ)) (from source : ℕ) → Reads edges from source → LeadsToCycle edges source → LeadsToCycle edges from
leads_on edges from source reads leads = record { node = leads.node; before = suc leads.before; way = (source, reads, leads.way); round = leads.round; cycle = leads.cycle }

-- a seen node that comes again is on a cycle
on_cycle : (edges : List (ℕ × ℕ)) (from : ℕ) → (n : ℕ) × Walk edges from (suc n) from → LeadsToCycle edges from
on_cycle edges from again = record { node = from; before = zero; way = refl; round = again.0; cycle = again.1 }

-- a walk of as many steps as there are nodes that were not seen comes to a node again
pub comes_again : (count : ℕ) (edges : List (ℕ × ℕ)) → AreWithin count edges → (steps : ℕ) (seen : List ℕ) → AllPairs (λ x y. x ≢ y) seen → All (λ x. x < count) seen → (from to : ℕ) → from < count → ((x : ℕ) → Contains seen x → (n : ℕ) × Walk edges x (suc n) from) → Walk edges from steps to → count ≤ steps + length seen → LeadsToCycle edges from
comes_again count edges within zero seen distinct below from to inside lead walk many =
    elim (contains_or_not seen from) [
      | inl again ↦ on_cycle edges from (lead from again)
      | inr fresh ↦
          let room : length (from ∷ seen) ≤ count = distinct_length count (from ∷ seen) (AllPairs-cons (λ x y. x ≢ y) from seen fresh distinct) (All-cons (λ x. x < count) from seen inside below) in
          absurd (omega arith)
    ]
comes_again count edges within (suc steps) seen distinct below from to inside lead walk many =
    elim (contains_or_not seen from) [
      | inl again ↦ on_cycle edges from (lead from again)
      | inr fresh ↦
          leads_on edges from walk.0 walk.1 (comes_again count edges within steps (from ∷ seen) (AllPairs-cons (λ x y. x ≢ y) from seen fresh distinct) (All-cons (λ x. x < count) from seen inside below) walk.0 to (reads_within count edges from walk.0 within walk.1).1 (λ x there. lead_more edges seen from walk.0 walk.1 lead x there.0 there.1 there.2) walk.2 (omega arith))
    ]

-- a walk of as many steps as there are nodes leads to a cycle
pub leads_to_cycle : (count : ℕ) (edges : List (ℕ × ℕ)) → AreWithin count edges → (from to : ℕ) → from < count → Walk edges from count to → LeadsToCycle edges from
leads_to_cycle count edges within from to inside walk =
    comes_again count edges within count [] (λ i j d before inside. absurd (omega arith)) (All-nil (λ x. x < count)) from to inside (λ x none. absurd (omega (arith, none.1))) walk (omega arith)
