-- Marks that spread from sources to readers.
use Rattle.std.proofs.Common.{◌≡◌, ℕ, zero, suc, ◌+◌, ◌<◌, ◌≤◌, ◌↔◌, Bool, true, false, not, cond, List, [], ◌∷◌, ◌++◌, length, take, drop, get_or, set, replicate, refl, sym, ◌∙◌, ap, subst, inl, inr, arith}
use Rattle.std.proofs.Math.Seq.{take-append_seam}
use Rattle.std.specs.List.{All, Contains, count_by}
use Rattle.std.specs.List.Sorted.{IsStrictlyIncreasing}
use Rattle.std.proofs.lemmas.List.{get_or_default, get_or_append_left, get_or_push, length_push, length-set}
use Rattle.std.proofs.lemmas.List.Elements.{All-push, All-contains, All-weaker, Contains-get_or, Contains-append_left, Contains-push}
use Rattle.std.proofs.lemmas.List.Sums.{sum_by-set}
use Rattle.std.specs.Bool.{OnFalse}
use Rattle.std.proofs.lemmas.Bool.{cases_eq, cases_Bool, OnFalse_from}
use Rattle.graph_check.specs.Graphs.{AreWithin, Reads, Walk, IsInClosure}
use Rattle.graph_check.specs.Marks.{IsMarked, MarksReaders, LeadsToMarked}
use Rattle.graph_check.proofs.RoundLemmas.{set_cases}
use Rattle.graph_check.proofs.WalkLemmas.{reads_within, walk_append}

-- no node is marked at first
pub unmarked : (count node : ℕ) → IsMarked (replicate count false) node → ⊥
unmarked zero node marked = cc
unmarked (suc count) zero marked = cc
unmarked (suc count) (suc node) marked = unmarked count node marked

-- a marked node is a node
pub marked_inside : (marks : List Bool) (node : ℕ) → IsMarked marks node → node < length marks
marked_inside [] node marked = absurd (cc)
marked_inside (m ∷ marks) zero marked = omega arith
marked_inside (m ∷ marks) (suc node) marked = let inside = marked_inside marks node marked in omega arith

-- one mark more
pub marked_set : (marks : List Bool) (at node : ℕ) → at < length marks → IsMarked marks node → IsMarked (set marks at true) node
marked_set marks at node inside marked =
    elim (set_cases marks at node true false inside) [ inl same ↦ same.1 | inr other ↦ other.1 ∙ marked ]

pub marked_there : (marks : List Bool) (at : ℕ) → at < length marks → IsMarked (set marks at true) at
marked_there marks at inside =
    elim (set_cases marks at at true false inside) [ inl same ↦ same.1 | inr other ↦ absurd (other.0 refl) ]

-- the marks of a set, behind so many of its nodes
pub record IsMarkingSet (count : ℕ) (nodes : List ℕ) (index : ℕ) (marks : List Bool) : Type 0 where
  pub complete : length marks ≡ count
  pub all : (k : ℕ) → k < index → IsMarked marks (get_or nodes k 0)
  pub only : (node : ℕ) → IsMarked marks node → Contains nodes node

pub marking_set_more : (count : ℕ) (nodes : List ℕ) (index : ℕ) (marks : List Bool) (item : ℕ) → index < length nodes → item ≡ get_or nodes index 0 → item < count → length (set marks item true) ≡ length marks → IsMarkingSet count nodes index marks → IsMarkingSet count nodes (index + 1) (set marks item true)
marking_set_more count nodes index marks item inside is below size old = record {
  complete = size ∙ old.complete;
  all = λ k before. elim (cases_eq k index) [
    | inl same ↦ subst (λ n. IsMarked (set marks item true) n) (is ∙ ap (λ j. get_or nodes j 0) (sym same)) (marked_there marks item (omega (arith, old.complete)))
    | inr earlier ↦ marked_set marks item (get_or nodes k 0) (omega (arith, old.complete)) (old.all k (omega arith))
  ];
  only = λ node marked. elim (set_cases marks item node true false (omega (arith, old.complete))) [
    | inl same ↦ subst (λ n. Contains nodes n) (sym (same.0 ∙ is)) (Contains-get_or nodes index 0 inside)
    | inr other ↦ old.only node (sym other.1 ∙ marked)
  ];
}

pub marking_set_all : (count : ℕ) (nodes : List ℕ) (marks : List Bool) → IsMarkingSet count nodes (length nodes) marks → (node : ℕ) → IsMarked marks node ↔ Contains nodes node
marking_set_all count nodes marks all node =
    (all.only node, λ there. subst (λ n. IsMarked marks n) (get_or_default nodes there.0 0 node there.1 ∙ there.2) (all.all there.0 there.1))

-- in the midst of a round, behind so many edges
pub record IsMarking (count : ℕ) (edges : List (ℕ × ℕ)) (old : List Bool) (index : ℕ) (changed : Bool) (marks : List Bool) : Type 0 where
  pub complete : length marks ≡ count
  pub kept : (node : ℕ) → IsMarked old node → IsMarked marks node
  pub leads : (node : ℕ) → IsMarked marks node → LeadsToMarked edges old node
  pub at_most : count_by not marks ≤ count_by not old
  pub fewer : changed ≡ true → count_by not marks < count_by not old
  pub closed : changed ≡ false → (k : ℕ) → k < index → IsMarked marks (get_or edges k (0, 0)).1 → IsMarked marks (get_or edges k (0, 0)).0

pub marking_none : (count : ℕ) (edges : List (ℕ × ℕ)) (old : List Bool) → length old ≡ count → IsMarking count edges old 0 false old
marking_none count edges old complete = record {
  complete = complete;
  kept = λ node marked. marked;
  leads = λ node marked. (node, marked, (zero, refl));
  at_most = omega arith;
  fewer = λ e. absurd (cc);
  closed = λ e k none. absurd (omega arith);
}

-- an edge that changes no mark
pub marking_kept : (count : ℕ) (edges : List (ℕ × ℕ)) (old : List Bool) (index : ℕ) (changed : Bool) (marks : List Bool) (edge : ℕ × ℕ) → index < length edges → edge ≡ get_or edges index edge → (IsMarked marks edge.1 → IsMarked marks edge.0) → IsMarking count edges old index changed marks → IsMarking count edges old (index + 1) changed marks
marking_kept count edges old index changed marks edge inside is closed so_far = record {
  complete = so_far.complete;
  kept = so_far.kept;
  leads = so_far.leads;
  at_most = so_far.at_most;
  fewer = so_far.fewer;
  closed = λ e k before. elim (cases_eq k index) [
    | inl same ↦
        let there : edge ≡ get_or edges k (0, 0) = is ∙ (get_or_default edges index edge (0, 0) inside ∙ ap (λ j. get_or edges j (0, 0)) (sym same)) in
        subst (λ (p : ℕ × ℕ). IsMarked marks p.1 → IsMarked marks p.0) there closed
    | inr earlier ↦ so_far.closed e k (omega arith)
  ];
}

one_free : (b : Bool) → b ≡ false → ◌≡◌ {A = ℕ} (cond (not b) 1 0) 1
one_free true is = cc
one_free false is = refl

-- a mark more leaves fewer nodes without
one_fewer : (marks : List Bool) (at : ℕ) → at < length marks → (IsMarked marks at → ⊥) → count_by not (set marks at true) + 1 ≡ count_by not marks
one_fewer marks at inside fresh =
    elim (cases_Bool (get_or marks at false)) [
      | inl marked ↦ absurd (fresh marked)
      | inr free ↦
          let e : count_by not (set marks at true) + cond (not (get_or marks at false)) 1 0 ≡ count_by not marks + 0 = sum_by-set (λ x. cond (not x) 1 0) marks at true false inside in
          let f = one_free (get_or marks at false) free in
          omega arith
    ]

-- an edge whose reader is marked
pub marking_marked : (count : ℕ) (edges : List (ℕ × ℕ)) (old : List Bool) (index : ℕ) (changed : Bool) (marks : List Bool) (edge : ℕ × ℕ) → index < length edges → edge ≡ get_or edges index edge → edge.0 < count → IsMarked marks edge.1 → (IsMarked marks edge.0 → ⊥) → length (set marks edge.0 true) ≡ length marks → IsMarking count edges old index changed marks → IsMarking count edges old (index + 1) true (set marks edge.0 true)
marking_marked count edges old index changed marks edge inside is reader_in by_source fresh size so_far =
    let less = one_fewer marks edge.0 (omega (arith, so_far.complete)) fresh in
    let reads : Reads edges edge.0 edge.1 = (index, inside, sym is) in
    let source = so_far.leads edge.1 by_source in
    record {
      complete = size ∙ so_far.complete;
      kept = λ node marked. marked_set marks edge.0 node (omega (arith, so_far.complete)) (so_far.kept node marked);
      leads = λ node marked. elim (set_cases marks edge.0 node true false (omega (arith, so_far.complete))) [
        | inl same ↦ subst (λ n. LeadsToMarked edges old n) (sym same.0) (source.0, source.1, (suc source.2.0, (edge.1, reads, source.2.1)))
        | inr other ↦ so_far.leads node (sym other.1 ∙ marked)
      ];
      at_most = omega (arith, so_far.at_most);
      fewer = λ e. omega (arith, so_far.at_most);
      closed = λ e. absurd (cc);
    }

pub marking_then : (count : ℕ) (edges : List (ℕ × ℕ)) (old : List Bool) (index : ℕ) (changed changed_next : Bool) (marks new : List Bool) (edge : ℕ × ℕ) → AreWithin count edges → index < length edges → edge ≡ get_or edges index edge → changed_next ≡ true → new ≡ set marks edge.0 true → IsMarked marks edge.1 → (IsMarked marks edge.0 → ⊥) → IsMarking count edges old index changed marks → IsMarking count edges old (index + 1) changed_next new
marking_then count edges old index changed changed_next marks new edge within inside is now_true new_is by_source fresh before =
    let reads : Reads edges edge.0 edge.1 = (index, inside, sym is) in
    let reader_in : edge.0 < count = (reads_within count edges edge.0 edge.1 within reads).0 in
    subst (λ b. IsMarking count edges old (index + 1) b new) (sym now_true) (subst (λ ms. IsMarking count edges old (index + 1) true ms) (sym new_is) (marking_marked count edges old index changed marks edge inside is reader_in by_source fresh (length-set marks edge.0 true) before))

pub marking_else : (count : ℕ) (edges : List (ℕ × ℕ)) (old : List Bool) (index : ℕ) (changed changed_next : Bool) (marks new : List Bool) (edge : ℕ × ℕ) → index < length edges → edge ≡ get_or edges index edge → changed_next ≡ changed → new ≡ marks → (IsMarked new edge.1 → IsMarked new edge.0) → IsMarking count edges old index changed marks → IsMarking count edges old (index + 1) changed_next new
marking_else count edges old index changed changed_next marks new edge inside is same new_is closed before =
    subst (λ b. IsMarking count edges old (index + 1) b new) (sym same) (subst (λ ms. IsMarking count edges old (index + 1) changed ms) (sym new_is) (marking_kept count edges old index changed marks edge inside is (subst (λ ms. IsMarked ms edge.1 → IsMarked ms edge.0) new_is closed) before))

pub marking_all : (count : ℕ) (edges : List (ℕ × ℕ)) (old marks : List Bool) (index : ℕ) (changed : Bool) → length edges ≤ index → IsMarking count edges old index changed marks → OnFalse changed (MarksReaders edges marks)
marking_all count edges old marks index changed ends all = OnFalse_from changed (MarksReaders edges marks) (λ none reader source reads.
    let e : get_or edges reads.0 (0, 0) ≡ (reader, source) = get_or_default edges reads.0 (0, 0) (reader, source) reads.1 ∙ reads.2 in
    let there : IsMarked marks source → IsMarked marks reader = subst (λ (p : ℕ × ℕ). IsMarked marks p.1 → IsMarked marks p.0) e (all.closed none reads.0 (omega (arith, reads.1))) in
    there)

-- the marked places, as far as this one
pub record ArePlaces (marks : List Bool) (index : ℕ) (places : List ℕ) : Type 0 where
  pub below : All (λ x. x < index) places
  pub ascending : IsStrictlyIncreasing places
  pub only : All (λ x. IsMarked marks x) places
  pub all : (k : ℕ) → k < index → IsMarked marks k → Contains places k

pub places_none : (marks : List Bool) → ArePlaces marks 0 []
places_none marks = record {
  below = λ k d none. absurd (omega arith);
  ascending = λ k none. absurd (omega arith);
  only = λ k d none. absurd (omega arith);
  all = λ k none. absurd (omega arith);
}

pub places_kept : (marks : List Bool) (index : ℕ) (places : List ℕ) → (IsMarked marks index → ⊥) → ArePlaces marks index places → ArePlaces marks (index + 1) places
places_kept marks index places free old = record {
  below = All-weaker (λ x. x < index) (λ x. x < index + 1) (λ x less. omega arith) places old.below;
  ascending = old.ascending;
  only = old.only;
  all = λ k before marked. elim (cases_eq k index) [
    | inl same ↦ absurd (free (subst (λ n. IsMarked marks n) same marked))
    | inr earlier ↦ old.all k (omega arith) marked
  ];
}

increasing_push : (xs : List ℕ) (y : ℕ) → IsStrictlyIncreasing xs → All (λ x. x < y) xs → IsStrictlyIncreasing (xs ++ y ∷ [])
increasing_push xs y ascending below k inside =
    let size = length_push xs y in
    let front : get_or (xs ++ y ∷ []) k 0 ≡ get_or xs k 0 = get_or_append_left xs (y ∷ []) 0 k (omega arith) in
    elim (cases_eq (k + 1) (length xs)) [
      | inl last ↦
          let top : get_or (xs ++ y ∷ []) (k + 1) 0 ≡ y = get_or_push xs y 0 (k + 1) (sym last) in
          let less : get_or xs k 0 < y = below k 0 (omega arith) in
          omega arith
      | inr before ↦
          let next : get_or (xs ++ y ∷ []) (k + 1) 0 ≡ get_or xs (k + 1) 0 = get_or_append_left xs (y ∷ []) 0 (k + 1) (omega arith) in
          let less : get_or xs k 0 < get_or xs (k + 1) 0 = ascending k (omega arith) in
          omega arith
    ]

pub places_more : (marks : List Bool) (index : ℕ) (places : List ℕ) → IsMarked marks index → ArePlaces marks index places → ArePlaces marks (index + 1) (places ++ index ∷ [])
places_more marks index places marked old = record {
  below = All-push (λ x. x < index + 1) places index (All-weaker (λ x. x < index) (λ x. x < index + 1) (λ x less. omega arith) places old.below) (omega arith);
  ascending = increasing_push places index old.ascending old.below;
  only = All-push (λ x. IsMarked marks x) places index old.only marked;
  all = λ k before there. elim (cases_eq k index) [
    | inl same ↦ subst (λ n. Contains (places ++ index ∷ []) n) (sym same) (Contains-push places index)
    | inr earlier ↦ Contains-append_left places (index ∷ []) k (old.all k (omega arith) there)
  ];
}

pub places_all : (marks : List Bool) (places : List ℕ) (index : ℕ) → length marks ≤ index → ArePlaces marks index places → (node : ℕ) → Contains places node ↔ IsMarked marks node
places_all marks places index ends all node =
    (All-contains (λ x. IsMarked marks x) places node all.only, λ marked. let inside = marked_inside marks node marked in all.all node (omega arith) marked)

-- what is marked in the rounds for a set
pub record AreOfClosure (count : ℕ) (edges : List (ℕ × ℕ)) (nodes : List ℕ) (marks : List Bool) : Type 0 where
  pub complete : length marks ≡ count
  pub all : (node : ℕ) → Contains nodes node → IsMarked marks node
  pub only : (node : ℕ) → IsMarked marks node → IsInClosure edges nodes node

pub closure_none : (count : ℕ) (edges : List (ℕ × ℕ)) (nodes : List ℕ) (marks : List Bool) → length marks ≡ count → ((node : ℕ) → IsMarked marks node ↔ Contains nodes node) → AreOfClosure count edges nodes marks
closure_none count edges nodes marks complete marked = record {
  complete = complete;
  all = λ node. (marked node).1;
  only = λ node is. (node, (marked node).0 is, (zero, refl));
}

pub closure_more : (count : ℕ) (edges : List (ℕ × ℕ)) (nodes : List ℕ) (old new : List Bool) → length new ≡ count → ((node : ℕ) → IsMarked old node → IsMarked new node) → ((node : ℕ) → IsMarked new node → LeadsToMarked edges old node) → AreOfClosure count edges nodes old → AreOfClosure count edges nodes new
closure_more count edges nodes old new complete kept leads before = record {
  complete = complete;
  all = λ node there. kept node (before.all node there);
  only = λ node is.
      let way = leads node is in
      let more = before.only way.0 way.1 in
      (more.0, more.1, (way.2.0 + more.2.0, walk_append edges way.2.0 more.2.0 (way.2.0 + more.2.0) node way.0 more.0 refl way.2.1 more.2.1));
}

marked_along : (edges : List (ℕ × ℕ)) (marks : List Bool) → MarksReaders edges marks → (steps from to : ℕ) → Walk edges from steps to → IsMarked marks to → IsMarked marks from
marked_along edges marks closed zero from to walk marked = subst (λ n. IsMarked marks n) (sym walk) marked
marked_along edges marks closed (suc steps) from to walk marked = closed from walk.0 walk.1 (marked_along edges marks closed steps walk.0 to walk.2 marked)

pub closure_all : (count : ℕ) (edges : List (ℕ × ℕ)) (nodes : List ℕ) (marks : List Bool) (places : List ℕ) → MarksReaders edges marks → AreOfClosure count edges nodes marks → ((node : ℕ) → Contains places node ↔ IsMarked marks node) → (node : ℕ) → Contains places node ↔ IsInClosure edges nodes node
closure_all count edges nodes marks places closed before places_are node =
    (λ there. before.only node ((places_are node).0 there), λ is. (places_are node).1 (marked_along edges marks closed is.2.0 node is.0 is.2.1 (before.all is.0 is.1)))

-- a list that is written through a vector's slice
pub written : (old new : List Bool) (size : ℕ) → size ≡ length new → take size (new ++ drop (length new) old) ≡ new
written old new size is = ap (λ n. take n (new ++ drop (length new) old)) is ∙ take-append_seam new (drop (length new) old)
