-- The trail to a cycle, and the path that is cut from it.
use Rattle.std.proofs.Common.{◌≡◌, ◌≢◌, ℕ, ◌+◌, ◌<◌, ◌≤◌, List, [], ◌∷◌, ◌++◌, length, get_or, take, drop, refl, sym, ◌∙◌, ap, subst, inl, inr, arith, append_assoc}
use Rattle.std.specs.List.{All, AllPairs}
use Rattle.std.proofs.lemmas.List.{get_or_default, get_or_append_left, get_or_push, length_push, drop_more, take_all, take-append-drop}
use Rattle.std.proofs.lemmas.List.Elements.{All-push, All-nil, All-more}
use Rattle.std.proofs.lemmas.List.Quantifiers.{all_pairs_push}
use Rattle.std.proofs.lemmas.Bool.{cases_eq}
use Rattle.graph_check.specs.Graphs.{AreWithin}
use Rattle.graph_check.specs.Levels.{HasLevel, above_sources}
use Rattle.graph_check.specs.Paths.{IsNext, IsLeastWithout, IsTrail, IsCyclePath}
use Rattle.graph_check.specs.Rounds.{ShowLevels}
use Rattle.graph_check.proofs.WalkLemmas.{distinct_length}

-- the sources of a node have levels, as far as these edges tell
abbrev pub HaveLevels : List (ℕ × ℕ) → ℕ → List (ℕ × ℕ) → Type 0
HaveLevels edges node some = All (λ (e : ℕ × ℕ). e.0 ≡ node → HasLevel edges e.1) some

pub have_levels_none : (edges : List (ℕ × ℕ)) (node : ℕ) → HaveLevels edges node (take 0 edges)
have_levels_none edges node k d none = absurd (omega arith)

pub have_levels_more : (count : ℕ) (edges : List (ℕ × ℕ)) (heights : List ℕ) (node index : ℕ) (edge : ℕ × ℕ) → AreWithin count edges → ShowLevels count edges heights → index < length edges → edge ≡ get_or edges index edge → ((edge.0 ≡ node) × (get_or heights edge.1 0 ≡ count) → ⊥) → HaveLevels edges node (take index edges) → HaveLevels edges node (take (index + 1) edges)
have_levels_more count edges heights node index edge within shown inside is fails old =
    let source_in : edge.1 < count = (subst (λ (e : ℕ × ℕ). (e.0 < count) × (e.1 < count)) (sym is) (within index edge inside)).1 in
    let here : edge.0 ≡ node → HasLevel edges edge.1 = λ same. shown.within edge.1 source_in (λ high. fails (same, high)) in
    All-more (λ (e : ℕ × ℕ). e.0 ≡ node → HasLevel edges e.1) edges index edge inside old (subst (λ (e : ℕ × ℕ). e.0 ≡ node → HasLevel edges e.1) is here)

-- a node all of whose sources have levels has one
pub have_levels_all : (edges : List (ℕ × ℕ)) (node index : ℕ) → length edges ≤ index → HaveLevels edges node (take index edges) → HasLevel edges node
have_levels_all edges node index ends some =
    let all : HaveLevels edges node edges = subst (λ xs. HaveLevels edges node xs) (take_all index edges ends) some in
    above_sources (λ source reads.
    let here : node ≡ node → HasLevel edges source = subst (λ (e : ℕ × ℕ). e.0 ≡ node → HasLevel edges e.1) reads.2 (all reads.0 (node, source) reads.1) in
    here refl)

pub is_next : (count : ℕ) (edges : List (ℕ × ℕ)) (heights : List ℕ) (node index : ℕ) (edge : ℕ × ℕ) → AreWithin count edges → ShowLevels count edges heights → index < length edges → edge ≡ get_or edges index edge → (edge.0 ≡ node) × (get_or heights edge.1 0 ≡ count) → HaveLevels edges node (take index edges) → (edge.1 < count) × IsNext edges node edge.1
is_next count edges heights node index edge within shown inside is passes old =
    let source_in : edge.1 < count = (subst (λ (e : ℕ × ℕ). (e.0 < count) × (e.1 < count)) (sym is) (within index edge inside)).1 in
    let at : get_or edges index edge ≡ edge = sym is in
    let here : get_or edges index (node, edge.1) ≡ (node, edge.1) = subst (λ n. get_or edges index (n, edge.1) ≡ (n, edge.1)) passes.0 at in (
      source_in,
      record {
        place = index;
        within = inside;
        edge = here;
        no_level = shown.without edge.1 source_in passes.1;
        first = old;
      },
    )

-- a trail of different nodes, and the node that comes next
pub record IsWalked (count : ℕ) (edges : List (ℕ × ℕ)) (trail : List ℕ) (node : ℕ) : Type 0 where
  pub inside : node < count
  pub no_level : HasLevel edges node → ⊥
  pub is_trail : IsTrail edges (trail ++ node ∷ [])
  pub distinct : AllPairs (λ x y. x ≢ y) trail
  pub below : All (λ x. x < count) trail

pub walked_none : (count : ℕ) (edges : List (ℕ × ℕ)) (start : ℕ) → start < count → IsLeastWithout edges start → IsWalked count edges [] start
walked_none count edges start inside least = record {
  inside = inside;
  no_level = least.no_level;
  is_trail = record { begins = least; follows = λ k below. absurd (omega arith) };
  distinct = λ i j d before none. absurd (omega arith);
  below = All-nil (λ x. x < count);
}

trail_more : (edges : List (ℕ × ℕ)) (trail : List ℕ) (node next : ℕ) → IsTrail edges (trail ++ node ∷ []) → IsNext edges node next → IsTrail edges ((trail ++ node ∷ []) ++ next ∷ [])
trail_more edges trail node next old step =
    let size = length_push trail node in
    let more = length_push (trail ++ node ∷ []) next in
    let front : (k : ℕ) → k < length (trail ++ node ∷ []) → get_or ((trail ++ node ∷ []) ++ next ∷ []) k 0 ≡ get_or (trail ++ node ∷ []) k 0 = λ k inside. get_or_append_left (trail ++ node ∷ []) (next ∷ []) 0 k inside in
    record {
      begins = subst (λ n. IsLeastWithout edges n) (sym (front 0 (omega arith))) old.begins;
      follows = λ k below. elim (cases_eq (k + 1) (length (trail ++ node ∷ []))) [
        | inl last ↦
            let to : get_or ((trail ++ node ∷ []) ++ next ∷ []) (k + 1) 0 ≡ next = get_or_push (trail ++ node ∷ []) next 0 (k + 1) (sym last) in
            let from : get_or ((trail ++ node ∷ []) ++ next ∷ []) k 0 ≡ node = front k (omega arith) ∙ get_or_push trail node 0 k (omega arith) in
            subst (λ n. IsNext edges n (get_or ((trail ++ node ∷ []) ++ next ∷ []) (k + 1) 0)) (sym from) (subst (λ n. IsNext edges node n) (sym to) step)
        | inr before ↦
            let inner : k + 1 < length (trail ++ node ∷ []) = omega arith in
            subst (λ n. IsNext edges n (get_or ((trail ++ node ∷ []) ++ next ∷ []) (k + 1) 0)) (sym (front k (omega arith))) (subst (λ n. IsNext edges (get_or (trail ++ node ∷ []) k 0) n) (sym (front (k + 1) inner)) (old.follows k inner))
      ];
    }

pub walked_more : (count : ℕ) (edges : List (ℕ × ℕ)) (trail : List ℕ) (node next : ℕ) → ((k : ℕ) → k < length trail → get_or trail k 0 ≢ node) → next < count → IsNext edges node next → IsWalked count edges trail node → IsWalked count edges (trail ++ node ∷ []) next
walked_more count edges trail node next fresh inside step old = record {
  inside = inside;
  no_level = step.no_level;
  is_trail = trail_more edges trail node next old.is_trail step;
  distinct = all_pairs_push (λ x y. x ≢ y) trail node old.distinct (λ k d below. subst (λ x. x ≢ node) (get_or_default trail k 0 d below) (fresh k below));
  below = All-push (λ x. x < count) trail node old.below old.inside;
}

-- there is room for one node more on the trail
pub walked_room : (count : ℕ) (edges : List (ℕ × ℕ)) (trail : List ℕ) (node : ℕ) → ((k : ℕ) → k < length trail → get_or trail k 0 ≢ node) → IsWalked count edges trail node → length trail < count
walked_room count edges trail node fresh old =
    let distinct : AllPairs (λ x y. x ≢ y) (trail ++ node ∷ []) = all_pairs_push (λ x y. x ≢ y) trail node old.distinct (λ k d below. subst (λ x. x ≢ node) (get_or_default trail k 0 d below) (fresh k below)) in
    let most = distinct_length count (trail ++ node ∷ []) distinct (All-push (λ x. x < count) trail node old.below old.inside) in
    let size = length_push trail node in
    omega arith

-- the path from the place of the node that comes again
pub cycle_found : (edges : List (ℕ × ℕ)) (trail path : List ℕ) (place node : ℕ) → place < length trail → get_or trail place 0 ≡ node → IsTrail edges (trail ++ node ∷ []) → AllPairs (λ x y. x ≢ y) trail → path ≡ drop place trail ++ node ∷ [] → IsCyclePath edges path
cycle_found edges trail path place node inside again is_trail distinct path_is =
    let part : drop place trail ≡ node ∷ drop (place + 1) trail = subst (λ n. drop place trail ≡ n ∷ drop (place + 1) trail) again (drop_more trail place 0 inside) in
    let whole : take place trail ++ (node ∷ drop (place + 1) trail) ≡ trail = ap (λ xs. take place trail ++ xs) (sym part) ∙ take-append-drop place trail in
    let path_part : path ≡ (node ∷ drop (place + 1) trail) ++ node ∷ [] = path_is ∙ ap (λ xs. xs ++ node ∷ []) part in
    let joined : take place trail ++ path ≡ trail ++ node ∷ [] = ap (λ xs. take place trail ++ xs) path_part ∙ (sym (append_assoc (take place trail) (node ∷ drop (place + 1) trail) (node ∷ [])) ∙ ap (λ xs. xs ++ node ∷ []) whole) in
    record {
      lead = take place trail;
      node = node;
      more = drop (place + 1) trail;
      path_is = path_part;
      trail = subst (λ xs. IsTrail edges xs) (sym joined) is_trail;
      distinct = subst (λ xs. AllPairs (λ x y. x ≢ y) xs) (sym whole) distinct;
    }
