-- What a round does to the heights, and what all rounds tell.
use Rattle.std.proofs.Common.{◌≡◌, ◌≢◌, ℕ, zero, suc, ◌+◌, ◌<◌, ◌≤◌, ◌⊎◌, List, [], ◌∷◌, length, get_or, set, replicate, refl, sym, ◌∙◌, ap, subst, inl, inr, arith, add-one}
use Rattle.std.proofs.lemmas.List.{get_or_default, length-set}
use Rattle.std.proofs.lemmas.Bool.{cases_eq, cases_lt}
use Rattle.graph_check.specs.Graphs.{AreWithin, Reads, Walk, IsCyclic}
use Rattle.graph_check.specs.Levels.{HasLevel, AreLevels}
use Rattle.graph_check.specs.Paths.{IsLeastWithout}
use Rattle.graph_check.specs.Rounds.{IsHeight, AreAtRound, ShowLevels}
use Rattle.graph_check.proofs.WalkLemmas.{reads_within, walk_front, cycle_without, level_below, leads_to_cycle, leads_without}

-- a written list at a place
pub set_cases : {A : Type 0} (xs : List A) (i node : ℕ) (v d : A) → i < length xs → ((node ≡ i) × (get_or (set xs i v) node d ≡ v)) ⊎ ((node ≢ i) × (get_or (set xs i v) node d ≡ get_or xs node d))
set_cases [] i node v d inside = absurd (omega arith)
set_cases (x ∷ xs) zero zero v d inside = inl (refl, refl)
set_cases (x ∷ xs) zero (suc node) v d inside = inr ((λ same. absurd (omega arith)), refl)
set_cases (x ∷ xs) (suc i) zero v d inside = inr ((λ same. absurd (omega arith)), refl)
set_cases (x ∷ xs) (suc i) (suc node) v d inside =
    elim (set_cases xs i node v d (omega arith)) [
      | inl same ↦ inl (ap suc same.0, same.1)
      | inr other ↦ inr ((λ same. other.0 (omega arith)), other.1)
    ]

-- each height is 0 before the first round
pub zeros : (count node : ℕ) → get_or (replicate count zero) node 0 ≡ 0
zeros zero node = refl
zeros (suc count) zero = refl
zeros (suc count) (suc node) = zeros count node

pub at_first : (edges : List (ℕ × ℕ)) (count : ℕ) → AreAtRound edges 0 (replicate count 0)
at_first edges count = record {
  at_most = λ node. omega (arith, zeros count node);
  each = λ node inside. record {
    walked = (node, subst (λ h. Walk edges node h node) (sym (zeros count node)) refl);
    longest = λ steps to walk short. omega arith;
  };
}

-- in the midst of a round, behind so many edges
pub record IsRaising (count : ℕ) (edges : List (ℕ × ℕ)) (round index : ℕ) (heights : List ℕ) : Type 0 where
  pub complete : length heights ≡ count
  pub at_most : (node : ℕ) → get_or heights node 0 ≤ round + 1
  pub each : (node : ℕ) → node < count → IsHeight edges round heights node
  pub raised : (k to : ℕ) → k < index → Walk edges (get_or edges k (0, 0)).1 round to → get_or heights (get_or edges k (0, 0)).0 0 ≡ round + 1

pub raising_none : (count : ℕ) (edges : List (ℕ × ℕ)) (round : ℕ) (heights : List ℕ) → length heights ≡ count → AreAtRound edges round heights → IsRaising count edges round 0 heights
raising_none count edges round heights complete before = record {
  complete = complete;
  at_most = λ node. let h = before.at_most node in omega arith;
  each = λ node inside. before.each node (omega arith);
  raised = λ k to none walk. absurd (omega arith);
}

-- an edge whose source is not as high as the round
pub raising_kept : (count : ℕ) (edges : List (ℕ × ℕ)) (round index : ℕ) (heights : List ℕ) (reader source : ℕ) → get_or edges index (0, 0) ≡ (reader, source) → source < count → get_or heights source 0 < round → IsRaising count edges round index heights → IsRaising count edges round (index + 1) heights
raising_kept count edges round index heights reader source is inside low old = record {
  complete = old.complete;
  at_most = old.at_most;
  each = old.each;
  raised = λ k to before walk. elim (cases_eq k index) [
    | inl same ↦
        let here : Walk edges source round to = subst (λ (p : ℕ × ℕ). Walk edges p.1 round to) (ap (λ j. get_or edges j (0, 0)) same ∙ is) walk in
        let high : round ≤ get_or heights source 0 = (old.each source inside).longest round to here (omega arith) in
        absurd (omega arith)
    | inr other ↦ old.raised k to (omega arith) walk
  ];
}

-- an edge whose source is as high as the round
pub raising_raised : (count : ℕ) (edges : List (ℕ × ℕ)) (round index : ℕ) (heights : List ℕ) (reader source : ℕ) → get_or edges index (0, 0) ≡ (reader, source) → Reads edges reader source → reader < count → source < count → round ≤ get_or heights source 0 → IsRaising count edges round index heights → IsRaising count edges round (index + 1) (set heights reader (round + 1))
raising_raised count edges round index heights reader source is reads reader_in source_in high old =
    let cases : (node : ℕ) → ((node ≡ reader) × (get_or (set heights reader (round + 1)) node 0 ≡ round + 1)) ⊎ ((node ≢ reader) × (get_or (set heights reader (round + 1)) node 0 ≡ get_or heights node 0)) = λ node. set_cases heights reader node (round + 1) 0 (omega (arith, old.complete)) in
    let front = walk_front edges round (get_or heights source 0) source (old.each source source_in).walked.0 high (old.each source source_in).walked.1 in
    let walk : Walk edges reader (round + 1) front.0 = subst (λ n. Walk edges reader n front.0) (sym (add-one round)) (source, reads, front.1) in
    record {
      complete = length-set heights reader (round + 1) ∙ old.complete;
      at_most = λ node. elim (cases node) [ inl same ↦ omega (arith, same.1) | inr other ↦ omega (arith, other.1, old.at_most node) ];
      each = λ node inside. elim (cases node) [
        | inl same ↦ record {
          walked = (front.0, subst (λ h. Walk edges node h front.0) (sym same.1) (subst (λ n. Walk edges n (round + 1) front.0) (sym same.0) walk));
          longest = λ steps to other short. omega (arith, same.1);
        }
        | inr other ↦ record {
          walked = ((old.each node inside).walked.0, subst (λ h. Walk edges node h (old.each node inside).walked.0) (sym other.1) (old.each node inside).walked.1);
          longest = λ steps to way short. omega (arith, other.1, (old.each node inside).longest steps to way short);
        }
      ];
      raised = λ k to before way. elim (cases_eq k index) [
        | inl same ↦
            let e : get_or edges k (0, 0) ≡ (reader, source) = ap (λ j. get_or edges j (0, 0)) same ∙ is in
            elim (cases (get_or edges k (0, 0)).0) [ inl there ↦ there.1 | inr differs ↦ absurd (differs.0 (ap (λ (p : ℕ × ℕ). p.0) e)) ]
        | inr later ↦ elim (cases (get_or edges k (0, 0)).0) [ inl there ↦ there.1 | inr stays ↦ stays.1 ∙ old.raised k to (omega arith) way ]
      ];
    }

-- one edge more, whatever its source's height
pub raising_more : (count : ℕ) (edges : List (ℕ × ℕ)) (round index : ℕ) (old new : List ℕ) (edge : ℕ × ℕ) → AreWithin count edges → index < length edges → edge ≡ get_or edges index edge → (round ≤ get_or old edge.1 0 → new ≡ set old edge.0 (round + 1)) → (get_or old edge.1 0 < round → new ≡ old) → IsRaising count edges round index old → IsRaising count edges round (index + 1) new
raising_more count edges round index old new edge within inside is raised kept before =
    let place : get_or edges index (0, 0) ≡ (edge.0, edge.1) = get_or_default edges index (0, 0) edge inside ∙ sym is in
    let reads : Reads edges edge.0 edge.1 = (index, inside, sym is) in
    let ends = reads_within count edges edge.0 edge.1 within reads in
    elim (cases_lt (get_or old edge.1 0) round) [
      | inl low ↦ subst (λ xs. IsRaising count edges round (index + 1) xs) (sym (kept low)) (raising_kept count edges round index old edge.0 edge.1 place ends.1 low before)
      | inr high ↦ subst (λ xs. IsRaising count edges round (index + 1) xs) (sym (raised high)) (raising_raised count edges round index old edge.0 edge.1 place reads ends.0 ends.1 high before)
    ]

-- behind all edges
raised_end : (count : ℕ) (edges : List (ℕ × ℕ)) (round index : ℕ) (heights : List ℕ) → length edges ≤ index → IsRaising count edges round index heights → (node to : ℕ) → Walk edges node (suc round) to → get_or heights node 0 ≡ round + 1
raised_end count edges round index heights ends all node to walk =
    let source = walk.0 in
    let reads = walk.1 in
    let e : get_or edges reads.0 (0, 0) ≡ (node, source) = get_or_default edges reads.0 (0, 0) (node, source) reads.1 ∙ reads.2 in
    let raised : Walk edges source round to → get_or heights node 0 ≡ round + 1 = subst (λ (p : ℕ × ℕ). Walk edges p.1 round to → get_or heights p.0 0 ≡ round + 1) e (all.raised reads.0 to (omega (arith, reads.1))) in
    raised walk.2

pub raising_all : (count : ℕ) (edges : List (ℕ × ℕ)) (round index : ℕ) (heights : List ℕ) → length edges ≤ index → IsRaising count edges round index heights → AreAtRound edges (round + 1) heights
raising_all count edges round index heights ends all = record {
  at_most = all.at_most;
  each = λ node inside. record {
    walked = (all.each node (omega (arith, all.complete))).walked;
    longest = λ steps to walk short. elim (cases_eq steps (suc round)) [
      | inl same ↦
          let h : get_or heights node 0 ≡ round + 1 = raised_end count edges round index heights ends all node to (subst (λ s. Walk edges node s to) same walk) in
          omega arith
      | inr less ↦ (all.each node (omega (arith, all.complete))).longest steps to walk (omega arith)
    ];
  };
}

-- after as many rounds as there are nodes
module _ (count : ℕ) (edges : List (ℕ × ℕ)) (heights : List ℕ) (within : AreWithin count edges) (complete : length heights ≡ count) (after : AreAtRound edges count heights) where
  walk_high : (node : ℕ) → node < count → get_or heights node 0 ≡ count → (to : ℕ) × Walk edges node count to
  walk_high node inside high =
      let top = (after.each node (omega arith)).walked in
      (top.0, subst (λ h. Walk edges node h top.0) high top.1)

  pub high_cyclic : (node : ℕ) → node < count → get_or heights node 0 ≡ count → IsCyclic edges
  high_cyclic node inside high =
      let walk = walk_high node inside high in
      let leads = leads_to_cycle count edges within node walk.0 inside walk.1 in
      (leads.node, leads.round, leads.cycle)

  high_without : (node : ℕ) → node < count → get_or heights node 0 ≡ count → HasLevel edges node → ⊥
  high_without node inside high =
      let walk = walk_high node inside high in
      leads_without edges node (leads_to_cycle count edges within node walk.0 inside walk.1)

  low_short : (node : ℕ) → node < count → get_or heights node 0 ≢ count → (steps to : ℕ) → Walk edges node steps to → steps ≤ get_or heights node 0
  low_short node inside low steps to walk =
      let most = after.at_most node in
      elim (cases_lt count steps) [
        | inl long ↦
            let front = walk_front edges count steps node to (omega arith) walk in
            let h : count ≤ get_or heights node 0 = (after.each node (omega arith)).longest count front.0 front.1 (omega arith) in
            absurd (low (omega arith))
        | inr short ↦ (after.each node (omega arith)).longest steps to walk short
      ]

  low_within : (node : ℕ) → node < count → get_or heights node 0 ≢ count → HasLevel edges node
  low_within node inside low =
      let most = after.at_most node in
      level_below edges (suc count) node (λ steps to walk. let h = low_short node inside low steps to walk in omega arith)

  pub shows_levels : ShowLevels count edges heights
  shows_levels = record { complete = complete; without = high_without; within = low_within }

  pub least_without : (node : ℕ) → node < length heights → get_or heights node 0 ≡ count → ((k : ℕ) → k < node → get_or heights k 0 ≢ count) → IsLeastWithout edges node
  least_without node inside high first = record {
    no_level = high_without node (omega arith) high;
    least = λ lesser less. low_within lesser (omega arith) (first lesser less);
  }

  least_of : (node h : ℕ) → node < count → ((k : ℕ) → k < length heights → get_or heights k 0 ≢ count) → get_or heights node 0 ≡ h → (get_or heights node 0 ≡ 0) ⊎ ((source : ℕ) × Reads edges node source × (get_or heights node 0 ≡ get_or heights source 0 + 1))
  least_of node zero inside low is = inl is
  least_of node (suc h) inside low is =
      let top = (after.each node (omega arith)).walked in
      let walk : Walk edges node (suc h) top.0 = subst (λ n. Walk edges node n top.0) is top.1 in
      let source_in : walk.0 < count = (reads_within count edges node walk.0 within walk.1).1 in
      let up : h ≤ get_or heights walk.0 0 = low_short walk.0 source_in (low walk.0 (omega arith)) h top.0 walk.2 in
      let their = (after.each walk.0 (omega arith)).walked in
      let down : suc (get_or heights walk.0 0) ≤ get_or heights node 0 = low_short node inside (low node (omega arith)) (suc (get_or heights walk.0 0)) their.0 (walk.0, walk.1, their.1) in
      inr (walk.0, walk.1, omega arith)

  pub are_levels : ((k : ℕ) → k < length heights → get_or heights k 0 ≢ count) → AreLevels count edges heights
  are_levels low = record {
    complete = complete;
    each = λ node inside. record {
      above = λ source reads.
          let source_in : source < count = (reads_within count edges node source within reads).1 in
          let their = (after.each source (omega arith)).walked in
          let down : suc (get_or heights source 0) ≤ get_or heights node 0 = low_short node inside (low node (omega arith)) (suc (get_or heights source 0)) their.0 (source, reads, their.1) in
          omega arith;
      least = least_of node (get_or heights node 0) inside low refl;
    };
  }

  pub not_cyclic : ((k : ℕ) → k < length heights → get_or heights k 0 ≢ count) → IsCyclic edges → ⊥
  not_cyclic low cycle =
      let inside : cycle.0 < count = (reads_within count edges cycle.0 cycle.2.0 within cycle.2.1).0 in
      cycle_without edges (low_within cycle.0 inside (low cycle.0 (omega arith))) cycle.1 cycle.2
