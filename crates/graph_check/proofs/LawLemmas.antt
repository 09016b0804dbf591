-- What levels and closures are.
use Rattle.std.proofs.Common.{◌≡◌, ℕ, zero, suc, ◌+◌, ◌<◌, ◌≤◌, Bool, true, List, get_or, refl, sym, ◌∙◌, ap, inl, inr, arith}
use Rattle.std.specs.List.{Contains}
use Rattle.std.proofs.lemmas.List.{ext_get_or}
use Rattle.graph_check.specs.Graphs.{AreWithin, Reads, Walk, IsCyclic, IsInClosure}
use Rattle.graph_check.specs.Levels.{AreLevels}
use Rattle.graph_check.proofs.WalkLemmas.{reads_within}

pub lower : (count : ℕ) (edges : List (ℕ × ℕ)) (levels : List ℕ) → AreWithin count edges → AreLevels count edges levels → (reader source : ℕ) → Reads edges reader source → get_or levels source 0 < get_or levels reader 0
lower count edges levels within are reader source reads = (are.each reader (reads_within count edges reader source within reads).0).above source reads

-- a walk goes down by a level a step
walk_down : (count : ℕ) (edges : List (ℕ × ℕ)) (levels : List ℕ) → AreWithin count edges → AreLevels count edges levels → (steps from to : ℕ) → Walk edges from steps to → get_or levels to 0 + steps ≤ get_or levels from 0
walk_down count edges levels within are zero from to walk = let e : get_or levels from 0 ≡ get_or levels to 0 = ap (λ n. get_or levels n 0) walk in omega arith
walk_down count edges levels within are (suc steps) from to walk =
    let rest : get_or levels to 0 + steps ≤ get_or levels walk.0 0 = walk_down count edges levels within are steps walk.0 to walk.2 in
    let here : get_or levels walk.0 0 < get_or levels from 0 = lower count edges levels within are from walk.0 walk.1 in
    omega arith

pub no_cycle : (count : ℕ) (edges : List (ℕ × ℕ)) (levels : List ℕ) → AreWithin count edges → AreLevels count edges levels → IsCyclic edges → ⊥
no_cycle count edges levels within are cycle =
    let down : get_or levels cycle.0 0 + suc cycle.1 ≤ get_or levels cycle.0 0 = walk_down count edges levels within are (suc cycle.1) cycle.0 cycle.0 cycle.2 in
    absurd (omega arith)

-- no level is above the one in another list
not_above : (count : ℕ) (edges : List (ℕ × ℕ)) (first second : List ℕ) → AreWithin count edges → AreLevels count edges first → AreLevels count edges second → (bound node : ℕ) → node < count → get_or first node 0 < bound → get_or first node 0 ≤ get_or second node 0
not_above count edges first second within one two zero node inside low = absurd (omega arith)
not_above count edges first second within one two (suc bound) node inside low =
    elim (one.each node inside).least [
      | inl none ↦ omega arith
      | inr some ↦
          let source_in : some.0 < count = (reads_within count edges node some.0 within some.1).1 in
          let e : get_or first node 0 ≡ get_or first some.0 0 + 1 = some.2 in
          let theirs : get_or first some.0 0 ≤ get_or second some.0 0 = not_above count edges first second within one two bound some.0 source_in (omega arith) in
          let up : get_or second some.0 0 < get_or second node 0 = (two.each node inside).above some.0 some.1 in
          omega arith
    ]

pub one_list : (count : ℕ) (edges : List (ℕ × ℕ)) (first second : List ℕ) → AreWithin count edges → AreLevels count edges first → AreLevels count edges second → first ≡ second
one_list count edges first second within one two =
    ext_get_or 0 first second (one.complete ∙ sym two.complete) (λ node short.
    let inside : node < count = omega (arith, one.complete) in
    let up : get_or first node 0 ≤ get_or second node 0 = not_above count edges first second within one two (suc (get_or first node 0)) node inside (omega arith) in
    let down : get_or second node 0 ≤ get_or first node 0 = not_above count edges second first within two one (suc (get_or second node 0)) node inside (omega arith) in
    omega arith)

pub of_set : (edges : List (ℕ × ℕ)) (set : List ℕ) (node : ℕ) → Contains set node → IsInClosure edges set node
of_set edges set node there = (node, there, (zero, refl))

pub of_reader : (edges : List (ℕ × ℕ)) (set : List ℕ) (reader source : ℕ) → Reads edges reader source → IsInClosure edges set source → IsInClosure edges set reader
of_reader edges set reader source reads is = (is.0, is.1, (suc is.2.0, (source, reads, is.2.1)))

passes_along : (edges : List (ℕ × ℕ)) (test : ℕ → Bool) → ((reader source : ℕ) → Reads edges reader source → test source ≡ true → test reader ≡ true) → (steps from to : ℕ) → Walk edges from steps to → test to ≡ true → test from ≡ true
passes_along edges test closed zero from to walk passes = ap test walk ∙ passes
passes_along edges test closed (suc steps) from to walk passes = closed from walk.0 walk.1 (passes_along edges test closed steps walk.0 to walk.2 passes)

pub least : (edges : List (ℕ × ℕ)) (set : List ℕ) (test : ℕ → Bool) → ((node : ℕ) → Contains set node → test node ≡ true) → ((reader source : ℕ) → Reads edges reader source → test source ≡ true → test reader ≡ true) → (node : ℕ) → IsInClosure edges set node → test node ≡ true
least edges set test all closed node is = passes_along edges test closed is.2.0 node is.0 is.2.1 (all is.0 is.1)
