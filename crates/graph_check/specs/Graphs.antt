-- Graphs of nodes that read one another. Nodes are numbered from 0, and an edge is a reader and its source.
use Rattle.std.specs.Prelude.{◌≡◌, ℕ, zero, suc, ◌<◌, List}
use Rattle.std.specs.List.{All, Contains}

-- the nodes of each edge have numbers below the count
abbrev pub AreWithin : ℕ → List (ℕ × ℕ) → Type 0
AreWithin count edges = All (λ (edge : ℕ × ℕ). (edge.0 < count) × (edge.1 < count)) edges

-- the reader reads the source
abbrev pub Reads : List (ℕ × ℕ) → ℕ → ℕ → Type 0
Reads edges reader source = Contains edges (reader, source)

-- a walk of so many edges, each from a reader to its source
abbrev pub Walk : List (ℕ × ℕ) → ℕ → ℕ → ℕ → Type 0
Walk edges from zero to = from ≡ to
Walk edges from (suc steps) to = (source : ℕ) × Reads edges from source × Walk edges source steps to

-- a node reads itself, directly or not
abbrev pub IsCyclic : List (ℕ × ℕ) → Type 0
IsCyclic edges = (node : ℕ) × (steps : ℕ) × Walk edges node (suc steps) node

-- a node is of the set, or reads a node of it, directly or not
abbrev pub IsInClosure : List (ℕ × ℕ) → List ℕ → ℕ → Type 0
IsInClosure edges set node = (member : ℕ) × Contains set member × ((steps : ℕ) × Walk edges node steps member)
