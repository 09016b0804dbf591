-- The levels of the nodes of a graph.
use Rattle.std.specs.Prelude.{◌≡◌, ℕ, ◌+◌, ◌<◌, ◌⊎◌, List, length, slice_index}
use Rattle.graph_check.specs.Graphs.{Reads}

-- a node has a level where each of its sources has one
pub data HasLevel (edges : List (ℕ × ℕ)) : ℕ → Type 0 where
  above_sources : {node : ℕ} → ((source : ℕ) → Reads edges node source → HasLevel edges source) → HasLevel edges node

-- the level of a node that reads none is 0, and else it is one more than its greatest source's
pub record IsLevelOf (edges : List (ℕ × ℕ)) (levels : List ℕ) (node : ℕ) : Type 0 where
  pub above : (source : ℕ) → Reads edges node source → slice_index levels source < slice_index levels node
  pub least : (slice_index levels node ≡ 0) ⊎ ((source : ℕ) × Reads edges node source × (slice_index levels node ≡ slice_index levels source + 1))

-- each node has its level, in the order of the nodes
pub record AreLevels (count : ℕ) (edges : List (ℕ × ℕ)) (levels : List ℕ) : Type 0 where
  pub complete : length levels ≡ count
  pub each : (node : ℕ) → node < count → IsLevelOf edges levels node
