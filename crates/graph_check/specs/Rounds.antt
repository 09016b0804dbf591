-- What so many rounds tell of the levels of a graph.
use Rattle.std.specs.Prelude.{◌≡◌, ◌≢◌, ℕ, ◌<◌, ◌≤◌, List, length, slice_index}
use Rattle.graph_check.specs.Graphs.{Walk}
use Rattle.graph_check.specs.Levels.{HasLevel}

-- a node's height is the length of its longest walk, among those that are no longer than the number of rounds
pub record IsHeight (edges : List (ℕ × ℕ)) (rounds : ℕ) (heights : List ℕ) (node : ℕ) : Type 0 where
  pub walked : (to : ℕ) × Walk edges node (slice_index heights node) to
  pub longest : (steps to : ℕ) → Walk edges node steps to → steps ≤ rounds → steps ≤ slice_index heights node

-- after so many rounds
pub record AreAtRound (edges : List (ℕ × ℕ)) (rounds : ℕ) (heights : List ℕ) : Type 0 where
  pub at_most : (node : ℕ) → slice_index heights node ≤ rounds
  pub each : (node : ℕ) → node < length heights → IsHeight edges rounds heights node

-- a node has no level exactly where its height is the number of nodes
pub record ShowLevels (count : ℕ) (edges : List (ℕ × ℕ)) (heights : List ℕ) : Type 0 where
  pub complete : length heights ≡ count
  pub without : (node : ℕ) → node < count → slice_index heights node ≡ count → HasLevel edges node → ⊥
  pub within : (node : ℕ) → node < count → slice_index heights node ≢ count → HasLevel edges node
