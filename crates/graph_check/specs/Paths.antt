-- The path by which a cycle is shown.
use Rattle.std.specs.Prelude.{◌≡◌, ◌≢◌, ℕ, ◌+◌, ◌<◌, List, [], ◌∷◌, ◌++◌, length, take, slice_index, slice_index_or}
use Rattle.std.specs.List.{All, AllPairs}
use Rattle.graph_check.specs.Levels.{HasLevel}

-- the first source of a node, in the order of the edges, that has no level
pub record IsNext (edges : List (ℕ × ℕ)) (node next : ℕ) : Type 0 where
  pub place : ℕ
  pub within : place < length edges
  pub edge : slice_index_or edges place (node, next) ≡ (node, next)
  pub no_level : HasLevel edges next → ⊥
  pub first : All (λ (e : ℕ × ℕ). e.0 ≡ node → HasLevel edges e.1) (take place edges)

-- the least node that has no level
pub record IsLeastWithout (edges : List (ℕ × ℕ)) (node : ℕ) : Type 0 where
  pub no_level : HasLevel edges node → ⊥
  pub least : (lesser : ℕ) → lesser < node → HasLevel edges lesser

-- from the least node without a level on, each node is followed by its next
pub record IsTrail (edges : List (ℕ × ℕ)) (trail : List ℕ) : Type 0 where
  pub begins : IsLeastWithout edges (slice_index trail 0)
  pub follows : (k : ℕ) → k + 1 < length trail → IsNext edges (slice_index trail k) (slice_index trail (k + 1))

-- the trail comes back to a node for the first time, and the path is the part from that node's first place to its second
pub record IsCyclePath (edges : List (ℕ × ℕ)) (path : List ℕ) : Type 0 where
  pub lead : List ℕ
  pub node : ℕ
  pub more : List ℕ
  pub path_is : path ≡ (node ∷ more) ++ node ∷ []
  pub trail : IsTrail edges (lead ++ path)
  pub distinct : AllPairs (λ x y. x ≢ y) (lead ++ node ∷ more)
