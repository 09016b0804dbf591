-- Marked nodes of a graph.
use Rattle.std.specs.Prelude.{◌≡◌, ℕ, List, Bool, true, false, slice_index_or}
use Rattle.graph_check.specs.Graphs.{Reads, Walk}

-- the node is marked
abbrev pub IsMarked : List Bool → ℕ → Type 0
IsMarked marks node = slice_index_or marks node false ≡ true

-- each reader of a marked node is marked
abbrev pub MarksReaders : List (ℕ × ℕ) → List Bool → Type 0
MarksReaders edges marks = (reader source : ℕ) → Reads edges reader source → IsMarked marks source → IsMarked marks reader

-- a walk leads from the node to a marked one
abbrev pub LeadsToMarked : List (ℕ × ℕ) → List Bool → ℕ → Type 0
LeadsToMarked edges marks node = (member : ℕ) × IsMarked marks member × ((steps : ℕ) × Walk edges node steps member)
