-- Why there are no levels.
use Rattle.std.specs.Prelude.{ℕ, List}
use Rattle.graph_check.specs.declared.heights.GraphEnd.{GraphEnd}
use Rattle.graph_check.specs.declared.heights.GraphEnd.TheVariants.{Cycle, Memory}

-- a fact of the path of a cycle
abbrev pub IfCycle : GraphEnd → (List ℕ → Type 0) → Type 0
IfCycle (Cycle path) P = P path
IfCycle Memory P = Unit {0}
