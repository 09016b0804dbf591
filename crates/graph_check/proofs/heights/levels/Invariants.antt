use Rattle.std.proofs.Common.{◌≡◌, length}
use Rattle.graph_check.specs.Rounds.{AreAtRound}
use Rattle.graph_check.proofs.heights.levels.Given as goal

abbrev pub invariant-loop-round : goal.invariant-loop-round
invariant-loop-round l = record {
  complete : length l.heights.items ≡ l.count;
  before : AreAtRound l.edges l.round l.heights.items;
}
