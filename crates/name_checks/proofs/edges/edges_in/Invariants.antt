use Rattle.std.proofs.Common.{◌≡◌, take, length}
use Rattle.name_checks.specs.Edges.{edges_among}
use Rattle.graph_check.specs.Graphs.{AreWithin}
use Rattle.name_checks.proofs.edges.edges_in.Given as goal

-- the edges so far
abbrev pub invariant-loop-statement : goal.invariant-loop-statement
invariant-loop-statement l = record {
  edges : l.edges.items ≡ edges_among l.names (take l.statement-index l.statements);
  within : AreWithin (length l.names) l.edges.items;
}
