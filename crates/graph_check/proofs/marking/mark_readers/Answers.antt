use Rattle.std.proofs.Common.{◌≡◌, ℕ, get_or, set, true}
use Rattle.std.proofs.lemmas.List.{get_or_default}
use Rattle.std.proofs.lemmas.Bool.{OnTrue_at, OnFalse_at}
use Rattle.graph_check.specs.Marks.{IsMarked}
use Rattle.graph_check.proofs.MarkLemmas.{marking_then, marking_else, marking_all}
use Rattle.graph_check.proofs.marking.mark_readers.Goals as goal
use Rattle.graph_check.proofs.marking.mark_readers.Goals.{then-mark_reader, else-mark_reader}

pub loop-edge-preserved : goal.loop-edge-preserved
loop-edge-preserved c =
    let edge : ℕ × ℕ = get_or c.args.edges.now c.loop-edge.edge-index (0, 0) in
    let is : edge ≡ get_or c.args.edges.now c.loop-edge.edge-index edge = get_or_default c.args.edges.now c.loop-edge.edge-index (0, 0) edge c.loop-edge-test.true in
    elim c.if-mark_reader.branch [
      | then-mark_reader w ↦
          let new_is : c.mark_reader.new.marks ≡ set c.loop-edge.marks edge.0 true = OnTrue_at w.if-mark_reader.true c.mark_reader.ensures.marked in
          let by_source : IsMarked c.loop-edge.marks edge.1 = OnTrue_at w.if-mark_reader.true c.mark_reader.ensures.by_source in
          let fresh : IsMarked c.loop-edge.marks edge.0 → ⊥ = OnTrue_at w.if-mark_reader.true c.mark_reader.ensures.first in
          marking_then c.args.count c.args.edges.now c.args.marks.now c.loop-edge.edge-index c.loop-edge.changed c.if-mark_reader.changed c.loop-edge.marks c.mark_reader.new.marks edge c.requires.within c.loop-edge-test.true is w.changed-is new_is by_source fresh c.loop-edge.invariant
      | else-mark_reader w ↦
          let new_is : c.mark_reader.new.marks ≡ c.loop-edge.marks = OnFalse_at w.if-mark_reader.false c.mark_reader.ensures.kept in
          let closed : IsMarked c.mark_reader.new.marks edge.1 → IsMarked c.mark_reader.new.marks edge.0 = OnFalse_at w.if-mark_reader.false c.mark_reader.ensures.closed in
          marking_else c.args.count c.args.edges.now c.args.marks.now c.loop-edge.edge-index c.loop-edge.changed c.if-mark_reader.changed c.loop-edge.marks c.mark_reader.new.marks edge c.loop-edge-test.true is w.changed-is new_is closed c.loop-edge.invariant
    ]

pub returns-clause-closed : goal.returns-clause-closed
returns-clause-closed c = marking_all c.args.count c.args.edges.now c.args.marks.now c.loop-edge.marks c.loop-edge.edge-index c.loop-edge.changed c.loop-edge-test.false c.loop-edge.invariant
