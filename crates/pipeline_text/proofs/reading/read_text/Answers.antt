use Rattle.std.proofs.Common.{◌∙◌, ℕ, arith, length-take}
use Rattle.pipeline_text.specs.Pipelines.{text_limit}
use Rattle.pipeline_text.proofs.TextLemmas.{text_full, text_ended}
use Rattle.pipeline_text.proofs.reading.read_text.Goals as goal
use Rattle.pipeline_text.proofs.reading.read_text.Goals.{else-loop-piece-test, then-loop-piece-test+in_ok-read_piece+then-branch-eq0}

pub returns-clause-text : goal.returns-clause-text
returns-clause-text g c tells =
    let all = g.T.Source.left c.args.source.now in
    let before = c.loop-piece.invariant in
    elim c.loop-piece-test.branch [
      | else-loop-piece-test w ↦ rw w.text-is (text_full c.loop-piece.text.items (g.T.Source.left c.loop-piece.source) all text_limit (omega arith) (before.text tells))
      | then-loop-piece-test+in_ok-read_piece+then-branch-eq0 w ↦
          let step = w.in_ok-read_piece.ensures in
          rw w.text-is (text_ended w.read_piece.new.text.items (g.T.Source.left w.read_piece.new.source) all text_limit (omega (arith, before.len, step.len, w.if-branch-eq0.true)) (step.last tells w.if-branch-eq0.true (omega (arith, before.piece, length-take {A = ℕ}))) (step.text tells ∙ before.text tells))
    ]
