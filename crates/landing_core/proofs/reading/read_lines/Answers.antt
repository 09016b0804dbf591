use Rattle.std.proofs.Common.{◌≡◌, ◌+◌, ◌≤◌, ◌∙◌, length, length-append, length-drop, length-take, arith, rules}
use Rattle.std.specs.Prelude.{slice_range}
use Rattle.landing_core.specs.Folders.{bytes_of}
use Rattle.landing_core.proofs.PieceLemmas.{rows_more, end_more, piece_is}
use Rattle.landing_core.proofs.reading.read_lines.Goals as goal

pub loop-at-preserved : goal.loop-at-preserved
loop-at-preserved g c =
    let before = c.loop-at.invariant in
    let read = c.in_ok-read_at.ensures in
    let more = c.in_ok-push_piece.ensures in
    let listed = c.args.listed.now in
    let reading = c.args.reading in
    let bytes = bytes_of c.args.dir.now listed.file (g.L.Landing.present c.args.landing.now) in
    let within : c.loop-at.at + c.min-len.result ≤ listed.size = omega arith in
    let len : length c.read_at.new.into ≡ c.min-len.result = search rules in
    record {
      from = omega arith;
      to = within;
      buffer = simp (length-append, length-drop, length-take) (omega arith);
      at = omega arith;
      later = omega arith;
      present = λ t. read.present t ∙ before.present t;
      ever = λ t. read.ever t ∙ before.ever t;
      lines = λ t.
          let is : c.read_at.new.into ≡ slice_range bytes c.loop-at.at (c.loop-at.at + c.min-len.result) = piece_is bytes _ c.loop-at.at c.min-len.result _ (rw (c.as_str.ensures, before.present t) at (read.bytes t)) (simp length-take (omega arith)) in
          rows_more reading.format reading.head reading.number bytes c.read_at.new.into c.loop-at.at c.min-len.result listed.size c.loop-at.begun c.push_piece.new.begun c.loop-at.lines c.push_piece.new.lines _ within is more.lines (before.lines t);
      end = λ t.
          let is : c.read_at.new.into ≡ slice_range bytes c.loop-at.at (c.loop-at.at + c.min-len.result) = piece_is bytes _ c.loop-at.at c.min-len.result _ (rw (c.as_str.ensures, before.present t) at (read.bytes t)) (simp length-take (omega arith)) in
          end_more bytes c.read_at.new.into c.loop-at.at c.min-len.result listed.size c.loop-at.begun c.push_piece.new.begun _ within is more.end (before.end t);
      faults = read.cause.kept ∙ before.faults;
    }
