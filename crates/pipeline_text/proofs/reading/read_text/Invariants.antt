use Rattle.std.proofs.Common.{◌≡◌, ◌+◌, ◌-◌, ◌≤◌, ◌++◌, length}
use Rattle.pipeline_text.specs.Pipelines.{text_limit}
use Rattle.pipeline_text.proofs.reading.read_text.Given as goal

abbrev pub invariant-loop-piece : goal.invariant-loop-piece
invariant-loop-piece g l =
    let device = g.T.Source in
    record {
      len : length l.text.items ≤ text_limit;
      piece : length l.piece ≡ 4096;
      text : device.tells → l.text.items ++ device.left l.source ≡ device.left l.initial.source;
      amount : device.tells → length (device.left l.initial.source) ≡ length (device.left l.source) + length l.text.items;
      faults : device.faults l.source ≡ device.faults l.initial.source;
    }

abbrev pub decreases-loop-piece : goal.decreases-loop-piece
decreases-loop-piece g l = text_limit - length l.text.items
