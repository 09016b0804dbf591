use Rattle.std.proofs.Common.{◌≡◌, length}
use Rattle.row_flow.proofs.CountLemmas.{Counting}
use Rattle.row_flow.proofs.gather.count_marks.Given as goal

abbrev pub invariant-loop-i : goal.invariant-loop-i
invariant-loop-i l = record {
  counting : Counting l.i l.fn.tallies l.marks l.tallies;
  each : length l.tallies ≡ length l.marks;
}
