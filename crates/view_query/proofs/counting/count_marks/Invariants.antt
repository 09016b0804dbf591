use Rattle.std.proofs.Common.{◌≡◌, length}
use Rattle.view_query.proofs.CountLemmas.{Counting}
use Rattle.view_query.proofs.counting.count_marks.Given as goal

abbrev pub invariant-loop-i : goal.invariant-loop-i
invariant-loop-i l = record {
  counting : Counting l.i l.fn.tallies l.marks l.tallies;
  each : length l.tallies ≡ length l.marks;
}
