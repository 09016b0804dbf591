use Rattle.std.proofs.Common.{◌≡◌, drop, length, take}
use Rattle.row_admission.specs.Answers.{marks_of}
use Rattle.row_admission.proofs.AdmitLemmas.{SoFar}
use Rattle.row_admission.proofs.admission.judge.Given as goal

abbrev pub invariant-loop-i : goal.invariant-loop-i
invariant-loop-i l = record {
  so_far : SoFar l.expectations (drop l.i l.expectations) l.row l.dropped;
  each : length l.marks ≡ length l.expectations;
  marks : take l.i l.marks ≡ marks_of (take l.i l.expectations) l.row;
}
