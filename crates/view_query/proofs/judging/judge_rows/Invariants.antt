use Rattle.std.proofs.Common.{◌≡◌, drop, length}
use Rattle.view_query.proofs.JudgeLemmas.{Judges}
use Rattle.view_query.proofs.judging.judge_rows.Given as goal

abbrev pub invariant-loop-row : goal.invariant-loop-row
invariant-loop-row l = record {
  judges : Judges l.expectations l.result_rows (drop l.row-index l.result_rows) l.rows l.tallies.items;
  marks : length l.marks ≡ length l.expectations;
  tallies : length l.tallies.items ≡ length l.expectations;
}
