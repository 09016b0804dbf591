use Rattle.std.proofs.Common.{[], ap, ◌∙◌, length}
use Rattle.std.proofs.lemmas.List.{length-replicate}
use Rattle.view_query.proofs.CountLemmas.{length_counts}
use Rattle.view_query.proofs.JudgeLemmas.{judge_begins, judge_more, judge_ends}
use Rattle.view_query.proofs.judging.judge_rows.Goals as goal

pub loop-row-init : goal.loop-row-init
loop-row-init c = record {
  judges = judge_begins c.args.expectations.now c.args.result_rows.now c.new-rows.result c.in-Ok-no_tallies.tallies.items c.new-rows.ensures c.in-Ok-no_tallies.ensures;
  marks = ap length c.in-Ok.ensures ∙ length-replicate _ _ ∙ c.len.ensures;
  tallies = ap length c.in-Ok-no_tallies.ensures ∙ length_counts c.args.expectations.now [];
}

pub loop-row-preserved : goal.loop-row-preserved
loop-row-preserved c = record {
  judges = judge_more c.args.expectations.now c.args.result_rows.now c.loop-row.rows c.take_row.new.rows c.loop-row.tallies.items c.take_row.new.tallies.items c.loop-row.row-index c.row-item.result c.loop-row-test.true c.row-item.is
      c.in-Ok-take_row.ensures.row c.in-Ok-take_row.ensures.counted c.loop-row.invariant.judges;
  marks = c.in-Ok-take_row.ensures.each ∙ c.loop-row.invariant.marks;
  tallies = c.in-Ok-take_row.ensures.counted ∙ c.loop-row.invariant.tallies;
}

pub returns : goal.returns
returns c = judge_ends c.args.expectations.now c.args.result_rows.now c.loop-row.rows c.loop-row.tallies.items c.from_vec-counts.result c.loop-row.row-index c.loop-row-test.false c.from_vec-counts.ensures c.loop-row.invariant.judges
