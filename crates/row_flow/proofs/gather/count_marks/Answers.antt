use Rattle.std.proofs.Common.{◌≡◌, ◌∙◌, ◌^◌, subst, length, arith}
use Rattle.std.proofs.lemmas.List.{length-set}
use Rattle.row_flow.proofs.CountLemmas.{Counting, below_at, counts_done, counts_more}
use Rattle.row_flow.proofs.gather.count_marks.Goals as goal

pub one_more-requires : goal.one_more-requires
one_more-requires c =
    below_at c.loop-i.i (2 ^ 63) c.args.tallies.now c.args.marks.now c.loop-i.tallies (record { passed = 0; failed = 0 }) (omega (arith, c.loop-i-test.true, c.loop-i.invariant.each)) c.requires.below c.loop-i.invariant.counting

pub loop-i-preserved : goal.loop-i-preserved
loop-i-preserved c = record {
  counting = counts_more c.loop-i.i c.args.tallies.now c.args.marks.now c.loop-i.tallies (record { passed = 0; failed = 0 }) _ c.one_more.result c.one_more.ensures (omega (arith, c.loop-i-test.true)) c.loop-i.invariant.each c.loop-i.invariant.counting;
  each = length-set c.loop-i.tallies c.loop-i.i c.one_more.result ∙ c.loop-i.invariant.each;
}

pub returns : goal.returns
returns c =
    let all : c.loop-i.i ≡ length c.args.marks.now = omega (arith, c.loop-i-test.false, c.loop-i.auto.i-end) in
    counts_done c.args.tallies.now c.args.marks.now c.loop-i.tallies c.requires.each (subst (λ n. Counting n c.args.tallies.now c.args.marks.now c.loop-i.tallies) all c.loop-i.invariant.counting)
