use Rattle.std.proofs.Common.{◌≡◌, ◌∙◌, subst, length, arith}
use Rattle.std.proofs.lemmas.List.{length-set}
use Rattle.view_query.proofs.CountLemmas.{Counting, counts_done, counts_more}
use Rattle.view_query.proofs.counting.count_marks.Goals as goal

pub loop-i-preserved : goal.loop-i-preserved
loop-i-preserved c = record {
  counting = counts_more c.loop-i.i c.args.tallies.now c.args.marks.now c.loop-i.tallies (record { passed = 0; failed = 0 }) _ c.in_ok-more.more c.in_ok-more.ensures (omega (arith, c.loop-i-test.true)) c.loop-i.invariant.each c.loop-i.invariant.counting;
  each = length-set c.loop-i.tallies c.loop-i.i c.in_ok-more.more ∙ c.loop-i.invariant.each;
}

pub returns-clause-counted : goal.returns-clause-counted
returns-clause-counted c =
    let all : c.loop-i.i ≡ length c.args.marks.now = omega (arith, c.loop-i-test.false, c.loop-i.auto.i-end) in
    counts_done c.args.tallies.now c.args.marks.now c.loop-i.tallies c.requires (subst (λ n. Counting n c.args.tallies.now c.args.marks.now c.loop-i.tallies) all c.loop-i.invariant.counting)
