use Rattle.std.proofs.Common.{◌≡◌, ◌<◌, ◌++◌, take, drop, ap, ◌∙◌, subst, arith}
use Rattle.cdc_histories.specs.Building.{cut_by_key, span}
use Rattle.cdc_histories.proofs.CutLemmas.{cut_next, some_first}
use Rattle.cdc_histories.proofs.cutting.cut.Goals as goal

pub loop-first-smaller : goal.loop-first-smaller
loop-first-smaller c =
    let some : 0 < c.span-count.result = some_first c.in-Some.first.now c.in-Some.field-0-1.now c.span-count.result (c.span-count.ensures.span ∙ ap (span c.in-Some.first.now.key) c.in-Some.ensures.cases.0) in
    omega (arith, some, c.span-count.ensures.within, c.split_at.ensures.back_len)

pub loop-first-preserved : goal.loop-first-preserved
loop-first-preserved c =
    let x = c.in-Some.first.now in
    let xs = c.in-Some.field-0-1.now in
    let n = c.span-count.result in
    let is = c.in-Some.ensures.cases.0 in
    cut_next x xs c.split_at.result.1.now c.loop-first.parts.items c.push.new.self.items (cut_by_key c.args.events.now) c.in_ok-part_of.field-0 n
    (c.span-count.ensures.span ∙ ap (span x.key) is)
    c.in_ok-part_of.ensures.key
    (c.in_ok-part_of.ensures.events ∙ c.split_at.ensures.front ∙ ap (take n) is)
    (c.split_at.ensures.back ∙ ap (drop n) is)
    c.in_ok-push.ensures.items
    (subst (λ ys. c.loop-first.parts.items ++ cut_by_key ys ≡ cut_by_key c.args.events.now) is c.loop-first.invariant)
