use Rattle.std.proofs.Common.{◌≡◌, refl, sym}
use Rattle.std.specs.declared.cmp.Ordering.TheVariants.{Less, Equal, Greater}
use Rattle.value_core.specs.Order.{row_order}
use Rattle.value_core.proofs.WalkLemmas.{apart_less, apart_greater, apart_equal, apart_left_end, apart_right_end, no_rows, rest_in_order}
use Rattle.value_core.proofs.change.are_apart.Goals as goal

pub returns-in-None : goal.returns-in-None
returns-in-None c =
    (λ h. c.loop-x.invariant.apart.0 (apart_right_end c.loop-x.left.now c.loop-x.right.now (no_rows c.loop-x.right.now c.in-None.ensures.cases)), λ apart. refl)

pub returns-in-Equal : goal.returns-in-Equal
returns-in-Equal c =
    let both : row_order c.in-Some.x.now c.in-Some-split_first.y.now ≡ Equal = sym c.in-Equal.ensures in
    (λ h. cc, λ apart. absurd (apart_equal c.loop-x.left.now c.loop-x.right.now c.in-Some.x.now c.in-Some-split_first.y.now c.in-Some.xs.now c.in-Some-split_first.ys.now c.in-Some.ensures.cases.0 c.in-Some-split_first.ensures.cases.0 both (c.loop-x.invariant.apart.1 apart)))

pub loop-x-preserved-in-Less : goal.loop-x-preserved-in-Less
loop-x-preserved-in-Less c =
    let less : row_order c.in-Some.x.now c.in-Some-split_first.y.now ≡ Less = sym c.in-Less.ensures in
    record {
      left = rest_in_order c.loop-x.left.now c.in-Some.x.now c.in-Some.xs.now c.in-Some.ensures.cases.0 c.loop-x.invariant.left;
      right = c.loop-x.invariant.right;
      apart = apart_less c.loop-x.left.now c.loop-x.right.now c.in-Some.x.now c.in-Some-split_first.y.now c.in-Some.xs.now c.in-Some-split_first.ys.now c.in-Some.ensures.cases.0 c.in-Some-split_first.ensures.cases.0 less c.loop-x.invariant.right c.loop-x.invariant.apart;
    }

pub loop-x-preserved : goal.loop-x-preserved
loop-x-preserved c =
    let greater : row_order c.in-Some.x.now c.in-Some-split_first.y.now ≡ Greater = sym c.in-Greater.ensures in
    record {
      left = c.loop-x.invariant.left;
      right = rest_in_order c.loop-x.right.now c.in-Some-split_first.y.now c.in-Some-split_first.ys.now c.in-Some-split_first.ensures.cases.0 c.loop-x.invariant.right;
      apart = apart_greater c.loop-x.left.now c.loop-x.right.now c.in-Some.x.now c.in-Some-split_first.y.now c.in-Some.xs.now c.in-Some-split_first.ys.now c.in-Some.ensures.cases.0 c.in-Some-split_first.ensures.cases.0 greater c.loop-x.invariant.left c.loop-x.invariant.apart;
    }

pub returns : goal.returns
returns c = (λ h. c.loop-x.invariant.apart.0 (apart_left_end c.loop-x.left.now c.loop-x.right.now (no_rows c.loop-x.left.now c.in_default.ensures.cases)), λ apart. refl)
