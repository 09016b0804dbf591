use Rattle.std.proofs.Common.{◌++◌, ◌∷◌, [], sym, ap, subst, ◌∙◌}
use Rattle.net_changes.proofs.NetLemmas.{Merges, merges_less, merges_greater, merges_equal, merges_old, merges_new, nothing}
use Rattle.net_changes.proofs.merge.net_in_order.Goals as goal

pub returns-in_default-split_first : goal.returns-in_default-split_first
returns-in_default-split_first c = merges_old c.args.left.now c.args.right.now c.loop-x.old.now c.loop-x.new.now c.loop-x.removed c.put_rows.new.into c.loop-x.added c.loop-x.invariant (nothing c.loop-x.new.now c.in_default-split_first.ensures.cases) c.in_ok-put_rows.ensures

pub loop-x-preserved-in-Less : goal.loop-x-preserved-in-Less
loop-x-preserved-in-Less c =
    let m = subst (λ new. Merges c.args.left.now c.args.right.now (c.in-Some.x.now ∷ c.in-Some.xs.now) new c.loop-x.removed c.loop-x.added) c.in-Some-split_first.ensures.cases.0
    (subst (λ old. Merges c.args.left.now c.args.right.now old c.loop-x.new.now c.loop-x.removed c.loop-x.added) c.in-Some.ensures.cases.0 c.loop-x.invariant) in
    let done = merges_less c.args.left.now c.args.right.now c.in-Some.xs.now c.in-Some-split_first.ys.now c.loop-x.removed c.push.new.self c.loop-x.added c.in-Some.x.now c.in-Some-split_first.y.now m (sym c.in-Less.ensures)
    (c.in_ok-push-in-Less.ensures.ok ∙ ap (λ x. c.loop-x.removed ++ x ∷ []) c.in_ok-copy-in-Less.ensures) in
    subst (λ new. Merges c.args.left.now c.args.right.now c.in-Some.xs.now new c.push.new.self c.loop-x.added) (sym c.in-Some-split_first.ensures.cases.0) done

pub loop-x-preserved-in-Greater : goal.loop-x-preserved-in-Greater
loop-x-preserved-in-Greater c =
    let m = subst (λ new. Merges c.args.left.now c.args.right.now (c.in-Some.x.now ∷ c.in-Some.xs.now) new c.loop-x.removed c.loop-x.added) c.in-Some-split_first.ensures.cases.0
    (subst (λ old. Merges c.args.left.now c.args.right.now old c.loop-x.new.now c.loop-x.removed c.loop-x.added) c.in-Some.ensures.cases.0 c.loop-x.invariant) in
    let done = merges_greater c.args.left.now c.args.right.now c.in-Some.xs.now c.in-Some-split_first.ys.now c.loop-x.removed c.loop-x.added c.push-in-Greater.new.self c.in-Some.x.now c.in-Some-split_first.y.now m (sym c.in-Greater.ensures)
    (c.in_ok-push-in-Greater.ensures.ok ∙ ap (λ y. c.loop-x.added ++ y ∷ []) c.in_ok-copy-in-Greater.ensures) in
    subst (λ old. Merges c.args.left.now c.args.right.now old c.in-Some-split_first.ys.now c.loop-x.removed c.push-in-Greater.new.self) (sym c.in-Some.ensures.cases.0) done

pub loop-x-preserved : goal.loop-x-preserved
loop-x-preserved c =
    let m = subst (λ new. Merges c.args.left.now c.args.right.now (c.in-Some.x.now ∷ c.in-Some.xs.now) new c.loop-x.removed c.loop-x.added) c.in-Some-split_first.ensures.cases.0
    (subst (λ old. Merges c.args.left.now c.args.right.now old c.loop-x.new.now c.loop-x.removed c.loop-x.added) c.in-Some.ensures.cases.0 c.loop-x.invariant) in
    merges_equal c.args.left.now c.args.right.now c.in-Some.xs.now c.in-Some-split_first.ys.now c.loop-x.removed c.loop-x.added c.in-Some.x.now c.in-Some-split_first.y.now m (sym c.in-Equal.ensures)

pub returns : goal.returns
returns c = merges_new c.args.left.now c.args.right.now c.loop-x.old.now c.loop-x.new.now c.loop-x.removed c.loop-x.added c.put_rows-2.new.into c.loop-x.invariant (nothing c.loop-x.old.now c.in_default.ensures.cases) c.in_ok-put_rows-2.ensures
