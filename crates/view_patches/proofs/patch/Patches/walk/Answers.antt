use Rattle.std.proofs.Common.{◌≡◌, List, ◌+◌, length, sym, ap, subst, arith}
use Rattle.std.specs.Map.{keys_of}
use Rattle.std.proofs.lemmas.Map.Iter.{rest_more}
use Rattle.std.specs.Map.Iter.{deref_pair}
use Rattle.value_core.specs.Order.{Row}
use Rattle.view_patches.specs.declared.patch.Patch.{Patch}
use Rattle.view_patches.proofs.TouchLemmas.{Walks, walk_begins, walk_more}
use Rattle.view_patches.proofs.patch.Patches.walk.Goals as goal

pub loop-key-init : goal.loop-key-init
loop-key-init g c =
    let e : c.into_iter-key-iterator.result ≡ c.args.self.now.map.entries = c.into_iter-key-iterator.ensures.into_iter_gives.0 in
    record {
      walks = subst (λ left. Walks c.args.query.now c.args.back c.args.self.now.map.entries left c.args.groups.now c.args.groups.now c.no_sides-sides.result) (sym e)
          (walk_begins c.args.query.now c.args.back c.args.self.now.map.entries c.args.groups.now c.no_sides-sides.result c.no_sides-sides.ensures);
      looks = ap (λ (left : List (Row × Patch)). c.args.steps.now + length (keys_of left)) e;
    }

pub loop-key-preserved : goal.loop-key-preserved
loop-key-preserved g c =
    let step = rest_more deref_pair c.loop-key.key-iterator c.next.new.self c.next.result (c.in-Some.key, c.in-Some.patch) c.in-Some.is c.next.ensures.steps in
    record {
      walks = walk_more c.args.query.now c.args.back c.args.self.now.map.entries c.loop-key.key-iterator c.next.new.self c.in-Some.key.now c.in-Some.patch.now c.args.groups.now c.loop-key.groups c.step.new.groups c.loop-key.sides c.in_ok-next.next
          step c.in_ok-next.ensures c.loop-key.invariant.walks;
      looks = omega (arith, ap (λ (l : List (Row × Patch)). length (keys_of l)) step, c.loop-key.invariant.looks, c.tick.ensures);
    }
