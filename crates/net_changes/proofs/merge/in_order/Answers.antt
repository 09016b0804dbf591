use Rattle.std.proofs.Common.{sym, subst}
use Rattle.std.specs.List.Sorted.{IsPermutation}
use Rattle.value_core.specs.Bags.{IsInOrder, SameBag}
use Rattle.net_changes.proofs.NetLemmas.{sorted_order, same_bag}
use Rattle.net_changes.proofs.merge.in_order.Goals as goal

pub returns : goal.returns
returns c = record {
  sorted = subst IsInOrder (sym c.from_vec.ensures) (sorted_order c.sort.new.self.items c.in_ok-sort.ensures.sorted);
  held = subst (λ rows. SameBag rows c.args.rows) (sym c.from_vec.ensures) (same_bag c.args.rows c.sort.new.self.items (subst (λ rows. IsPermutation rows c.sort.new.self.items) c.into_vec-items.ensures c.in_ok-sort.ensures.permutation));
}
