-- The net change of several changes, from their rows alone.
use Rattle.std.proofs.Common.{◌≡◌, ◌+◌, ◌-◌, List, [], ◌∷◌, ◌++◌, refl, ◌∙◌, ap, arith}
use Rattle.std.proofs.lemmas.List.Sums.{sum_by-append}
use Rattle.value_core.specs.declared.change.Change.{Change}
use Rattle.value_core.specs.Bags.{count_of, surplus, net_change, changed}
use Rattle.value_core.specs.Order.{Row}
use Rattle.value_core.proofs.BagLemmas.{one, count-in_row_order, same_list}
use Rattle.value_core.proofs.ChangeLemmas.{count-surplus}
use Rattle.net_changes.specs.Chains.{content_after, Follow, all_removed, all_added}

count-append : (a : Row) (xs ys : List Row) → count_of a (xs ++ ys) ≡ count_of a xs + count_of a ys
count-append a xs ys = sum_by-append (one a) xs ys

-- a row is held as often as before, less what is removed and with what is added
pub count-changed : (a : Row) (rows : List Row) (change : Change) → count_of a (changed rows change) ≡ (count_of a rows - count_of a change.removed) + count_of a change.added
count-changed a rows change = count-in_row_order a (surplus rows change.removed ++ change.added) ∙ count-append a (surplus rows change.removed) change.added ∙ ap (λ n. n + count_of a change.added) (count-surplus a rows change.removed)

pub count-chain : (a : Row) (rows : List Row) (changes : List Change) → Follow rows changes
    → count_of a (content_after rows changes) + count_of a (all_removed changes) ≡ count_of a rows + count_of a (all_added changes)
count-chain a rows [] follow = refl
count-chain a rows (change ∷ changes) follow =
    omega (arith, count-chain a (changed rows change) changes follow.2, count-changed a rows change, follow.1 a, count-append a change.removed (all_removed changes), count-append a change.added (all_added changes))

pub chain_net : (rows : List Row) (changes : List Change) → Follow rows changes → net_change rows (content_after rows changes) ≡ net_change (all_removed changes) (all_added changes)
chain_net rows changes follow = λ i. record {
  removed = same_list (surplus rows (content_after rows changes)) (surplus (all_removed changes) (all_added changes))
      (λ a. omega (arith, count-chain a rows changes follow, count-surplus a rows (content_after rows changes), count-surplus a (all_removed changes) (all_added changes))) i;
  added = same_list (surplus (content_after rows changes) rows) (surplus (all_added changes) (all_removed changes))
      (λ a. omega (arith, count-chain a rows changes follow, count-surplus a (content_after rows changes) rows, count-surplus a (all_added changes) (all_removed changes))) i;
}
