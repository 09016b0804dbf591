-- The rows after several changes, in one step.
use Rattle.std.proofs.Common.{◌≡◌, ℕ, zero, suc, ◌+◌, ◌-◌, List, [], ◌∷◌, ◌++◌, length, take, drop, refl, sym, ◌∙◌, ap, subst, arith}
use Rattle.std.proofs.lemmas.List.Sums.{sum_by-append}
use Rattle.value_core.specs.declared.change.Change.{Change}
use Rattle.value_core.specs.Bags.{count_of, surplus, in_row_order, IsInOrder, net_change, changed}
use Rattle.value_core.specs.Changes.{IsChange, Holds, change_of}
use Rattle.value_core.specs.Order.{Row}
use Rattle.value_core.proofs.BagLemmas.{one, count-in_row_order, order-in_row_order, one_order}
use Rattle.value_core.proofs.ChangeLemmas.{count-surplus}
use Rattle.net_changes.specs.Chains.{content_after, Follow, all_removed, all_added}
use Rattle.net_changes.proofs.ChainLemmas.{count-chain, chain_net}

count-append : (a : Row) (xs ys : List Row) → count_of a (xs ++ ys) ≡ count_of a xs + count_of a ys
count-append a xs ys = sum_by-append (one a) xs ys

pub content_order : (rows : List Row) (changes : List Change) → IsInOrder rows → IsInOrder (content_after rows changes)
content_order rows [] order = order
content_order rows (change ∷ changes) order = content_order (changed rows change) changes (order-in_row_order (surplus rows change.removed ++ change.added))

-- what is left of the rows and of all that is added when all that is removed is taken out
pub content_left : (rows : List Row) (changes : List Change) → IsInOrder rows → Follow rows changes → in_row_order (surplus (rows ++ all_added changes) (all_removed changes)) ≡ content_after rows changes
content_left rows changes order follow =
    let all = rows ++ all_added changes in
    one_order (in_row_order (surplus all (all_removed changes))) (content_after rows changes) (order-in_row_order (surplus all (all_removed changes))) (content_order rows changes order)
    (λ a. omega (arith, count-in_row_order a (surplus all (all_removed changes)), count-surplus a all (all_removed changes), count-append a rows (all_added changes), count-chain a rows changes follow))

-- ---- a part of the changes

pub content-append : (rows : List Row) (xs ys : List Change) → content_after rows (xs ++ ys) ≡ content_after (content_after rows xs) ys
content-append rows [] ys = refl
content-append rows (x ∷ xs) ys = content-append (changed rows x) xs ys

pub follow_take : (k : ℕ) (rows : List Row) (changes : List Change) → Follow rows changes → Follow rows (take k changes)
follow_take zero rows changes follow = tt
follow_take (suc k) rows [] follow = tt
follow_take (suc k) rows (change ∷ changes) follow = (follow.0, follow.1, follow_take k (changed rows change) changes follow.2)

pub follow_drop : (k : ℕ) (rows : List Row) (changes : List Change) → Follow rows changes → Follow (content_after rows (take k changes)) (drop k changes)
follow_drop zero rows changes follow = follow
follow_drop (suc k) rows [] follow = tt
follow_drop (suc k) rows (change ∷ changes) follow = follow_drop k (changed rows change) changes follow.2

pub follow_more : (rows : List Row) (changes : List Change) (change : Change) → Follow rows changes → IsChange change → Holds (content_after rows changes) change.removed → Follow rows (changes ++ change ∷ [])
follow_more rows [] change follow form there = (form, there, tt)
follow_more rows (first ∷ changes) change follow form there = (follow.0, follow.1, follow_more (changed rows first) changes change follow.2 form there)

pub content_split : (k : ℕ) (rows : List Row) (changes : List Change) → content_after (content_after rows (take k changes)) (drop k changes) ≡ content_after rows changes
content_split zero rows changes = refl
content_split (suc k) rows [] = refl
content_split (suc k) rows (change ∷ changes) = content_split k (changed rows change) changes

-- the net change of the changes behind the first ones
pub net_later : (k : ℕ) (rows : List Row) (changes : List Change) → Follow rows changes
    → net_change (all_removed (drop k changes)) (all_added (drop k changes)) ≡ net_change (content_after rows (take k changes)) (content_after rows changes)
net_later k rows changes follow =
    sym (chain_net (content_after rows (take k changes)) (drop k changes) (follow_drop k rows changes follow)) ∙ ap (net_change (content_after rows (take k changes))) (content_split k rows changes)

-- what a net change removes is there
pub net_held : (old new : List Row) → Holds old (net_change old new).removed
net_held old new a = omega (arith, count-in_row_order a (surplus old new), count-surplus a old new)

-- ---- all rows are taken away

-- a list in row order is what it is as a bag
pub ordered_is : (rows : List Row) → IsInOrder rows → in_row_order rows ≡ rows
ordered_is rows order = one_order (in_row_order rows) rows (order-in_row_order rows) order (λ a. count-in_row_order a rows)

-- the change that takes away all rows of a list in row order
pub clearing : (rows : List Row) → IsInOrder rows → IsChange (change_of rows [])
clearing rows order = (order, tt, λ row some. refl)
