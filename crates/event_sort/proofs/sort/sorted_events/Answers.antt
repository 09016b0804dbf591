use Rattle.std.proofs.Common.{◌∙◌, rules}
use Rattle.std.proofs.lemmas.List.Sorted.{answers_always}
use Rattle.value_core.specs.EventOrder.{event_order, sorted_by}
use Rattle.event_sort.proofs.SortLemmas.{below, event_total, sorted_is, weak}
use Rattle.event_sort.proofs.sort.sorted_events.Goals as goal

pub returns : goal.returns
returns c =
    let o = weak event_order event_total in
    c.from_vec.ensures
    ∙ sorted_is event_order event_total c.into_vec-items.result.items c.sort_by.new.self.items
    (c.in_ok-sort_by.ensures.sorted (below event_order) o (answers_always _ _ _ (λ f a r g h. search rules)))
    (c.sort_by.ensures.stable (below event_order) o (answers_always _ _ _ (λ f a r g h. search rules)))
    ∙ (λ i. sorted_by event_order (c.into_vec-items.ensures i))
