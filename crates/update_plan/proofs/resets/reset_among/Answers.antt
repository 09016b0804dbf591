use Rattle.std.proofs.Common.{◌≡◌, ℕ, List, ◌∙◌, ap, subst}
use Rattle.stream_closure.specs.Streams.{IsClosureOf, names_at}
use Rattle.update_plan.proofs.resets.reset_among.Goals as goal

closure_of : (found edges : List (ℕ × ℕ)) (set named places : List ℕ) → found ≡ edges → set ≡ named → IsClosureOf found set places → IsClosureOf edges named places
closure_of found edges set named places same_edges same_set closure =
    subst (λ (e : List (ℕ × ℕ)). IsClosureOf e named places) same_edges (subst (λ (s : List ℕ). IsClosureOf found s places) same_set closure)

pub returns : goal.returns
returns c = record {
  places = c.in_ok-places.places;
  declared_order = c.in_ok-places.ensures.ascending;
  closure = closure_of _ _ _ _ _ (c.as_slice.ensures.value ∙ c.in_ok-edges.ensures.edges) (c.as_slice-2.ensures.value ∙ c.in_ok-set.ensures.places) c.in_ok-places.ensures.exact;
  names_are = c.in_ok-reset.ensures ∙ ap (names_at c.args.plan.now) c.as_slice-3.ensures;
}
