use Rattle.std.proofs.Common.{◌++◌, take, sym, ap, ◌∙◌, subst}
use Rattle.std.proofs.Math.Seq.{take-length}
use Rattle.event_history.specs.Histories.{AllBelow}
use Rattle.cdc_histories.proofs.FoldLemmas.{below_next}
use Rattle.cdc_histories.proofs.folding.history_of.Goals as goal

pub put-requires-clause-below : goal.put-requires-clause-below
put-requires-clause-below c =
    let history = c.loop-entry.history in
    subst (AllBelow c.in-Some.entry.event.sequence) (sym (ap (λ n. take n history) c.len-count.ensures.len ∙ take-length history))
    (below_next history c.next.new.self.rest.items c.args.entries.items c.in-Some.entry c.requires (ap (λ left. history ++ left) (sym c.in-Some.ensures.steps.0) ∙ c.loop-entry.invariant))
