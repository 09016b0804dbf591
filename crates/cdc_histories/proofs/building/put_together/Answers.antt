use Rattle.std.proofs.Common.{◌∷◌, ◌++◌, List, Result, ap, ◌∙◌, subst, arith}
use Rattle.std.specs.declared.alloc.AllocError.{AllocError}
use Rattle.std.proofs.lemmas.List.{nil_from_length}
use Rattle.cdc_histories.specs.declared.folding.KeyHistory.{KeyHistory}
use Rattle.cdc_histories.proofs.BuildLemmas.{Building, built_last, built_next}
use Rattle.cdc_histories.proofs.building.put_together.Goals as goal

pub loop-answer-preserved : goal.loop-answer-preserved
loop-answer-preserved c = λ ignore_null tracked parts each up come.
    let step = c.in-Some.ensures.steps.0 ∙ ap (λ (o : Result KeyHistory AllocError). o ∷ c.next.new.self.rest.items) c.in_ok-key.was in
    built_next ignore_null tracked parts c.in_ok-key.field-0 c.next.new.self.rest.items c.loop-answer.histories.entries c.insert.new.self.entries c.loop-answer.rows.items c.append.new.self.items up
    (subst (λ (left : List (Result KeyHistory AllocError)). Building ignore_null tracked parts left c.loop-answer.histories.entries c.loop-answer.rows.items) step (c.loop-answer.invariant ignore_null tracked parts each up come))
    c.in_ok-insert.ensures.entries
    (c.in_ok-append.ensures.items ∙ ap (λ ys. c.loop-answer.rows.items ++ ys) c.into_vec.ensures)

pub returns : goal.returns
returns c = λ ignore_null tracked parts each up come.
    built_last ignore_null tracked parts c.loop-answer.answer-iterator.rest.items c.loop-answer.histories.entries c.loop-answer.rows.items (c.loop-answer.invariant ignore_null tracked parts each up come)
    (nil_from_length c.loop-answer.answer-iterator.rest.items (omega (arith, c.in-None.ensures.steps.0, c.loop-answer.answer-iterator.rest.ok.0)))
