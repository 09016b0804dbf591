use Rattle.std.proofs.Common.{◌∙◌, sym, ap, subst, ◌+◌, ◌^◌, List, [], ◌∷◌, length, Result, arith}
use Rattle.std.specs.declared.alloc.AllocError.{AllocError}
use Rattle.std.proofs.lemmas.List.{nil_from_length}
use Rattle.row_flow.specs.declared.result.RowResult.{RowResult}
use Rattle.row_flow.specs.Results.{Come, seen_of}
use Rattle.row_flow.proofs.CountLemmas.{below_later, below_on, below_zeros, each_on, each_seen, length-counts}
use Rattle.row_flow.proofs.GatherLemmas.{Leaves, begins, next_marks, next_row, next_stops, none_left}
use Rattle.row_flow.proofs.gather.gather.Goals as goal

pub loop-answer-init : goal.loop-answer-init
loop-answer-init c =
    let xs = c.args.expectations.now in (
      tt,
      tt,
      omega (arith, ap (λ (left : List (Result RowResult AllocError)). length left) c.into_iter-answer-iterator.ensures.into_iter_gives.0),
      λ wanted come. rw (c.new-rows.ensures.items, c.new-events.ensures, c.in_ok-tallies.ensures) (begins xs wanted c.into_iter-answer-iterator.result.rest.items (subst (λ (left : List (Result RowResult AllocError)). Come xs wanted left) (sym c.into_iter-answer-iterator.ensures.into_iter_gives.0) come)),
      rw c.in_ok-tallies.ensures (length-counts xs []),
      rw c.in_ok-tallies.ensures (below_zeros xs),
    )

pub count-requires-clause-below : goal.count-requires-clause-below
count-requires-clause-below c =
    let step = (c.in-Some.ensures.steps.0 ∙ ap (λ (o : Result RowResult AllocError). o ∷ c.next.new.self.rest.items) c.in_ok-result.was) in
    below_later (c.loop-answer.read + 1) (2 ^ 63) c.loop-answer.tallies.items (omega (arith, c.loop-answer.invariant.2, ap (λ (left : List (Result RowResult AllocError)). length left) step, c.args.answers.ok.0, c.args.answers.ok.1, c.args.answers.small)) c.loop-answer.invariant.5

pub count-requires-clause-each : goal.count-requires-clause-each
count-requires-clause-each c =
    let xs = c.args.expectations.now in
    let step = (c.in-Some.ensures.steps.0 ∙ ap (λ (o : Result RowResult AllocError). o ∷ c.next.new.self.rest.items) c.in_ok-result.was) in
    rw c.as_slice.ensures (each_seen xs (seen_of c.in_ok-result.result.judged) c.in_ok-result.result.marks c.loop-answer.tallies.items (next_marks xs c.requires.0 c.loop-answer.read c.loop-answer.rows.items c.loop-answer.events c.loop-answer.tallies.items c.next.new.self.rest.items c.in_ok-result.result (subst (λ (left : List (Result RowResult AllocError)). Leaves c.args.expectations.now c.requires.0 c.loop-answer.read c.loop-answer.rows.items c.loop-answer.events c.loop-answer.tallies.items left) step (c.loop-answer.invariant.3 c.requires.0 c.requires.1))) c.loop-answer.invariant.4)

pub returns-in-Some-2 : goal.returns-in-Some-2
returns-in-Some-2 c wanted come =
    let xs = c.args.expectations.now in
    let step = (c.in-Some.ensures.steps.0 ∙ ap (λ (o : Result RowResult AllocError). o ∷ c.next.new.self.rest.items) c.in_ok-result.was) in
    rw (c.in_ok-keep.ensures.rows, c.in_ok-keep.ensures.events, c.count.ensures, c.as_slice.ensures)
    (next_stops xs wanted c.loop-answer.read c.loop-answer.rows.items c.loop-answer.events c.loop-answer.tallies.items c.next.new.self.rest.items c.in_ok-result.result c.in-Some-2.stop (subst (λ (left : List (Result RowResult AllocError)). Leaves c.args.expectations.now wanted c.loop-answer.read c.loop-answer.rows.items c.loop-answer.events c.loop-answer.tallies.items left) step (c.loop-answer.invariant.3 wanted come)) (sym c.in_ok-keep.ensures.halt ∙ c.in-Some-2.is) c.loop-answer.invariant.4)

pub loop-answer-preserved : goal.loop-answer-preserved
loop-answer-preserved c =
    let xs = c.args.expectations.now in
    let step = (c.in-Some.ensures.steps.0 ∙ ap (λ (o : Result RowResult AllocError). o ∷ c.next.new.self.rest.items) c.in_ok-result.was) in
    let are = next_marks xs c.requires.0 c.loop-answer.read c.loop-answer.rows.items c.loop-answer.events c.loop-answer.tallies.items c.next.new.self.rest.items c.in_ok-result.result (subst (λ (left : List (Result RowResult AllocError)). Leaves c.args.expectations.now c.requires.0 c.loop-answer.read c.loop-answer.rows.items c.loop-answer.events c.loop-answer.tallies.items left) step (c.loop-answer.invariant.3 c.requires.0 c.requires.1)) in (
      tt,
      tt,
      omega (arith, c.loop-answer.invariant.2, ap (λ (left : List (Result RowResult AllocError)). length left) step),
      λ wanted come. rw (c.in_ok-keep.ensures.rows, c.in_ok-keep.ensures.events, c.count.ensures, c.as_slice.ensures)
          (next_row xs wanted c.loop-answer.read c.loop-answer.rows.items c.loop-answer.events c.loop-answer.tallies.items c.next.new.self.rest.items c.in_ok-result.result (subst (λ (left : List (Result RowResult AllocError)). Leaves c.args.expectations.now wanted c.loop-answer.read c.loop-answer.rows.items c.loop-answer.events c.loop-answer.tallies.items left) step (c.loop-answer.invariant.3 wanted come)) (sym c.in_ok-keep.ensures.halt ∙ c.in-None-2.is) c.loop-answer.invariant.4),
      rw (c.count.ensures, c.as_slice.ensures) (each_on xs (seen_of c.in_ok-result.result.judged) c.in_ok-result.result.marks c.loop-answer.tallies.items are c.loop-answer.invariant.4),
      rw (c.count.ensures, c.as_slice.ensures) (below_on (seen_of c.in_ok-result.result.judged) c.in_ok-result.result.marks (c.loop-answer.read + 1) c.loop-answer.tallies.items c.loop-answer.invariant.5),
    )

pub returns : goal.returns
returns c wanted come =
    none_left c.args.expectations.now wanted c.loop-answer.read c.loop-answer.rows.items c.loop-answer.events c.loop-answer.tallies.items c.loop-answer.answer-iterator.rest.items
    (nil_from_length c.loop-answer.answer-iterator.rest.items (omega (arith, c.in-None.ensures.steps.0, c.loop-answer.answer-iterator.rest.ok.0))) (c.loop-answer.invariant.3 wanted come) c.loop-answer.invariant.4
