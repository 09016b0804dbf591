use Rattle.std.proofs.Common.{◌≡◌, ◌+◌, List, length}
use Rattle.row_flow.specs.declared.result.Judged.{Judged}
use Rattle.row_flow.specs.Gathers.{AreBelow}
use Rattle.row_flow.specs.Results.{Come}
use Rattle.row_flow.proofs.GatherLemmas.{Leaves}
use Rattle.row_flow.proofs.gather.gather.Given as goal

abbrev pub invariant-loop-answer : goal.invariant-loop-answer
invariant-loop-answer l =
    (goal.iterator-loop-answer).can_next l.answer-iterator
    × (goal.iterator-loop-answer).is_finite l.answer-iterator
    × (l.read + length l.answer-iterator.rest.items ≡ length l.fn.answers.items)
    × ((wanted : List Judged) → Come l.fn.expectations wanted l.fn.answers.items → Leaves l.fn.expectations wanted l.read l.rows.items l.events l.tallies.items l.answer-iterator.rest.items)
    × (length l.tallies.items ≡ length l.fn.expectations)
    × AreBelow (l.read + 1) l.tallies.items
