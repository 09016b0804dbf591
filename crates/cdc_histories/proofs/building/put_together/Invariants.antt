use Rattle.std.proofs.Common.{ℕ, Bool, List}
use Rattle.cdc_histories.specs.declared.cutting.KeyEvents.{KeyEvents}
use Rattle.cdc_histories.specs.Building.{AreParts, AreUp, HaveCome}
use Rattle.cdc_histories.proofs.BuildLemmas.{Building}
use Rattle.cdc_histories.proofs.building.put_together.Given as goal

abbrev pub invariant-loop-answer : goal.invariant-loop-answer
invariant-loop-answer l = (ignore_null : Bool) (tracked : List ℕ) (parts : List KeyEvents) → AreParts parts → AreUp parts → HaveCome ignore_null tracked parts l.fn.answers.items
    → Building ignore_null tracked parts l.answer-iterator.rest.items l.histories.entries l.rows.items
