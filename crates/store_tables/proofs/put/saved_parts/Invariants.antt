use Rattle.std.proofs.Common.{◌≡◌, ◌++◌, List}
use Rattle.commit_payloads.specs.declared.state.DatasetState.{DatasetState}
use Rattle.store_tables.specs.Members.{AreFrom, AreSavedTables}
use Rattle.store_tables.proofs.put.saved_parts.Given as goal

-- the parts so far are what was saved of the first states, and the tables of the others are left
abbrev pub invariant-loop-state : goal.invariant-loop-state
invariant-loop-state l =
    (goal.iterator-loop-state).can_next l.state-iterator
    × (goal.iterator-loop-state).is_finite l.state-iterator
    × ((done : List DatasetState) × (done ++ l.state-iterator.rest.items ≡ l.fn.states) × AreFrom done l.parts.items)
    × AreSavedTables l.state-iterator.rest.items
