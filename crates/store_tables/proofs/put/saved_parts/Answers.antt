use Rattle.std.proofs.Common.{◌≡◌, ◌++◌, [], ◌∷◌, ap, subst, sym, ◌∙◌, append_assoc}
use Rattle.store_tables.specs.Members.{AreFrom, AreSavedTables}
use Rattle.store_tables.proofs.BaseLemmas.{from-more}
use Rattle.store_tables.proofs.put.saved_parts.Goals as goal

pub from_saved-requires : goal.from_saved-requires
from_saved-requires c = (subst AreSavedTables c.in-Some.ensures.steps.0 c.loop-state.invariant.3).0

pub loop-state-preserved : goal.loop-state-preserved
loop-state-preserved c =
    let steps = c.in-Some.ensures.steps.0 in
    let was = c.loop-state.invariant.2 in
    let all : (was.0 ++ c.in-Some.state ∷ []) ++ c.next.new.self.rest.items ≡ c.args.states = append_assoc was.0 (c.in-Some.state ∷ []) c.next.new.self.rest.items ∙ ap (λ rest. was.0 ++ rest) (sym steps) ∙ was.1 in (
      tt,
      tt,
      (was.0 ++ c.in-Some.state ∷ [], all, subst (λ parts. AreFrom (was.0 ++ c.in-Some.state ∷ []) parts) (sym c.in_ok-push.ensures.items) (from-more was.0 c.loop-state.parts.items c.in-Some.state c.from_saved.result was.2 c.from_saved.ensures)),
      (subst AreSavedTables steps c.loop-state.invariant.3).1,
    )
