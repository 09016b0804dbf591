use Rattle.std.proofs.Common.{subst, ◌∙◌, refl}
use Rattle.flow_model.specs.Views.{ask_in_order}
use Rattle.view_query.specs.Asked.{AskAnswers}
use Rattle.view_query.proofs.AskLemmas.{ordered_is}
use Rattle.view_query.proofs.asking.ask.Goals as goal

pub returns-then-is_in_order : goal.returns-then-is_in_order
returns-then-is_in_order c = subst (λ rows. AskAnswers (ask_in_order c.args.query.now rows) c.ask_in_order.result) (c.as_slice.ensures ∙ ordered_is c.args.rows.now (c.if-is_in_order.ensures.0 refl)) c.ask_in_order.ensures
