use Rattle.std.proofs.Common.{◌∙◌, sym, ap}
use Rattle.std.specs.Prelude.{codes}
use Rattle.sql_tree.specs.Print.{word, action_print}
use Rattle.sql_print.specs.Writing.{put, puts}
use Rattle.sql_print.proofs.PutLemmas.{ends}
use Rattle.sql_print.proofs.statements.action.Goals as goal

pub returns-in_ok-word-in-FailUpdate : goal.returns-in_ok-word-in-FailUpdate
returns-in_ok-word-in-FailUpdate c = ends _ _ _ _ c.word-in-FailUpdate-2.ensures
    (ap (λ w. put w (word (codes "UPDATE"))) (c.in_ok-word-in-FailUpdate.ensures ∙ ap (λ w. put w (word (codes "FAIL"))) c.in_ok-on_violation-in-FailUpdate.ensures) ∙
    ap (λ a. puts c.args.out.now (action_print a)) (sym c.in-FailUpdate.is))
