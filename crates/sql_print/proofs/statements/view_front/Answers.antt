use Rattle.std.proofs.Common.{◌∙◌, ap}
use Rattle.std.specs.Prelude.{codes}
use Rattle.sql_tree.specs.Print.{word, name}
use Rattle.sql_print.specs.Writing.{put}
use Rattle.sql_print.proofs.PutLemmas.{ends}
use Rattle.sql_print.proofs.statements.view_front.Goals as goal

pub returns : goal.returns
returns c = ends _ _ _ _ c.name.ensures
    (ap (λ w. put w (name c.args.name.now)) (c.in_ok-word-2.ensures ∙ ap (λ w. put w (word (codes "VIEW"))) (c.in_ok-word.ensures ∙ ap (λ w. put w (word (codes "MATERIALIZED"))) c.in_ok-create.ensures)))
