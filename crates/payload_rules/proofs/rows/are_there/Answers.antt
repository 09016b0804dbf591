use Rattle.std.proofs.Common.{◌↔◌, ap, ◌∙◌, subst}
use Rattle.std.specs.Prelude.{IsTrue}
use Rattle.table_versions.specs.Versions.{content_at}
use Rattle.value_core.specs.Changes.{Holds}
use Rattle.payload_rules.proofs.rows.are_there.Goals as goal

pub returns-in_ok-are-in-Ok : goal.returns-in_ok-are-in-Ok
returns-in_ok-are-in-Ok g c =
    subst (λ rows. IsTrue c.in_ok-are-in-Ok.are ↔ Holds rows c.args.rows.now) (c.in-Ok.ensures.content ∙ ap (content_at c.args.table.now) c.now.ensures.now ∙ c.a_version_has_one_content.ensures.last c.args.table.now) c.in_ok-are-in-Ok.ensures
