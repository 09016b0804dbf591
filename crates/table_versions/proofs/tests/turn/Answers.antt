use Rattle.std.proofs.Common.{◌≡◌, sym, ap, ◌∙◌, subst}
use Rattle.value_core.specs.Bags.{net_change}
use Rattle.value_core.specs.Changes.{IsChange, Holds}
use Rattle.value_core.proofs.ChangeLemmas.{net_form}
use Rattle.table_versions.specs.Versions.{content_at, content_now}
use Rattle.table_versions.proofs.ContentLemmas.{net_held}
use Rattle.table_versions.proofs.VersionLemmas.{last_content}
use Rattle.table_versions.proofs.tests.turn.Goals as goal

pub apply-requires-clause-form : goal.apply-requires-clause-form
apply-requires-clause-form g c = subst IsChange (sym c.in_ok-change.ensures) (net_form c.in_ok-old.old c.args.rows)

pub apply-requires-clause-there : goal.apply-requires-clause-there
apply-requires-clause-there g c =
    let table = c.args.table.now in
    let was : c.in_ok-old.old ≡ content_now table = c.in_ok-old.ensures.content ∙ ap (content_at table) c.now-now.ensures.now ∙ last_content table in
    subst (λ change. Holds (content_now table) change.removed) (sym c.in_ok-change.ensures) (subst (λ rows. Holds rows (net_change c.in_ok-old.old c.args.rows).removed) was (net_held c.in_ok-old.old c.args.rows))
