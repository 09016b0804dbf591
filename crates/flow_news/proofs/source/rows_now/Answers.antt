use Rattle.std.proofs.Common.{sym, ◌∙◌, subst}
use Rattle.value_core.specs.Bags.{IsInOrder}
use Rattle.table_versions.specs.Versions.{content_now}
use Rattle.flow_news.proofs.SortedLemmas.{stays}
use Rattle.flow_news.proofs.source.rows_now.Goals as goal

pub returns-in-Ok-clause-rows : goal.returns-in-Ok-clause-rows
returns-in-Ok-clause-rows g c =
    let table = c.args.table.now in
    let last = c.a_version_has_one_content.ensures.last table in
    let order = c.a_version_has_one_content.ensures.order table c.now.result c.now.ensures.form in
    let content = rw c.now.ensures.now at c.in-Ok.ensures.content in
    let sorted = subst IsInOrder last (rw c.now.ensures.now at order) in content ∙ last ∙ sym (stays (content_now table) sorted)
