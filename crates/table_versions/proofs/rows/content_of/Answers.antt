use Rattle.std.proofs.Common.{◌≡◌, ◌++◌, ap, ◌∙◌}
use Rattle.value_core.specs.Bags.{in_row_order, surplus}
use Rattle.net_changes.specs.Chains.{all_added}
use Rattle.table_versions.proofs.ContentLemmas.{content_left}
use Rattle.table_versions.proofs.rows.content_of.Goals as goal

pub returns : goal.returns
returns c =
    let rows = c.args.rows.now in
    let changes = c.args.changes.now in
    let there : c.put_added.new.into ≡ rows ++ all_added changes = c.in_ok-put_added.ensures ∙ ap (λ list. list ++ all_added changes) c.in_ok-there.ensures in
    ap (λ change. change.added) c.in_ok-added.ensures ∙ (λ i. in_row_order (surplus (there i) (c.in_ok-gone.ensures i))) ∙ content_left rows changes c.requires.order c.requires.follow
