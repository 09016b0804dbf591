use Rattle.std.proofs.Common.{◌≡◌, ◌-◌, drop, sym, subst, ap, ◌∙◌}
use Rattle.value_core.specs.Bags.{net_change}
use Rattle.net_changes.specs.Chains.{all_removed, all_added}
use Rattle.table_versions.specs.Versions.{content_at, content_now}
use Rattle.table_versions.proofs.ContentLemmas.{net_later}
use Rattle.table_versions.proofs.table.Table.net.Goals as goal

pub returns-clause-net : goal.returns-clause-net
returns-clause-net g c =
    let base = c.self.inside.base in
    let items = c.self.inside.changes.items in
    let version = c.args.version in
    let place : c.in-Some.place ≡ version - base = c.in-Some.ensures.1 ∙ ap (λ t. version - t.base) (sym c.self.view_is) in
    let after : c.split_at.result.1.now ≡ drop (version - base) items = c.split_at.ensures.back ∙ (λ i. drop (place i) (c.as_slice.ensures.value i)) in
    subst (λ t. c.in_ok-change.change ≡ net_change (content_at t version) (content_now t)) c.self.view_is
    (c.in_ok-change.ensures ∙ (λ i. net_change (all_removed (after i)) (all_added (after i))) ∙ net_later (version - base) c.self.inside.rows items c.self.invariant.follow)
