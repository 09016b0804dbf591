use Rattle.std.proofs.Common.{sym, subst}
use Rattle.net_changes.specs.Chains.{Follow}
use Rattle.table_versions.proofs.ContentLemmas.{follow_take}
use Rattle.table_versions.proofs.table.Table.content.Goals as goal

pub content_of-requires-clause-follow : goal.content_of-requires-clause-follow
content_of-requires-clause-follow g c =
    let rows = c.self.inside.rows in
    let follow = subst (λ changes. Follow rows changes) (sym c.as_slice.ensures.value) c.self.invariant.follow in
    subst (λ changes. Follow rows changes) (sym c.split_at.ensures.front) (follow_take c.in-Some.place rows c.as_slice.result.now follow)
