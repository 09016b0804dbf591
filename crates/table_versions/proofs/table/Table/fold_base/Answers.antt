use Rattle.std.proofs.Common.{◌≡◌, ◌-◌, take, drop, sym, subst, ap, ◌∙◌}
use Rattle.net_changes.specs.Chains.{Follow, content_after}
use Rattle.table_versions.specs.Versions.{versions_of, IsTable, IsKept}
use Rattle.table_versions.proofs.ContentLemmas.{follow_take}
use Rattle.table_versions.proofs.VersionLemmas.{table_folds}
use Rattle.table_versions.proofs.table.Table.fold_base.Goals as goal

pub content_of-requires-clause-follow : goal.content_of-requires-clause-follow
content_of-requires-clause-follow g c =
    let rows = c.self.inside.rows in
    let follow = subst (λ changes. Follow rows changes) (sym c.as_slice.ensures.value) c.self.invariant.follow in
    subst (λ changes. Follow rows changes) (sym c.split_at.ensures.front) (follow_take c.in-Some.place rows c.as_slice.result.now follow)

pub invariant_of-result : goal.invariant_of-result
invariant_of-result g c =
    let base = c.self.inside.base in
    let rows = c.self.inside.rows in
    let items = c.self.inside.changes.items in
    let to = c.args.to in
    let was = versions_of base rows items in
    let kept : IsKept was to = subst (λ t. IsKept t to) (sym c.self.view_is) c.in-Some.ensures.0 in
    let place : c.in-Some.place ≡ to - base = c.in-Some.ensures.1 ∙ ap (λ t. to - t.base) (sym c.self.view_is) in
    let before : c.split_at.result.0.now ≡ take (to - base) items = c.split_at.ensures.front ∙ (λ i. take (place i) (c.as_slice.ensures.value i)) in
    let after : c.split_at.result.1.now ≡ drop (to - base) items = c.split_at.ensures.back ∙ (λ i. drop (place i) (c.as_slice.ensures.value i)) in
    let content : c.in_ok-rows.rows ≡ content_after rows (take (to - base) items) = c.in_ok-rows.ensures ∙ ap (content_after rows) before in
    let later : c.into_vec.result.items ≡ drop (to - base) items = c.into_vec.ensures ∙ c.in_ok-changes.ensures ∙ after in
    subst IsTable (sym (λ i. versions_of to (content i) (later i))) (table_folds was to c.self.invariant kept)
