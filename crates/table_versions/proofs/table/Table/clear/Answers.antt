use Rattle.std.proofs.Common.{◌≡◌, ◌<◌, ◌^◌, [], ◌∷◌, ◌++◌, sym, subst, ap, ◌∙◌, arith}
use Rattle.value_core.specs.Bags.{IsInOrder, in_row_order}
use Rattle.value_core.specs.Changes.{Holds, change_of}
use Rattle.net_changes.specs.Chains.{content_after}
use Rattle.table_versions.specs.Versions.{versions_of, IsTable, content_now, grown, now_of}
use Rattle.table_versions.proofs.ContentLemmas.{clearing, content_order, ordered_is}
use Rattle.table_versions.proofs.VersionLemmas.{table_grows}
use Rattle.table_versions.proofs.table.Table.clear.Goals as goal

order : (c : goal.In_ok-push) → IsInOrder (content_after c.self.inside.rows c.self.inside.changes.items)
order c = content_order c.self.inside.rows c.self.inside.changes.items c.self.invariant.order

items : (c : goal.In_ok-push) → c.push.new.self.items ≡ c.self.inside.changes.items ++ change_of (content_after c.self.inside.rows c.self.inside.changes.items) [] ∷ []
items c =
    let removed : c.in_ok-removed.removed ≡ content_after c.self.inside.rows c.self.inside.changes.items = c.in_ok-removed.ensures ∙ ap (content_after c.self.inside.rows) c.as_slice.ensures.value in
    c.in_ok-push.ensures.items ∙ (λ i. c.self.inside.changes.items ++ change_of (removed i) (c.new-added.ensures i) ∷ [])

pub invariant_of-self-2 : goal.invariant_of-self-2
invariant_of-self-2 c =
    let base = c.self.inside.base in
    let rows = c.self.inside.rows in
    let changes = c.self.inside.changes.items in
    let content = content_after rows changes in
    let there : Holds content content = λ row. omega arith in
    let less : now_of (versions_of base rows changes) < 2 ^ 62 = subst (λ t. now_of t < 2 ^ 62) (sym c.self.view_is) c.requires in
    subst (λ list. IsTable (versions_of base rows list)) (sym (items c)) (table_grows (versions_of base rows changes) (change_of content []) c.self.invariant (clearing content (order c)) there less)

pub returns-clause-ok : goal.returns-clause-ok
returns-clause-ok c =
    let table = versions_of c.self.inside.base c.self.inside.rows c.self.inside.changes.items in
    ap (versions_of c.self.inside.base c.self.inside.rows) (items c)
    ∙ ap (λ rows. grown table (change_of rows [])) (sym (ordered_is (content_now table) (order c)))
    ∙ ap (λ t. grown t (change_of (in_row_order (content_now t)) [])) c.self.view_is
