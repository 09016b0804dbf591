use Rattle.std.proofs.Common.{◌<◌, ◌^◌, sym, subst}
use Rattle.value_core.specs.Changes.{Holds}
use Rattle.table_versions.specs.Versions.{versions_of, IsTable, content_now, now_of}
use Rattle.table_versions.proofs.VersionLemmas.{table_grows}
use Rattle.table_versions.proofs.table.Table.apply.Goals as goal

pub invariant_of-self-2 : goal.invariant_of-self-2
invariant_of-self-2 c =
    let was = versions_of c.self.inside.base c.self.inside.rows c.self.inside.changes.items in
    let there : Holds (content_now was) c.args.change.removed = subst (λ t. Holds (content_now t) c.args.change.removed) (sym c.self.view_is) c.requires.there in
    let less : now_of was < 2 ^ 62 = subst (λ t. now_of t < 2 ^ 62) (sym c.self.view_is) c.requires.limit in
    subst (λ changes. IsTable (versions_of c.self.inside.base c.self.inside.rows changes)) (sym c.in_ok-push.ensures.items) (table_grows was c.args.change c.self.invariant c.requires.form there less)
