use Rattle.std.proofs.Common.{◌≡◌, ◌-◌, length, take, sym, subst, ap, ◌∙◌, vec_len, arith}
use Rattle.table_versions.specs.Versions.{versions_of, IsTable}
use Rattle.table_versions.proofs.VersionLemmas.{table_shrinks}
use Rattle.table_versions.proofs.table.Table.take_back.Goals as goal

pub invariant_of-self : goal.invariant_of-self
invariant_of-self c =
    let items = c.self.inside.changes.items in
    let lengths : vec_len c.self.inside.changes - 1 ≡ length items - 1 = omega (arith, c.self.inside.changes.ok.0) in
    let left : c.pop.new.self.items ≡ take (length items - 1) items = c.pop.ensures.rest ∙ ap (λ n. take n items) lengths in
    subst (λ changes. IsTable (versions_of c.self.inside.base c.self.inside.rows changes)) (sym left) (table_shrinks (versions_of c.self.inside.base c.self.inside.rows items) c.self.invariant)
