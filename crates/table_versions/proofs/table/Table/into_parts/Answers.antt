use Rattle.std.proofs.Common.{◌+◌, ◌<◌, ◌≤◌, ◌^◌, length, sym, subst}
use Rattle.net_changes.specs.Chains.{Follow}
use Rattle.table_versions.proofs.table.Table.into_parts.Goals as goal

pub returns-clause-follow : goal.returns-clause-follow
returns-clause-follow c = subst (λ changes. Follow c.self.inside.rows changes) (sym c.from_vec.ensures) c.self.invariant.follow

pub returns-clause-limit : goal.returns-clause-limit
returns-clause-limit c = subst (λ changes. 0 < length changes → c.self.inside.base + length changes ≤ 2 ^ 62) (sym c.from_vec.ensures) c.self.invariant.limit
