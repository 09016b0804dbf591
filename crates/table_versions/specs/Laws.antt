-- How the versions of a table hang together.
use Rattle.std.specs.Prelude.{◌≡◌, ℕ, ◌+◌, ◌≤◌}
use Rattle.value_core.specs.declared.change.Change.{Change}
use Rattle.value_core.specs.Bags.{changed}
use Rattle.table_versions.specs.Versions.{Versions, IsKept, content_at, content_now, changes_since, now_of, grown, shrunk, folded}

-- from the new base on, a folded table has the contents and the changes that it had
pub record KeepsLater (table : Versions) (to : ℕ) : Type 0 where
  pub now : now_of (folded table to) ≡ now_of table
  pub content : (version : ℕ) → to ≤ version → content_at (folded table to) version ≡ content_at table version
  pub since : (version : ℕ) → to ≤ version → changes_since (folded table to) version ≡ changes_since table version

-- a change leads from the version now to the next, and the versions before stay as they were
pub record Leads (table : Versions) (change : Change) : Type 0 where
  pub next : now_of (grown table change) ≡ now_of table + 1
  pub content : content_now (grown table change) ≡ changed (content_now table) change
  pub before : (version : ℕ) → version ≤ now_of table → content_at (grown table change) version ≡ content_at table version
  pub back : shrunk (grown table change) ≡ table
