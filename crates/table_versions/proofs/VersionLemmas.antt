-- The versions of a table.
use Rattle.std.proofs.Common.{◌≡◌, ℕ, zero, suc, ◌+◌, ◌-◌, ◌<◌, ◌≤◌, ◌^◌, List, [], ◌∷◌, ◌++◌, length, take, drop, refl, sym, ◌∙◌, ap, subst, arith, length-append}
use Rattle.std.proofs.lemmas.List.{length-take-le, length-drop, take_at, take_all, take-append-le, drop-drop}
use Rattle.value_core.specs.declared.change.Change.{Change}
use Rattle.value_core.specs.Bags.{IsInOrder, changed}
use Rattle.value_core.specs.Changes.{IsChange, Holds}
use Rattle.value_core.specs.Order.{Row}
use Rattle.net_changes.specs.Chains.{content_after, Follow}
use Rattle.table_versions.specs.Versions.{Versions, versions_of, now_of, IsKept, IsTable, content_at, content_now, changes_since, grown, shrunk, folded}
use Rattle.table_versions.specs.Laws.{KeepsLater, Leads}
use Rattle.table_versions.proofs.ContentLemmas.{content_order, content-append, follow_take, follow_drop, follow_more}

-- ---- the form stays

pub table_grows : (table : Versions) (change : Change) → IsTable table → IsChange change → Holds (content_now table) change.removed → now_of table < 2 ^ 62 → IsTable (grown table change)
table_grows table change is form there less = record {
  order = is.order;
  follow = follow_more table.rows table.changes change is.follow form there;
  limit = λ some. omega (arith, less, length-append table.changes (change ∷ []));
}

pub table_shrinks : (table : Versions) → IsTable table → IsTable (shrunk table)
table_shrinks table is = record {
  order = is.order;
  follow = follow_take (length table.changes - 1) table.rows table.changes is.follow;
  limit = λ some. limit_before table.base (length table.changes) (length (take (length table.changes - 1) table.changes)) (length-take-le (length table.changes - 1) table.changes (omega arith)) some is.limit;
}
  where
    limit_before : (base n m : ℕ) → m ≡ n - 1 → 0 < m → (0 < n → base + n ≤ 2 ^ 62) → base + m ≤ 2 ^ 62
    limit_before base zero m e some limit = absurd (omega arith)
    limit_before base (suc n) m e some limit = let whole = limit (omega arith) in omega arith

pub table_folds : (table : Versions) (to : ℕ) → IsTable table → IsKept table to → IsTable (folded table to)
table_folds table to is kept = record {
  order = content_order table.rows (take (to - table.base) table.changes) is.order;
  follow = follow_drop (to - table.base) table.rows table.changes is.follow;
  limit = λ some. limit_after table.base to (length table.changes) (length (drop (to - table.base) table.changes)) (length-drop (to - table.base) table.changes) kept some is.limit;
}
  where
    limit_after : (base to n m : ℕ) → m ≡ n - (to - base) → (base ≤ to) × (to ≤ base + n) → 0 < m → (0 < n → base + n ≤ 2 ^ 62) → to + m ≤ 2 ^ 62
    limit_after base to zero m e kept some limit = absurd (omega arith)
    limit_after base to (suc n) m e kept some limit = let whole = limit (omega arith) in omega (arith, kept.0, kept.1)

-- ---- a fold keeps what is later

take_nothing : (n : ℕ) → ◌≡◌ {A = List Change} (take n []) []
take_nothing zero = refl
take_nothing (suc n) = refl

take_two : (k j : ℕ) (changes : List Change) → take k changes ++ take j (drop k changes) ≡ take (k + j) changes
take_two zero j changes = let e : j ≡ 0 + j = omega arith in ap (λ n. take n changes) e
take_two (suc k) j [] = take_nothing j ∙ sym (take_nothing (suc k + j))
take_two (suc k) j (change ∷ changes) =
    let e : suc (k + j) ≡ suc k + j = omega arith in
    ap (λ rest. change ∷ rest) (take_two k j changes) ∙ ap (λ n. take n (change ∷ changes)) e

pub keeps_later : (table : Versions) (to : ℕ) → IsKept table to → KeepsLater table to
keeps_later table to kept = record {
  now = omega (arith, length-drop (to - table.base) table.changes, kept.0, kept.1);
  content = λ version later.
      let places : (to - table.base) + (version - to) ≡ version - table.base = omega (arith, kept.0, later) in
      sym (content-append table.rows (take (to - table.base) table.changes) (take (version - to) (drop (to - table.base) table.changes)))
      ∙ ap (content_after table.rows) (take_two (to - table.base) (version - to) table.changes)
      ∙ ap (λ k. content_after table.rows (take k table.changes)) places;
  since = λ version later.
      let places : (to - table.base) + (version - to) ≡ version - table.base = omega (arith, kept.0, later) in
      drop-drop (version - to) (to - table.base) table.changes ∙ ap (λ k. drop k table.changes) places;
}

-- ---- a change leads on

pub leads : (table : Versions) (change : Change) → Leads table change
leads table change =
    let one : length (change ∷ []) ≡ 1 = refl in
    record {
      next = omega (arith, length-append table.changes (change ∷ []), one);
      content = content-append table.rows table.changes (change ∷ []);
      before = λ version early. ap (content_after table.rows) (take-append-le (version - table.base) table.changes (change ∷ []) (omega (arith, early)));
      back =
          let last : length table.changes ≡ length (table.changes ++ change ∷ []) - 1 = omega (arith, length-append table.changes (change ∷ []), one) in
          ap (versions_of table.base table.rows) (take_at table.changes (change ∷ []) (length (table.changes ++ change ∷ []) - 1) last);
    }

-- ---- one content a version

pub version_order : (table : Versions) (version : ℕ) → IsTable table → IsInOrder (content_at table version)
version_order table version is = content_order table.rows (take (version - table.base) table.changes) is.order

pub last_content : (table : Versions) → content_at table (now_of table) ≡ content_now table
last_content table = ap (content_after table.rows) (take_all (now_of table - table.base) table.changes (omega arith))

pub first_content : (table : Versions) → content_at table table.base ≡ table.rows
first_content table =
    let none : table.base - table.base ≡ 0 = omega arith in ap (λ k. content_after table.rows (take k table.changes)) none
