-- The rows of a store keep fitting their columns.
use Rattle.std.proofs.Common.{◌≡◌, ℕ, zero, suc, ◌+◌, ◌-◌, ◌<◌, ◌≤◌, List, [], ◌∷◌, ◌++◌, map, take, drop, Bool, true, false, ◌&&◌, cond, if◌then◌else◌, Option, Some, refl, sym, ap, subst, arith}
use Rattle.std.specs.List.{list_all}
use Rattle.std.proofs.lemmas.Bool.{and_from, and_parts}
use Rattle.std.proofs.lemmas.List.Sums.{sum_by-cons}
use Rattle.value_core.specs.declared.change.Change.{Change}
use Rattle.value_core.specs.declared.schema.Column.{Column}
use Rattle.value_core.specs.Bags.{changed, count_of, in_row_order, surplus, without}
use Rattle.value_core.specs.Order.{Row, same_row}
use Rattle.flow_model.proofs.EventTools.{row_itself, same_rows}
use Rattle.flow_kinds.proofs.FitTools.{all_append, all_in_order, both_of, head_of, some_is, tail_of}
use Rattle.net_changes.specs.Chains.{all_added, content_after}
use Rattle.commit_payloads.specs.declared.definition.Definition.{Definition}
use Rattle.state_model.specs.After.{begun, emptied, emptied_if, is_member, reset, updated}
use Rattle.state_model.specs.Dataset.{Dataset, State, changes_after, content, content_at, dataset_of, is_named}
use Rattle.state_model.specs.Follows.{all_fit, is_row_of}
use Rattle.state_model.specs.Saved.{base_for, compacted, folded_for}
use Rattle.state_steps.specs.Shapes.{is_shaped}

-- ---- what is taken out of a list, and what is among another

module _ (test : Row → Bool) where
  without_by : (x : Row) (xs rest : List Row) (b : Bool) → test x ≡ true → list_all test xs ≡ true → list_all test rest ≡ true → list_all test (if b then xs else x ∷ rest) ≡ true
  without_by x xs rest true h all r = all
  without_by x xs rest false h all r = both_of test x rest h r

  all_without : (row : Row) (xs : List Row) → list_all test xs ≡ true → list_all test (without row xs) ≡ true
  all_without row [] all = refl
  all_without row (x ∷ xs) all = without_by x xs (without row xs) (same_row row x) (head_of test x xs all) (tail_of test x xs all) (all_without row xs (tail_of test x xs all))

  pub all_surplus : (xs ys : List Row) → list_all test xs ≡ true → list_all test (surplus xs ys) ≡ true
  all_surplus xs [] all = all
  all_surplus xs (y ∷ ys) all = all_surplus (without y xs) ys (all_without y xs all)

  passes_by : (row x : Row) (n : ℕ) (b : Bool) → same_row row x ≡ b → test x ≡ true → (0 < n → test row ≡ true) → 0 < cond b 1 0 + n → test row ≡ true
  passes_by row x n true is h behind more = subst (λ r. test r ≡ true) (sym (same_rows row x is)) h
  passes_by row x n false is h behind more = behind (omega (arith, more))

  counted_passes : (row : Row) (xs : List Row) → list_all test xs ≡ true → 0 < count_of row xs → test row ≡ true
  counted_passes row [] all more = absurd (omega (arith, more))
  counted_passes row (x ∷ xs) all more =
      let whole : count_of row (x ∷ xs) ≡ cond (same_row row x) 1 0 + count_of row xs = sum_by-cons (λ y. cond (same_row row y) 1 0) x xs in
      passes_by row x (count_of row xs) (same_row row x) refl (head_of test x xs all) (counted_passes row xs (tail_of test x xs all)) (omega (arith, more, whole))

  -- rows of which none is more often there than among rows that pass
  pub all_among : (ys xs : List Row) → ((row : Row) → count_of row ys ≤ count_of row xs) → list_all test xs ≡ true → list_all test ys ≡ true
  all_among [] xs less all = refl
  all_among (y ∷ ys) xs less all =
      let here : count_of y (y ∷ ys) ≡ cond (same_row y y) 1 0 + count_of y ys = sum_by-cons (λ z. cond (same_row y z) 1 0) y ys in
      let one : ◌≡◌ {A = ℕ} (cond (same_row y y) 1 0) 1 = ap (λ (b : Bool). cond b 1 0) (row_itself y) in
      both_of test y ys (counted_passes y xs all (omega (arith, less y, here, one)))
      (all_among ys xs (λ row. let longer : count_of row (y ∷ ys) ≡ cond (same_row row y) 1 0 + count_of row ys = sum_by-cons (λ z. cond (same_row row z) 1 0) y ys in omega (arith, less row, longer)) all)

-- ---- a table through its changes

module _ (columns : List Column) where
  abbrev pub adds_fit : Change → Bool
  adds_fit change = all_fit columns change.added

  pub changed_fits : (rows : List Row) (change : Change) → all_fit columns rows ≡ true → adds_fit change ≡ true → all_fit columns (changed rows change) ≡ true
  changed_fits rows change all adds =
      all_in_order (is_row_of columns) (surplus rows change.removed ++ change.added)
      (all_append (is_row_of columns) (surplus rows change.removed) change.added (all_surplus (is_row_of columns) rows change.removed all) adds)

  pub after_fits : (rows : List Row) (changes : List Change) → all_fit columns rows ≡ true → list_all adds_fit changes ≡ true → all_fit columns (content_after rows changes) ≡ true
  after_fits rows [] all adds = all
  after_fits rows (change ∷ changes) all adds =
      after_fits (changed rows change) changes (changed_fits rows change all (head_of adds_fit change changes adds)) (tail_of adds_fit change changes adds)

  pub all_taken : (n : ℕ) (changes : List Change) → list_all adds_fit changes ≡ true → list_all adds_fit (take n changes) ≡ true
  all_taken zero changes adds = refl
  all_taken (suc n) [] adds = refl
  all_taken (suc n) (change ∷ changes) adds = both_of adds_fit change (take n changes) (head_of adds_fit change changes adds) (all_taken n changes (tail_of adds_fit change changes adds))

  pub all_dropped : (n : ℕ) (changes : List Change) → list_all adds_fit changes ≡ true → list_all adds_fit (drop n changes) ≡ true
  all_dropped zero changes adds = adds
  all_dropped (suc n) [] adds = refl
  all_dropped (suc n) (change ∷ changes) adds = all_dropped n changes (tail_of adds_fit change changes adds)

  pub added_fit : (changes : List Change) → list_all adds_fit changes ≡ true → all_fit columns (all_added changes) ≡ true
  added_fit [] adds = refl
  added_fit (change ∷ changes) adds =
      all_append (is_row_of columns) change.added (all_added changes) (head_of adds_fit change changes adds) (added_fit changes (tail_of adds_fit change changes adds))

-- ---- a dataset

module _ (d : Dataset) (shaped : is_shaped d ≡ true) where
  rows_fit : all_fit d.definition.columns d.table.rows ≡ true
  rows_fit = (and_parts (all_fit d.definition.columns d.table.rows) (list_all (adds_fit d.definition.columns) d.table.changes) shaped).0

  changes_fit : list_all (adds_fit d.definition.columns) d.table.changes ≡ true
  changes_fit = (and_parts (all_fit d.definition.columns d.table.rows) (list_all (adds_fit d.definition.columns) d.table.changes) shaped).1

  pub content_fits : all_fit d.definition.columns (content d) ≡ true
  content_fits = after_fits d.definition.columns d.table.rows d.table.changes rows_fit changes_fit

  pub version_fits : (v : ℕ) → all_fit d.definition.columns (content_at d v) ≡ true
  version_fits v = after_fits d.definition.columns d.table.rows (take (v - d.table.base) d.table.changes) rows_fit (all_taken d.definition.columns (v - d.table.base) d.table.changes changes_fit)

  pub since_fits : (v : ℕ) → all_fit d.definition.columns (all_added (changes_after d v)) ≡ true
  since_fits v = added_fit d.definition.columns (changes_after d v) (all_dropped d.definition.columns (v - d.table.base) d.table.changes changes_fit)

  -- one version more
  pub grown_shaped : (change : Change) → all_fit d.definition.columns change.added ≡ true
      → (all_fit d.definition.columns d.table.rows && list_all (adds_fit d.definition.columns) (d.table.changes ++ change ∷ [])) ≡ true
  grown_shaped change adds =
      and_from (all_fit d.definition.columns d.table.rows) (list_all (adds_fit d.definition.columns) (d.table.changes ++ change ∷ [])) rows_fit
      (all_append (adds_fit d.definition.columns) d.table.changes (change ∷ []) changes_fit (both_of (adds_fit d.definition.columns) change [] adds refl))

  pub folded_shaped : (whole : State) → is_shaped (folded_for whole d) ≡ true
  folded_shaped whole =
      and_from (all_fit d.definition.columns (content_at d (base_for whole d))) (list_all (adds_fit d.definition.columns) (changes_after d (base_for whole d))) (version_fits (base_for whole d))
      (all_dropped d.definition.columns (base_for whole d - d.table.base) d.table.changes changes_fit)

  pub emptied_shaped : is_shaped (emptied d) ≡ true
  emptied_shaped = grown_shaped (record { removed = in_row_order (content d); added = [] }) refl

-- ---- a store

begun_shaped : (list : List Definition) → list_all is_shaped (map begun list) ≡ true
begun_shaped [] = refl
begun_shaped (definition ∷ list) = begun_shaped list

pub defined_shaped : (state : State) (list : List Definition) → list_all is_shaped state ≡ true → list_all is_shaped (state ++ map begun list) ≡ true
defined_shaped state list all = all_append is_shaped state (map begun list) all (begun_shaped list)

pub fresh_shaped : (list : List Definition) → list_all is_shaped (map begun list) ≡ true
fresh_shaped list = begun_shaped list

found_by : (b : Bool) (o : Option Dataset) (x d : Dataset) → is_shaped x ≡ true → (o ≡ Some d → is_shaped d ≡ true) → cond b (Some x) o ≡ Some d → is_shaped d ≡ true
found_by true o x d h behind e = subst (λ w. is_shaped w ≡ true) (some_is x d e) h
found_by false o x d h behind e = behind e

pub found_shaped : (name : List ℕ) (state : State) (d : Dataset) → list_all is_shaped state ≡ true → dataset_of state name ≡ Some d → is_shaped d ≡ true
found_shaped name [] d all e = cc
found_shaped name (x ∷ state) d all e = found_by (is_named name x) (dataset_of state name) x d (head_of is_shaped x state all) (found_shaped name state d (tail_of is_shaped x state all)) e

updated_by : (f : Dataset → Dataset) (b : Bool) (o : Option Dataset) (x : Dataset) (state behind : State) → ((d : Dataset) → cond b (Some x) o ≡ Some d → is_shaped (f d) ≡ true) → is_shaped x ≡ true → list_all is_shaped state ≡ true
    → (((d : Dataset) → o ≡ Some d → is_shaped (f d) ≡ true) → list_all is_shaped behind ≡ true) → list_all is_shaped (if b then f x ∷ state else x ∷ behind) ≡ true
updated_by f true o x state behind keeps h all go = both_of is_shaped (f x) state (keeps x refl) all
updated_by f false o x state behind keeps h all go = both_of is_shaped x behind h (go keeps)

pub updated_shaped : (f : Dataset → Dataset) (name : List ℕ) (state : State) → ((d : Dataset) → dataset_of state name ≡ Some d → is_shaped (f d) ≡ true) → list_all is_shaped state ≡ true → list_all is_shaped (updated name f state) ≡ true
updated_shaped f name [] keeps all = refl
updated_shaped f name (x ∷ state) keeps all =
    updated_by f (is_named name x) (dataset_of state name) x state (updated name f state) keeps (head_of is_shaped x state all) (tail_of is_shaped x state all) (λ g. updated_shaped f name state g (tail_of is_shaped x state all))

emptied_by : (names : List (List ℕ)) (d : Dataset) (b : Bool) → is_shaped d ≡ true → is_shaped (if b then emptied d else d) ≡ true
emptied_by names d true shaped = emptied_shaped d shaped
emptied_by names d false shaped = shaped

pub reset_shaped : (names : List (List ℕ)) (state : State) → list_all is_shaped state ≡ true → list_all is_shaped (reset names state) ≡ true
reset_shaped names [] all = refl
reset_shaped names (d ∷ state) all =
    both_of is_shaped (emptied_if names d) (reset names state) (emptied_by names d (is_member names d) (head_of is_shaped d state all)) (reset_shaped names state (tail_of is_shaped d state all))

compacted_by : (whole state : State) → list_all is_shaped state ≡ true → list_all is_shaped (map (folded_for whole) state) ≡ true
compacted_by whole [] all = refl
compacted_by whole (d ∷ state) all = both_of is_shaped (folded_for whole d) (map (folded_for whole) state) (folded_shaped d (head_of is_shaped d state all) whole) (compacted_by whole state (tail_of is_shaped d state all))

pub compacted_shaped : (state : State) → list_all is_shaped state ≡ true → list_all is_shaped (compacted state) ≡ true
compacted_shaped state all = compacted_by state state all
