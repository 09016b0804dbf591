-- Rows in row order.
use Rattle.std.proofs.Common.{◌≡◌, ℕ, zero, suc, ◌+◌, ◌<◌, true, false, cond, List, [], ◌∷◌, ◌++◌, length, drop, get_or, append_assoc, refl, sym, ap, ◌∙◌, subst, arith}
use Rattle.std.specs.declared.cmp.Ordering.{Ordering}
use Rattle.std.specs.declared.cmp.Ordering.TheVariants.{Less, Equal, Greater}
use Rattle.std.specs.Prelude.{slice_get, slice_index_or}
use Rattle.std.specs.List.{list_all}
use Rattle.std.specs.Ordering.{is_gt, is_lt, ordering_reverse}
use Rattle.std.specs.List.Sorted.{IsSorted, IsPermutation}
use Rattle.std.proofs.lemmas.Bool.{and_from, and_parts}
use Rattle.std.proofs.lemmas.List.{drop_more}
use Rattle.std.proofs.lemmas.List.Sorted.{All-permutation, sum_by-IsPermutation}
use Rattle.std.proofs.lemmas.List.Sums.{AllPass-from_list_all, list_all-from_AllPass}
use Rattle.value_core.specs.declared.schema.Column.{Column}
use Rattle.value_core.specs.declared.value.Kind.{Kind}
use Rattle.value_core.specs.declared.value.Kind.TheVariants as kind
use Rattle.value_core.specs.declared.value.Value.TheVariants.{Null}
use Rattle.value_core.specs.Fits.{value_fits}
use Rattle.value_core.specs.Bags.{IsInOrder, SameBag, in_row_order}
use Rattle.value_core.specs.Order.{Row, row_order, same_row}
use Rattle.value_core.specs.OrderLaws.{row_order_total}
use Rattle.value_core.proofs.BagLemmas.{count-in_row_order, least-below, one_order, order-in_row_order}
use Rattle.landing_core.specs.declared.lines.FreshLine.{FreshLine}
use Rattle.landing_history.specs.Taken.{with_heads}
use Rattle.line_rows.specs.Lines.{row_of}
use Rattle.store_state.specs.Follows.{all_fit, is_row_of}
use Rattle.table_update.specs.declared.table.AppendTable.{AppendTable}
use Rattle.table_update.specs.declared.table.Output.{Output}
use Rattle.table_update.specs.Table.{columns_of, head_given, is_column_of, is_of_kind, rows_of, same_kind, selected}

-- ---- a sort leaves the rows in row order

turned_below : (r s : Ordering) → s ≡ ordering_reverse r → is_lt r ≡ false → is_gt s ≡ false
turned_below Less s e h = cc
turned_below Equal s e h = ap is_gt e
turned_below Greater s e h = ap is_gt e

not_below : (x y : Row) → is_lt (row_order y x) ≡ false → is_gt (row_order x y) ≡ false
not_below x y h = turned_below (row_order y x) (row_order x y) (row_order_total.antisymm x y) h

sorted-tail : (x : Row) (xs : List Row) → IsSorted row_order (x ∷ xs) → IsSorted row_order xs
sorted-tail x xs sorted k d low high =
    subst (λ (n : ℕ). is_lt (row_order (get_or (x ∷ xs) n d) (get_or (x ∷ xs) (suc k) d)) ≡ false) (let next : suc k + 1 ≡ suc (k + 1) = omega arith in next) (sorted (suc k) d (omega arith) (omega arith))

order-from_sorted : (xs : List Row) → IsSorted row_order xs → IsInOrder xs
order-from_sorted [] sorted = tt
order-from_sorted (x ∷ []) sorted = (tt, tt)
order-from_sorted (x ∷ y ∷ ys) sorted =
    let rest = order-from_sorted (y ∷ ys) (sorted-tail x (y ∷ ys) sorted) in
    let first : is_gt (row_order x y) ≡ false = not_below x y (sorted 0 x (omega arith) (omega arith)) in
    ((first, least-below x y ys first rest.0), rest)

bag-from_permutation : (xs ys : List Row) → IsPermutation xs ys → SameBag xs ys
bag-from_permutation xs ys moved row = sym (sum_by-IsPermutation (λ x. cond (same_row row x) 1 0) xs ys moved)

pub sorted_is : (xs ys : List Row) → IsSorted row_order ys → IsPermutation xs ys → ys ≡ in_row_order xs
sorted_is xs ys sorted moved =
    one_order ys (in_row_order xs) (order-from_sorted ys sorted) (order-in_row_order xs) (λ a. sym (bag-from_permutation xs ys moved a) ∙ sym (count-in_row_order a xs))

-- ---- and they fit as before

pub permuted_fit : (columns : List Column) (xs ys : List Row) → IsPermutation xs ys → all_fit columns xs ≡ true → all_fit columns ys ≡ true
permuted_fit columns xs ys moved fit =
    list_all-from_AllPass (is_row_of columns) ys (All-permutation (λ row. is_row_of columns row ≡ true) xs ys moved (AllPass-from_list_all (is_row_of columns) xs fit))

-- one row more
pub more_fit : (columns : List Column) (rows : List Row) (row : Row) → all_fit columns rows ≡ true → is_row_of columns row ≡ true
    → all_fit columns (rows ++ row ∷ []) ≡ true
more_fit columns [] row fit is = rw is refl
more_fit columns (first ∷ rows) row fit is =
    let both = and_parts (is_row_of columns first) (all_fit columns rows) fit in
    and_from (is_row_of columns first) (all_fit columns (rows ++ row ∷ [])) both.0 (more_fit columns rows row both.1 is)

-- ---- what outputs take of a row fits their columns

same_kinds : (a b : Kind) → same_kind a b ≡ true → a ≡ b
same_kinds kind.Bool kind.Bool same = refl
same_kinds kind.Int kind.Int same = refl
same_kinds kind.Big kind.Big same = refl
same_kinds kind.Str kind.Str same = refl
same_kinds one other same = absurd (cc same)

pub same_kind_itself : (a : Kind) → same_kind a a ≡ true
same_kind_itself kind.Bool = refl
same_kind_itself kind.Int = refl
same_kind_itself kind.Big = refl
same_kind_itself kind.Str = refl

-- the value at the place of a column that is of this kind
place_fits : (columns : List Column) (row : Row) (place : ℕ) (wanted : Kind) → is_row_of columns row ≡ true → is_of_kind (slice_get columns place) wanted ≡ true
    → value_fits wanted (slice_index_or row place Null) ≡ true
place_fits [] row place wanted fits is = absurd (cc is)
place_fits (column ∷ columns) [] place wanted fits is = absurd (cc fits)
place_fits (column ∷ columns) (value ∷ row) zero wanted fits is =
    let both = and_parts (value_fits column.kind value) (is_row_of columns row) fits in
    subst (λ k. value_fits k value ≡ true) (same_kinds column.kind wanted is) both.0
place_fits (column ∷ columns) (value ∷ row) (suc place) wanted fits is =
    let both = and_parts (value_fits column.kind value) (is_row_of columns row) fits in
    place_fits columns row place wanted both.1 is

pub selected_fits : (columns : List Column) (row : Row) (outputs : List Output) → is_row_of columns row ≡ true → list_all (is_column_of columns) outputs ≡ true
    → is_row_of (columns_of outputs) (selected outputs row) ≡ true
selected_fits columns row [] fits all = refl
selected_fits columns row (output ∷ outputs) fits all =
    let both = and_parts (is_column_of columns output) (list_all (is_column_of columns) outputs) all in
    and_from (value_fits output.column.kind (slice_index_or row output.place Null)) (is_row_of (columns_of outputs) (selected outputs row))
    (place_fits columns row output.place output.column.kind fits both.0) (selected_fits columns row outputs fits both.1)

-- ---- rows in the order of their lines

-- the rows so far and those of the lines that are left are those of all
pub rows_more : (table : AppendTable) (heads : List (List ℕ)) (lines : List FreshLine) (i : ℕ) (line : FreshLine) (rows all : List Row) (row : Row)
    → i < length lines → line ≡ get_or lines i line
    → row ≡ selected table.outputs (row_of table.shape (head_given table.shape (slice_index_or heads line.file [])) line.line) → rows ++ rows_of table (with_heads heads (drop i lines)) ≡ all
    → (rows ++ row ∷ []) ++ rows_of table (with_heads heads (drop (i + 1) lines)) ≡ all
rows_more table heads lines i line rows all row below is row_is so_far =
    let rest = rows_of table (with_heads heads (drop (i + 1) lines)) in
    let split : drop i lines ≡ line ∷ drop (i + 1) lines = subst (λ y. drop i lines ≡ y ∷ drop (i + 1) lines) (sym is) (drop_more lines i line below) in
    let step : row ∷ rest ≡ rows_of table (with_heads heads (drop i lines)) = ap (λ first. first ∷ rest) row_is ∙ sym (ap (λ left. rows_of table (with_heads heads left)) split) in
    append_assoc rows (row ∷ []) rest ∙ ap (λ behind. rows ++ behind) step ∙ so_far
