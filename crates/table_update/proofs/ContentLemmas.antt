-- The rows of a dataset with one change more.
use Rattle.std.proofs.Common.{◌≡◌, ◌+◌, List, [], ◌∷◌, ◌++◌, cond, refl, sym, ap, ◌∙◌, IsPermutation}
use Rattle.std.proofs.lemmas.List.{map-append}
use Rattle.std.proofs.lemmas.List.Concat.{flat_map_single}
use Rattle.std.proofs.lemmas.List.Sums.{sum_by-append}
use Rattle.value_core.specs.declared.change.Change.{Change}
use Rattle.value_core.specs.declared.cursor.FilePlace.{FilePlace}
use Rattle.value_core.specs.Bags.{SameBag, changed, count_of, in_row_order}
use Rattle.value_core.specs.Order.{Row, same_row}
use Rattle.value_core.proofs.BagLemmas.{count-in_row_order}
use Rattle.landing_core.specs.declared.landing.LandingFile.{LandingFile}
use Rattle.landing_history.specs.Taken.{LandedLine, taken}
use Rattle.landing_history.proofs.HistoryLemmas.{one_bag}
use Rattle.store_state.specs.State.{Dataset}
use Rattle.table_update.specs.declared.table.AppendTable.{AppendTable}
use Rattle.table_update.specs.Stands.{content, rows_after, rows_up_to}
use Rattle.table_update.specs.Table.{row_of_line, rows_of}

-- the change by which rows are added
abbrev pub addition : List Row → Change
addition added = record { removed = []; added = added }

rows_more : (rows : List Row) (changes : List Change) (change : Change) → rows_after rows (changes ++ change ∷ []) ≡ changed (rows_after rows changes) change
rows_more rows [] change = refl
rows_more rows (first ∷ changes) change = rows_more (changed rows first) changes change

count_both : (row : Row) (xs ys : List Row) → count_of row (xs ++ ys) ≡ count_of row xs + count_of row ys
count_both row xs ys = sum_by-append (λ x. cond (same_row row x) 1 0) xs ys

-- lines in another order give one bag of rows
pub rows_bag : (table : AppendTable) (lines others : List LandedLine) → IsPermutation lines others → SameBag (rows_of table lines) (rows_of table others)
rows_bag table lines others moved row =
    ap (count_of row) (sym (flat_map_single (row_of_line table) lines))
    ∙ one_bag (λ line. row_of_line table line ∷ []) lines others moved row
    ∙ ap (count_of row) (flat_map_single (row_of_line table) others)

-- the lines of a table's folder up to these places
abbrev pub taken_by : AppendTable → List LandingFile → List FilePlace → List LandedLine
taken_by table ever places = taken table.shape.format table.shape.header table.folder ever places

-- rows up to some places stay so where the rows of the lines behind them are added
pub content_more : (table : AppendTable) (ever : List LandingFile) (dataset : Dataset) (places reached : List FilePlace) (lines : List LandedLine)
    → SameBag (content dataset) (rows_up_to table ever places)
    → IsPermutation (taken_by table ever places ++ lines) (taken_by table ever reached)
    → SameBag (rows_after dataset.rows (dataset.changes ++ addition (in_row_order (rows_of table lines)) ∷ [])) (rows_up_to table ever reached)
content_more table ever dataset places reached lines held moved row =
    let before = rows_of table (taken_by table ever places) in
    let new = rows_of table lines in
    let sorted = in_row_order new in
    ap (count_of row) (rows_more dataset.rows dataset.changes (addition sorted))
    ∙ count-in_row_order row (content dataset ++ sorted)
    ∙ count_both row (content dataset) sorted
    ∙ (λ i. held row i + count-in_row_order row new i)
    ∙ sym (count_both row before new)
    ∙ ap (count_of row) (sym (map-append (row_of_line table) (taken_by table ever places) lines))
    ∙ rows_bag table (taken_by table ever places ++ lines) (taken_by table ever reached) moved row
