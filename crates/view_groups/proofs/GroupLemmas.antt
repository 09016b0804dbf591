-- The cells of a group, one after another.
use Rattle.std.proofs.Common.{◌≡◌, ℕ, zero, suc, ◌+◌, ◌<◌, ◌≤◌, List, [], ◌∷◌, ◌++◌, length, map, filter_map, Option, Some, None, Ok, Err, ℤ, length-append, ⊎_elim, refl, sym, ap, ◌∙◌, subst, arith}
use Rattle.std.specs.List.{slice_index_or, enumerate_from}
use Rattle.std.proofs.lemmas.Bool.{cases_lt}
use Rattle.plan_core.specs.declared.query.Item.{Item}
use Rattle.value_core.specs.Order.{Row}
use Rattle.value_core.specs.declared.value.Value.{Value}
use Rattle.value_core.specs.declared.value.Value.TheVariants.{Null}
use Rattle.plan_core.specs.declared.stop.Stop.{Stop}
use Rattle.plan_core.specs.declared.stop.Stop.TheVariants.{SumOverflow}
use Rattle.flow_model.specs.Views.{Share, known_values, total, item_value, sum_stop, first_of}
use Rattle.view_groups.specs.declared.cell.Cell.{Cell}
use Rattle.view_groups.specs.declared.group.Group.{Group}
use Rattle.view_groups.specs.declared.cell.GroupEnd.{GroupEnd}
use Rattle.view_groups.specs.declared.cell.GroupEnd.TheVariants as end
use Rattle.view_groups.specs.Cells.{KeepsCell, CellAnswers}
use Rattle.view_groups.specs.Groups.{KeepsGroup, row_of_members, stops_of_members, GroupAnswers}

-- ---- a write at each place in turn

-- below a place each cell is what R makes of the old one, and from there on it is the old one
pub record Reaches (R : ℕ → Cell → Cell → Type 0) (old new : List Cell) (place : ℕ) : Type 0 where
  pub long : length new ≡ length old
  pub below : (at : ℕ) (kept : Cell) → at < place → R at (slice_index_or old at kept) (slice_index_or new at kept)
  pub rest : (at : ℕ) (kept : Cell) → place ≤ at → slice_index_or new at kept ≡ slice_index_or old at kept

-- ---- the cells of no row

pub record Begins (items : List Item) (cells : List Cell) (place : ℕ) : Type 0 where
  pub long : length cells ≡ place
  pub each : (at : ℕ) (it : Item) (kept : Cell) → at < place → KeepsCell (slice_index_or items at it) (slice_index_or cells at kept) []

before : {A : Type 0} (xs : List A) (x d : A) (at : ℕ) → at < length xs → slice_index_or (xs ++ x ∷ []) at d ≡ slice_index_or xs at d
before [] x d at k = absurd (let none : ⊥ = omega arith in none)
before (y ∷ ys) x d zero k = refl
before (y ∷ ys) x d (suc at) k = before ys x d at (omega arith)

at-end : {A : Type 0} (xs : List A) (x d : A) (at : ℕ) → at ≡ length xs → slice_index_or (xs ++ x ∷ []) at d ≡ x
at-end [] x d zero e = refl
at-end [] x d (suc at) e = absurd (let none : ⊥ = omega arith in none)
at-end (y ∷ ys) x d zero e = absurd (let none : ⊥ = omega arith in none)
at-end (y ∷ ys) x d (suc at) e = at-end ys x d at (omega arith)

next : {P : Type 0} (at place : ℕ) → at < place + 1 → (at < place → P) → (at ≡ place → P) → P
next at place k less same = ⊎_elim less (λ far. same (omega arith)) (cases_lt at place)

any-item : (xs : List Item) (place : ℕ) (x d : Item) → place < length xs → x ≡ slice_index_or xs place x → slice_index_or xs place d ≡ x
any-item [] place x d k e = absurd (let none : ⊥ = omega arith in none)
any-item (y ∷ ys) zero x d k e = sym e
any-item (y ∷ ys) (suc place) x d k e = any-item ys place x d (omega arith) e

pub begins_more : (items : List Item) (cells : List Cell) (place : ℕ) (c : Cell) (x : Item) → Begins items cells place → place < length items → x ≡ slice_index_or items place x → KeepsCell x c [] → Begins items (cells ++ c ∷ []) (place + 1)
begins_more items cells place c x begins within is keeps = record {
  long = omega (arith, length-append cells (c ∷ []), begins.long);
  each = λ at it kept k. next at place k
      (λ less. subst (λ b. KeepsCell (slice_index_or items at it) b []) (sym (before cells c kept at (omega (arith, begins.long)))) (begins.each at it kept less))
      (λ same. subst (λ b. KeepsCell (slice_index_or items at it) b []) (sym (at-end cells c kept at (omega (arith, begins.long))))
      (subst (λ y. KeepsCell y c []) (sym (ap (λ n. slice_index_or items n it) same ∙ any-item items place x it within is)) keeps));
}

-- ---- the row so far

pub record RowsSoFar (key : Row) (group : Group) (row : Row) (place : ℕ) : Type 0 where
  pub long : length row ≡ place
  pub each : (items : List Item) (members : List Share) → KeepsGroup items group members → (at : ℕ) (it : Item) (d : Value) → at < place
      → (slice_index_or row at d ≡ item_value (slice_index_or items at it) key (length members) (known_values at members)) × (sum_stop key (slice_index_or items at it) (total (known_values at members)) ≡ None)

-- ---- from places to lists

pub from_places : (f : ℕ → Item → Value) (items : List Item) (row : Row) (n : ℕ) → length row ≡ length items
    → ((at : ℕ) (it : Item) (d : Value) → at < length items → slice_index_or row at d ≡ f (n + at) (slice_index_or items at it)) → row ≡ map (λ placed. f placed.0 placed.1) (enumerate_from n items)
from_places f [] [] n long each = refl
from_places f [] (v ∷ vs) n long each = absurd (let none : ⊥ = omega arith in none)
from_places f (x ∷ xs) [] n long each = absurd (let none : ⊥ = omega arith in none)
from_places f (x ∷ xs) (v ∷ vs) n long each =
    let here : n + 0 ≡ n = omega arith in
    let head : v ≡ f n x = each 0 x v (omega arith) ∙ ap (λ k. f k x) here in
    let rest : vs ≡ map (λ placed. f placed.0 placed.1) (enumerate_from (n + 1) xs) = from_places f xs vs (n + 1) (omega arith) (λ at it d k.
    let next : n + suc at ≡ (n + 1) + at = omega arith in each (suc at) it d (omega arith) ∙ ap (λ m. f m (slice_index_or xs at it)) next) in
    λ i. head i ∷ rest i

pub no_stops : (f : ℕ → Item → Option Stop) (items : List Item) (n : ℕ) → ((at : ℕ) (it : Item) → at < length items → f (n + at) (slice_index_or items at it) ≡ None)
    → filter_map (λ placed. f placed.0 placed.1) (enumerate_from n items) ≡ []
no_stops f [] n each = refl
no_stops f (x ∷ xs) n each =
    let here : n + 0 ≡ n = omega arith in
    let head : f n x ≡ None = sym (ap (λ k. f k x) here) ∙ each 0 x (omega arith) in
    rw head (no_stops f xs (n + 1) (λ at it k. let next : n + suc at ≡ (n + 1) + at = omega arith in sym (ap (λ m. f m (slice_index_or xs at it)) next) ∙ each (suc at) it (omega arith)))

pub first_stop : (f : ℕ → Item → Option Stop) (items : List Item) (n place : ℕ) (stop : Stop) → place < length items → ((at : ℕ) (it : Item) → at < place → f (n + at) (slice_index_or items at it) ≡ None)
    → ((it : Item) → f (n + place) (slice_index_or items place it) ≡ Some stop) → first_of (filter_map (λ placed. f placed.0 placed.1) (enumerate_from n items)) ≡ Some stop
first_stop f [] n place stop within each this = absurd (let none : ⊥ = omega arith in none)
first_stop f (x ∷ xs) n zero stop within each this =
    let here : n + 0 ≡ n = omega arith in
    let head : f n x ≡ Some stop = sym (ap (λ k. f k x) here) ∙ this x in
    rw head refl
first_stop f (x ∷ xs) n (suc place) stop within each this =
    let here : n + 0 ≡ n = omega arith in
    let head : f n x ≡ None = sym (ap (λ k. f k x) here) ∙ each 0 x (omega arith) in
    rw head (first_stop f xs (n + 1) place stop (omega arith) (λ at it k. let next : n + suc at ≡ (n + 1) + at = omega arith in sym (ap (λ m. f m (slice_index_or xs at it)) next) ∙ each (suc at) it (omega arith))
    (λ it. let next : n + suc place ≡ (n + 1) + place = omega arith in sym (ap (λ m. f m (slice_index_or xs place it)) next) ∙ this it))

pub stepped_row : (key : Row) (group : Group) (row : Row) (place : ℕ) (c : Cell) (v : Value) → RowsSoFar key group row place → place < length group.cells.items → c ≡ slice_index_or group.cells.items place c
    → CellAnswers key group.rows c (Ok v) → RowsSoFar key group (row ++ v ∷ []) (place + 1)
stepped_row key group row place c v far within is answers = record {
  long = omega (arith, length-append row (v ∷ []), far.long);
  each = λ items members keeps at it d k. next at place k
      (λ less. (before row v d at (omega (arith, far.long)) ∙ (far.each items members keeps at it d less).0, (far.each items members keeps at it d less).1))
      (λ same.
      let kept : KeepsCell (slice_index_or items place it) c (known_values place members) =
      subst (λ b. KeepsCell (slice_index_or items place it) b (known_values place members)) (sym is) (keeps.cells.each place it c (omega (arith, keeps.cells.long))) in
      let a = answers (slice_index_or items place it) (known_values place members) kept in (
        at-end row v d at (omega (arith, far.long)) ∙ a.0 ∙ (λ i. item_value (slice_index_or items (sym same i) it) key (keeps.rows i) (known_values (sym same i) members)),
        ap (λ n. sum_stop key (slice_index_or items n it) (total (known_values n members))) same ∙ a.1,
      ));
}

pub whole_row : (key : Row) (group : Group) (row : Row) (place : ℕ) → RowsSoFar key group row place → length group.cells.items ≤ place → (items : List Item) (members : List Share) → KeepsGroup items group members → place ≤ length group.cells.items
    → (row ≡ row_of_members items key members) × (stops_of_members items key members ≡ [])
whole_row key group row place far end items members keeps at_end = (
  from_places (λ at it. item_value it key (length members) (known_values at members)) items row 0 (omega (arith, far.long, keeps.cells.long))
      (λ at it d k. (far.each items members keeps at it d (omega (arith, keeps.cells.long))).0 ∙ ap (λ n. item_value (slice_index_or items at it) key (length members) (known_values n members)) (omega arith)),
  no_stops (λ at it. sum_stop key it (total (known_values at members))) items 0
      (λ at it k. ap (λ n. sum_stop key (slice_index_or items at it) (total (known_values n members))) (omega arith) ∙ (far.each items members keeps at it Null (omega (arith, keeps.cells.long))).1),
)

pub stopped_row : (key : Row) (group : Group) (row : Row) (place : ℕ) (c : Cell) (sum : ℤ) → RowsSoFar key group row place → place < length group.cells.items → c ≡ slice_index_or group.cells.items place c
    → ((it : Item) (values : List Value) → KeepsCell it c values → sum_stop key it (total values) ≡ Some (SumOverflow key sum)) → (items : List Item) (members : List Share) → KeepsGroup items group members
    → first_of (stops_of_members items key members) ≡ Some (SumOverflow key sum)
stopped_row key group row place c sum far within is stops items members keeps =
    first_stop (λ at it. sum_stop key it (total (known_values at members))) items 0 place (SumOverflow key sum) (omega (arith, keeps.cells.long))
    (λ at it k. ap (λ n. sum_stop key (slice_index_or items at it) (total (known_values n members))) (omega arith) ∙ (far.each items members keeps at it Null (omega arith)).1)
    (λ it. ap (λ n. sum_stop key (slice_index_or items place it) (total (known_values n members))) (omega arith)
    ∙ stops (slice_index_or items place it) (known_values place members) (subst (λ k. KeepsCell (slice_index_or items place it) k (known_values place members)) (sym is) (keeps.cells.each place it c (omega (arith, keeps.cells.long)))))

pub failed_row : (key : Row) (group : Group) (row : Row) (place : ℕ) (c : Cell) (stop : GroupEnd) → RowsSoFar key group row place → place < length group.cells.items → c ≡ slice_index_or group.cells.items place c
    → CellAnswers key group.rows c (Err stop) → GroupAnswers key group (Err stop)
failed_row key group row place c (end.NoBig sum) far within is answers = λ items members keeps. stopped_row key group row place c sum far within is answers items members keeps
failed_row key group row place c end.Memory far within is answers = tt
