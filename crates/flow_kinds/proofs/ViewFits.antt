-- The rows of a view fit its columns.
use Rattle.std.proofs.Common.{◌≡◌, ℕ, zero, suc, ◌+◌, List, [], ◌∷◌, map, length, Bool, true, false, not, ◌&&◌, ◌||◌, if◌then◌else◌, Option, Some, None, Result, Ok, Err, refl, sym, ap, subst, arith, fold, filter, slice_get, slice_index_or, option_map, ℤ}
use Rattle.std.specs.List.{enumerate_from, list_all, list_any}
use Rattle.std.specs.Ordering.{is_lt}
use Rattle.std.proofs.lemmas.Bool.{and_from, and_parts}
use Rattle.value_core.specs.declared.value.Kind.{Kind}
use Rattle.value_core.specs.declared.value.Kind.TheVariants as kind
use Rattle.value_core.specs.declared.value.Value.{Value}
use Rattle.value_core.specs.declared.value.Value.TheVariants.{Null, Big}
use Rattle.value_core.specs.Bags.{in_row_order}
use Rattle.value_core.specs.Fits.{row_fits, value_fits}
use Rattle.value_core.specs.Order.{Row, is_null, same_row, value_order}
use Rattle.row_expr.specs.declared.expr.Expr.{Expr}
use Rattle.row_expr.specs.Columns.{reads_within}
use Rattle.row_expr.specs.Eval.{Fault, and_then, val}
use Rattle.row_expr.specs.Kinds.{kind_in, number, sort_of}
use Rattle.plan_core.specs.declared.expectation.Expectation.{Expectation}
use Rattle.plan_core.specs.declared.query.Item.{Item}
use Rattle.plan_core.specs.declared.query.Item.TheVariants as item
use Rattle.plan_core.specs.declared.query.Query.{Query}
use Rattle.plan_core.specs.declared.stop.Stop.{Stop}
use Rattle.plan_core.specs.Sound.{IsSoundQuery, all_there, is_aggregate, is_empty, is_grouped, is_typed_over, item_kind, kind_over, kinds_over}
use Rattle.flow_model.specs.Admission.{admit, counts}
use Rattle.flow_model.specs.Append.{projected, takes}
use Rattle.flow_model.specs.Current.{distinct}
use Rattle.flow_model.specs.Views.{Share, Viewed, ask, greatest, group_row, groups_of, is_keep, item_value, judged_view, known_values, least, members_of, query_stop, read, read_all, result_rows, share, share_by, shared, shares_of, total, unless, viewed}
use Rattle.flow_kinds.specs.EventKinds.{all_fit}
use Rattle.flow_kinds.proofs.AppendFits.{kind_given, pair_of, projected_fits}
use Rattle.flow_kinds.proofs.FitTools.{all_filtered, all_in_order, all_mapped, all_picked, both_of, first_there, head_of, ok_is, some_is, tail_of, value_at}

-- ---- the values that items read

-- a value is of a kind, where there is one
abbrev pub fits_some : Option Kind → Value → Bool
fits_some None value = true
fits_some (Some k) value = value_fits k value

module _ (source : List Kind) where
  -- a value that an item keeps as it is fits the item's kind
  abbrev pub value_is : Item → Value → Bool
  value_is (item.Key at) value = true
  value_is (item.Plain e) value = fits_some (kind_over source e) value
  value_is item.CountAll value = true
  value_is (item.Count e) value = true
  value_is (item.Sum e) value = true
  value_is (item.Min e) value = fits_some (kind_over source e) value
  value_is (item.Max e) value = fits_some (kind_over source e) value

  abbrev pub values_are : List Item → Row → Bool
  values_are [] [] = true
  values_are [] (v ∷ vs) = false
  values_are (x ∷ xs) [] = false
  values_are (x ∷ xs) (v ∷ vs) = value_is x v && values_are xs vs

  module _ (row : Row) (fits : row_fits source row ≡ true) where
    kept_fits : (e : Expr) (value : Value) (o : Option Kind) → kind_over source e ≡ o → val e row ≡ Ok value → fits_some o value ≡ true
    kept_fits e value None is gives = refl
    kept_fits e value (Some k) is gives = kind_given source row e k value fits is gives

    read_fits : (x : Item) (value : Value) → read x row ≡ Ok value → value_is x value ≡ true
    read_fits (item.Key at) value gives = refl
    read_fits (item.Plain e) value gives = kept_fits e value (kind_over source e) refl gives
    read_fits item.CountAll value gives = refl
    read_fits (item.Count e) value gives = refl
    read_fits (item.Sum e) value gives = refl
    read_fits (item.Min e) value gives = kept_fits e value (kind_over source e) refl gives
    read_fits (item.Max e) value gives = kept_fits e value (kind_over source e) refl gives

    read_all_fit : (items : List Item) (values : Row) → read_all items row ≡ Ok values → values_are items values ≡ true
    read_all_fit [] values gives = subst (λ vs. values_are [] vs ≡ true) (ok_is {E = Fault} [] values (Ok values) (sym gives) refl) refl
    read_all_fit (x ∷ xs) values gives =
        let p = pair_of (read x row) (read_all xs row) values gives in
        subst (λ vs. values_are (x ∷ xs) vs ≡ true) p.is (and_from (value_is x p.value) (values_are xs p.values) (read_fits x p.value p.gives) (read_all_fit xs p.values p.give))

  value_in : (items : List Item) (values : Row) (at : ℕ) (x : Item) → values_are items values ≡ true → slice_get items at ≡ Some x → value_is x (slice_index_or values at Null) ≡ true
  value_in [] values at x are is = cc
  value_in (y ∷ items) [] at x are is = cc
  value_in (y ∷ items) (v ∷ values) zero x are is = subst (λ z. value_is z v ≡ true) (some_is y x is) (and_parts (value_is y v) (values_are items values) are).0
  value_in (y ∷ items) (v ∷ values) (suc at) x are is = value_in items values at x (and_parts (value_is y v) (values_are items values) are).1 is

-- ---- what a source row contributes

module _ (source group_kinds target : List Kind) (query : Query) (groups_are : kinds_over source query.groups ≡ Some group_kinds)
    (items_are : all_there (map (item_kind source group_kinds) query.items) ≡ Some target) where
  abbrev share_fits : Share → Bool
  share_fits s = row_fits group_kinds s.group && values_are source query.items s.values

  share_of : (row : Row) → row_fits source row ≡ true → (s : Share) (g : Result Row Fault) (v : Result Row Fault) → projected query.groups row ≡ g → read_all query.items row ≡ v
      → and_then (λ group. and_then (λ values. Ok (Some (let made : Share = record { group = group; values = values } in made))) v) g ≡ Ok (Some s) → share_fits s ≡ true
  share_of row fits s (Err fault) v is are e = cc
  share_of row fits s (Ok group) (Err fault) is are e = cc
  share_of row fits s (Ok group) (Ok values) is are e =
      let made : Share = record { group = group; values = values } in
      let same : made ≡ s = some_is made s (ok_is {E = Fault} (Some made) (Some s) (Ok (Some s)) (sym e) refl) in
      subst (λ w. share_fits w ≡ true) same
      (and_from (row_fits group_kinds group) (values_are source query.items values) (projected_fits source row fits query.groups group_kinds group groups_are is) (read_all_fit source row fits query.items values are))

  share_by_where : (row : Row) → row_fits source row ≡ true → (s : Share) (t : Result Bool Fault) → and_then (share_by query row) t ≡ Ok (Some s) → share_fits s ≡ true
  share_by_where row fits s (Err fault) e = cc
  share_by_where row fits s (Ok false) e = cc
  share_by_where row fits s (Ok true) e = share_of row fits s (projected query.groups row) (read_all query.items row) refl refl e

  shared_is : (r : Result (Option Share) Fault) (s : Share) → shared r ≡ Some s → r ≡ Ok (Some s)
  shared_is (Err fault) s e = cc
  shared_is (Ok part) s e = ap (λ p. Ok p) e

  shares_fit : (rows : List Row) → all_fit source rows ≡ true → list_all share_fits (shares_of query rows) ≡ true
  shares_fit rows all =
      all_picked share_fits (row_fits source) (λ row. shared (share query row)) (λ row fits s e. share_by_where row fits s (takes query.filter row) (shared_is (share query row) s e)) rows all

  -- ---- a query that doesn't group

  no_item : (ks : List Kind) (at : ℕ) (k : Kind) → ks ≡ [] → slice_get ks at ≡ Some k → ⊥
  no_item [] at k none is = cc
  no_item (l ∷ ks) at k none is = cc

  one_plain : (x : Item) (k : Kind) (v : Value) → group_kinds ≡ [] → item_kind source group_kinds x ≡ Some k → is_aggregate x ≡ false → value_is source x v ≡ true → value_fits k v ≡ true
  one_plain (item.Key at) k v none is plain h = absurd (no_item group_kinds at k none is)
  one_plain (item.Plain e) k v none is plain h = subst (λ o. fits_some o v ≡ true) is h
  one_plain item.CountAll k v none is plain h = cc
  one_plain (item.Count e) k v none is plain h = cc
  one_plain (item.Sum e) k v none is plain h = cc
  one_plain (item.Min e) k v none is plain h = cc
  one_plain (item.Max e) k v none is plain h = cc

  or_parts : (a b : Bool) → (a || b) ≡ false → (a ≡ false) × (b ≡ false)
  or_parts true b e = cc
  or_parts false b e = (refl, e)

  plain_row : (items : List Item) (kinds : List Kind) (values : Row) → group_kinds ≡ [] → all_there (map (item_kind source group_kinds) items) ≡ Some kinds → list_any is_aggregate items ≡ false → values_are source items values ≡ true
      → row_fits kinds values ≡ true
  plain_row [] kinds [] none are plain h = subst (λ ks. row_fits ks [] ≡ true) (some_is [] kinds are) refl
  plain_row [] kinds (v ∷ vs) none are plain h = cc
  plain_row (x ∷ xs) kinds [] none are plain h = cc
  plain_row (x ∷ xs) kinds (v ∷ vs) none are plain h =
      let f = first_there (item_kind source group_kinds x) (map (item_kind source group_kinds) xs) kinds are in
      let parts = and_parts (value_is source x v) (values_are source xs vs) h in
      let plains = or_parts (is_aggregate x) (list_any is_aggregate xs) plain in
      subst (λ ks. row_fits ks (v ∷ vs) ≡ true) f.is_all
      (and_from (value_fits f.item v) (row_fits f.others vs) (one_plain x f.item v none f.is_item plains.0 parts.0) (plain_row xs f.others vs none f.are_others plains.1 parts.1))

  -- ---- groups

  null_fits : (k : Kind) → value_fits k Null ≡ true
  null_fits kind.Bool = refl
  null_fits kind.Int = refl
  null_fits kind.Big = refl
  null_fits kind.Str = refl

  big_fits : (k : Kind) (n : ℤ) → Some kind.Big ≡ Some k → value_fits k (Big n) ≡ true
  big_fits k n e = subst (λ z. value_fits z (Big n) ≡ true) (some_is kind.Big k e) refl

  big_where : (k : Kind) (n : ℤ) (b : Bool) → (if b then Some kind.Big else None) ≡ Some k → value_fits k (Big n) ≡ true
  big_where k n true e = big_fits k n e
  big_where k n false e = cc

  sum_where : (k : Kind) (n : ℤ) (b : Bool) (o : Option Kind) → (if b then option_map (λ z. kind.Big) o else None) ≡ Some k → value_fits k (Big n) ≡ true
  sum_where k n true None e = cc
  sum_where k n true (Some z) e = big_fits k n e
  sum_where k n false o e = cc

  null_or : (k : Kind) (v : Value) (b : Bool) → value_fits k v ≡ true → value_fits k (if b then Null else v) ≡ true
  null_or k v true h = null_fits k
  null_or k v false h = h

  one_of : (test : Value → Bool) (a b : Value) (c : Bool) → test a ≡ true → test b ≡ true → test (if c then b else a) ≡ true
  one_of test a b true h j = j
  one_of test a b false h j = h

  fold_least : (test : Value → Bool) (v : Value) (vs : List Value) → test v ≡ true → list_all test vs ≡ true → test (fold (λ a b. if is_lt (value_order b a) then b else a) v vs) ≡ true
  fold_least test v [] h all = h
  fold_least test v (w ∷ ws) h all = fold_least test (if is_lt (value_order w v) then w else v) ws (one_of test v w (is_lt (value_order w v)) h (head_of test w ws all)) (tail_of test w ws all)

  fold_greatest : (test : Value → Bool) (v : Value) (vs : List Value) → test v ≡ true → list_all test vs ≡ true → test (fold (λ a b. if is_lt (value_order a b) then b else a) v vs) ≡ true
  fold_greatest test v [] h all = h
  fold_greatest test v (w ∷ ws) h all = fold_greatest test (if is_lt (value_order v w) then w else v) ws (one_of test v w (is_lt (value_order v w)) h (head_of test w ws all)) (tail_of test w ws all)

  least_fits : (k : Kind) (vs : List Value) → list_all (value_fits k) vs ≡ true → value_fits k (least vs) ≡ true
  least_fits k [] all = null_fits k
  least_fits k (v ∷ vs) all = fold_least (value_fits k) v vs (head_of (value_fits k) v vs all) (tail_of (value_fits k) v vs all)

  greatest_fits : (k : Kind) (vs : List Value) → list_all (value_fits k) vs ≡ true → value_fits k (greatest vs) ≡ true
  greatest_fits k [] all = null_fits k
  greatest_fits k (v ∷ vs) all = fold_greatest (value_fits k) v vs (head_of (value_fits k) v vs all) (tail_of (value_fits k) v vs all)

  module _ (group : Row) (group_fits : row_fits group_kinds group ≡ true) (count : ℕ) where
    value_of : (x : Item) (k : Kind) (known : List Value) → item_kind source group_kinds x ≡ Some k → list_all (value_is source x) known ≡ true → value_fits k (item_value x group count known) ≡ true
    value_of (item.Key at) k known is all = value_at group_kinds group at k group_fits is
    value_of (item.Plain e) k known is all = null_fits k
    value_of item.CountAll k known is all = big_fits k _ is
    value_of (item.Count e) k known is all = big_where k _ (is_typed_over source e) is
    value_of (item.Sum e) k known is all = null_or k (Big (total known)) (is_empty known) (sum_where k (total known) (reads_within source e) (kind_in (number (sort_of e))) is)
    value_of (item.Min e) k known is all = least_fits k known (subst (λ o. list_all (fits_some o) known ≡ true) is all)
    value_of (item.Max e) k known is all = greatest_fits k known (subst (λ o. list_all (fits_some o) known ≡ true) is all)

    module _ (members : List Share) (all_ok : list_all share_fits members ≡ true) where
      known_fit : (at : ℕ) (x : Item) → slice_get query.items at ≡ Some x → list_all (value_is source x) (known_values at members) ≡ true
      known_fit at x is =
          all_filtered (value_is source x) (λ value. not (is_null value)) (map (λ s. slice_index_or s.values at Null) members)
          (all_mapped (value_is source x) share_fits (λ s. slice_index_or s.values at Null)
          (λ s h. value_in source query.items s.values at x (and_parts (row_fits group_kinds s.group) (values_are source query.items s.values) h).1 is) members all_ok)

      -- the items from a place on are those of the query
      abbrev Behind : ℕ → List Item → Type 0
      Behind n rest = (j : ℕ) (x : Item) → slice_get rest j ≡ Some x → slice_get query.items (n + j) ≡ Some x

      here_is : (n : ℕ) (x : Item) → slice_get query.items (n + 0) ≡ Some x → slice_get query.items n ≡ Some x
      here_is n x e = let same : n + 0 ≡ n = omega arith in subst (λ (m : ℕ). slice_get query.items m ≡ Some x) same e

      next_is : (n j : ℕ) (x : Item) → slice_get query.items (n + suc j) ≡ Some x → slice_get query.items (n + 1 + j) ≡ Some x
      next_is n j x e = let same : n + suc j ≡ n + 1 + j = omega arith in subst (λ (m : ℕ). slice_get query.items m ≡ Some x) same e

      row_from : (n : ℕ) (rest : List Item) (kinds : List Kind) → Behind n rest → all_there (map (item_kind source group_kinds) rest) ≡ Some kinds
          → row_fits kinds (map (λ placed. item_value placed.1 group count (known_values placed.0 members)) (enumerate_from n rest)) ≡ true
      row_from n [] kinds behind are = subst (λ ks. row_fits ks [] ≡ true) (some_is [] kinds are) refl
      row_from n (x ∷ xs) kinds behind are =
          let f = first_there (item_kind source group_kinds x) (map (item_kind source group_kinds) xs) kinds are in
          let others : Row = map (λ placed. item_value placed.1 group count (known_values placed.0 members)) (enumerate_from (n + 1) xs) in
          let first : Value = item_value x group count (known_values n members) in
          subst (λ ks. row_fits ks (first ∷ others) ≡ true) f.is_all
          (and_from (value_fits f.item first) (row_fits f.others others)
          (value_of x f.item (known_values n members) f.is_item (known_fit n x (here_is n x (behind 0 x refl))))
          (row_from (n + 1) xs f.others (λ j y e. next_is n j y (behind (suc j) y e)) f.are_others))

      start_is : (j : ℕ) (x : Item) → slice_get query.items j ≡ Some x → slice_get query.items (0 + j) ≡ Some x
      start_is j x e = let same : j ≡ 0 + j = omega arith in subst (λ (m : ℕ). slice_get query.items m ≡ Some x) same e

      whole_row : row_fits target (map (λ placed. item_value placed.1 group count (known_values placed.0 members)) (enumerate_from 0 query.items)) ≡ true
      whole_row = row_from 0 query.items target start_is items_are

  group_row_fits : (shares : List Share) → list_all share_fits shares ≡ true → (group : Row) → row_fits group_kinds group ≡ true → row_fits target (group_row query shares group) ≡ true
  group_row_fits shares all group fits = whole_row group fits (length (members_of group shares)) (members_of group shares) (all_filtered share_fits (λ s. same_row s.group group) shares all)

  distinct_by : (test : Row → Bool) (x : Row) (rest : List Row) (b : Bool) → test x ≡ true → list_all test rest ≡ true → list_all test (if b then rest else x ∷ rest) ≡ true
  distinct_by test x rest true h r = r
  distinct_by test x rest false h r = both_of test x rest h r

  all_distinct : (test : Row → Bool) (xs : List Row) → list_all test xs ≡ true → list_all test (distinct xs) ≡ true
  all_distinct test [] all = refl
  all_distinct test (x ∷ xs) all = distinct_by test x (distinct xs) (list_any (same_row x) xs) (head_of test x xs all) (all_distinct test xs (tail_of test x xs all))

  no_kinds : (groups : List Expr) → is_empty groups ≡ true → kinds_over source groups ≡ Some group_kinds → group_kinds ≡ []
  no_kinds [] e is = sym (some_is [] group_kinds is)
  no_kinds (g ∷ gs) e is = cc

  groups_by : (shares : List Share) → list_all share_fits shares ≡ true → (b : Bool) → is_empty query.groups ≡ b → all_fit group_kinds (if b then [] ∷ [] else in_row_order (distinct (map (λ s. s.group) shares))) ≡ true
  groups_by shares all true e = subst (λ ks. row_fits ks [] && true ≡ true) (sym (no_kinds query.groups e groups_are)) refl
  groups_by shares all false e =
      all_in_order (row_fits group_kinds) (distinct (map (λ s. s.group) shares))
      (all_distinct (row_fits group_kinds) (map (λ s. s.group) shares)
      (all_mapped (row_fits group_kinds) share_fits (λ s. s.group) (λ s h. (and_parts (row_fits group_kinds s.group) (values_are source query.items s.values) h).0) shares all))

  -- ---- the query

  neither : (a b : Bool) → (not a || b) ≡ false → (a ≡ true) × (b ≡ false)
  neither true b e = (refl, e)
  neither false b e = cc

  rows_by : (shares : List Share) → list_all share_fits shares ≡ true → (b : Bool) → is_grouped query ≡ b → all_fit target (if b then map (group_row query shares) (groups_of query shares) else map (λ s. s.values) shares) ≡ true
  rows_by shares all true e =
      all_mapped (row_fits target) (row_fits group_kinds) (group_row query shares) (λ group fits. group_row_fits shares all group fits) (groups_of query shares) (groups_by shares all (is_empty query.groups) refl)
  rows_by shares all false e =
      let plain = neither (is_empty query.groups) (list_any is_aggregate query.items) e in
      all_mapped (row_fits target) share_fits (λ s. s.values)
      (λ s h. plain_row query.items target s.values (no_kinds query.groups plain.0 groups_are) items_are plain.1 (and_parts (row_fits group_kinds s.group) (values_are source query.items s.values) h).1) shares all

  result_fits : (rows : List Row) → all_fit source rows ≡ true → all_fit target (result_rows query (shares_of query rows)) ≡ true
  result_fits rows all =
      let shares : List Share = shares_of query rows in
      all_in_order (row_fits target) (if is_grouped query then map (group_row query shares) (groups_of query shares) else map (λ s. s.values) shares) (rows_by shares (shares_fit rows all) (is_grouped query) refl)

  unless_by : {A : Type 0} (o : Option Stop) (a b : A) → unless o a ≡ Ok b → a ≡ b
  unless_by None a b e = ok_is {E = Stop} a b (Ok b) (sym e) refl
  unless_by (Some stop) a b e = cc

  judged_by : (xs : List Expectation) (rows : List Row) (result : Viewed) → all_fit target rows ≡ true → judged_view xs rows ≡ Ok result → all_fit target result.rows ≡ true
  judged_by xs rows result all e =
      let kept : List Row = filter (λ row. is_keep (admit xs row)) rows in
      let made : Viewed = record { rows = kept; counts = counts xs rows } in
      subst (λ (v : Viewed). all_fit target v.rows ≡ true) (unless_by _ made result e) (all_filtered (row_fits target) (λ row. is_keep (admit xs row)) rows all)

  viewed_by : (xs : List Expectation) (rows : List Row) (result : Viewed) (r : Result (List Row) Stop) → all_fit source rows ≡ true → ask query rows ≡ r → and_then (judged_view xs) r ≡ Ok result → all_fit target result.rows ≡ true
  viewed_by xs rows result (Err stop) all is e = cc
  viewed_by xs rows result (Ok answer) all is e =
      let ordered : List Row = in_row_order rows in
      let same : result_rows query (shares_of query ordered) ≡ answer = unless_by (query_stop query ordered) (result_rows query (shares_of query ordered)) answer is in
      judged_by xs answer result (subst (λ a. all_fit target a ≡ true) same (result_fits ordered (all_in_order (row_fits source) rows all))) e

pub view_fits : (source target : List Kind) (query : Query) (xs : List Expectation) (rows : List Row) (result : Viewed) → IsSoundQuery source target query → all_fit source rows ≡ true → viewed query xs rows ≡ Ok result
    → all_fit target result.rows ≡ true
view_fits source target query xs rows result sound all e = viewed_by source sound.group_kinds target query sound.groups sound.items xs rows result (ask query rows) all refl e
