-- All groups in the order of their keys.
use Rattle.std.proofs.Common.{◌≡◌, List, [], ◌∷◌, ◌++◌, map, refl, sym, ap, ◌∙◌, subst, append_assoc, append-nil}
use Rattle.std.specs.List.{flat_map}
use Rattle.value_core.specs.Order.{Row, row_order, same_row}
use Rattle.plan_core.specs.declared.query.Query.{Query}
use Rattle.flow_model.specs.Views.{Share, members_of, group_row, groups_of, sum_stops}
use Rattle.view_groups.specs.declared.group.Group.{Group}
use Rattle.std.specs.Prelude.{Option, OnOk, is_err, is_some, IfSome, Some, None, Bool, true, false, Result, Ok, Err, cond, ◌+◌}
use Rattle.std.specs.BTreeMap.{is_at}
use Rattle.std.specs.List.Sorted.{IsStrictlySortedBy}
use Rattle.std.specs.Map.{keys_of, lookup}
use Rattle.std.proofs.Common.{arith}
use Rattle.std.proofs.lemmas.Map.{lookup-none}
use Rattle.std.proofs.lemmas.Map.Entries.{lookup_head, lookup_tail, none_past_head}
use Rattle.std.proofs.lemmas.Map.Keys.{sorted_tail, IsDistinct-from_sorted}
use Rattle.std.specs.List.{AllByRecursion}
use Rattle.std.specs.Ordering.{is_gt}
use Rattle.std.specs.declared.cmp.Ordering.TheVariants.{Less}
use Rattle.value_core.specs.Bags.{count_of, IsLeast, IsInOrder}
use Rattle.value_core.specs.OrderLaws.{same_row_laws}
use Rattle.value_core.proofs.BagLemmas.{count-cons, one_order}
use Rattle.view_laws.proofs.ViewLemmas.{order_groups, has_groups}
use Rattle.plan_core.specs.declared.stop.StopOr.{StopOr}
use Rattle.plan_core.specs.declared.stop.StopOr.TheVariants as either
use Rattle.flow_model.specs.Views.{first_of, shares_of}
use Rattle.view_groups.specs.declared.cell.GroupEnd.{GroupEnd}
use Rattle.view_groups.specs.declared.cell.GroupEnd.TheVariants as end
use Rattle.view_groups.specs.Groups.{KeepsGroup, GroupAnswers, stops_of_members}
use Rattle.view_groups.specs.AllGroups.{group_at, GroupsFor, EachKeeps, rows_by, stops_by, AllAnswers, ResultAnswers, RowsAnswers, StopFor, first_fault, first_sum}
use Rattle.std.specs.Option.{option_or}

-- what is left to walk, with what was found so far
pub record WalksOn (all left : List (Row × Group)) (rows : List Row) : Type 0 where
  pub keeps : (query : Query) (members : Row → List Share) → EachKeeps query members all → EachKeeps query members left
  pub found : (query : Query) (members : Row → List Share) → EachKeeps query members all → rows ++ rows_by query members left ≡ rows_by query members all
  pub stops : (query : Query) (members : Row → List Share) → EachKeeps query members all → stops_by query members left ≡ stops_by query members all

pub ok_from : {A E : Type 0} {P : Type 0} (r : Result A E) → OnOk r P → is_err r ≡ false → P
ok_from (Ok a) p e = p
ok_from (Err x) p e = absurd (let none : true ≡ false = e in cc)

pub walk_begins : (all : List (Row × Group)) → WalksOn all all []
walk_begins all = record { keeps = λ query members each. each; found = λ query members each. refl; stops = λ query members each. refl }

pub walk_more : (all left rest : List (Row × Group)) (rows rows' : List Row) (key : Row) (group : Group) (row : Row) → left ≡ (key, group) ∷ rest → rows' ≡ rows ++ row ∷ [] → GroupAnswers key group (Ok row)
    → WalksOn all left rows → WalksOn all rest rows'
walk_more all left rest rows rows' key group row e pushed answers walks = record {
  keeps = λ query members each. let both : EachKeeps query members ((key, group) ∷ rest) = subst (EachKeeps query members) e (walks.keeps query members each) in both.1;
  found = λ query members each.
      let both : EachKeeps query members ((key, group) ∷ rest) = subst (EachKeeps query members) e (walks.keeps query members each) in
      let a = answers query.items (members key) both.0 in
      ap (λ r. r ++ rows_by query members rest) pushed ∙ append_assoc rows (row ∷ []) (rows_by query members rest)
      ∙ ap (λ r. rows ++ r ∷ rows_by query members rest) a.0 ∙ ap (λ l. rows ++ rows_by query members l) (sym e) ∙ walks.found query members each;
  stops = λ query members each.
      let both : EachKeeps query members ((key, group) ∷ rest) = subst (EachKeeps query members) e (walks.keeps query members each) in
      let a = answers query.items (members key) both.0 in
      sym (ap (λ stops. stops ++ stops_by query members rest) a.1) ∙ ap (stops_by query members) (sym e) ∙ walks.stops query members each;
}

first-front : {S : Type 0} (xs ys : List S) (s : S) → first_of xs ≡ Some s → first_of (xs ++ ys) ≡ Some s
first-front [] ys s e = cc
first-front (x ∷ xs) ys s e = e

pub walk_stops : (all left rest : List (Row × Group)) (rows : List Row) (key : Row) (group : Group) (why : GroupEnd) (stop : StopOr) → left ≡ (key, group) ∷ rest → GroupAnswers key group (Err why) → StopFor key why stop
    → WalksOn all left rows → AllAnswers all (Err stop)
walk_stops all left rest rows key group (end.NoBig sum) (either.Stop stop) e answers for walks = λ query members each.
    let both : EachKeeps query members ((key, group) ∷ rest) = subst (EachKeeps query members) e (walks.keeps query members each) in
    let here : first_of (stops_of_members query.items key (members key)) ≡ Some stop = answers query.items (members key) both.0 ∙ ap Some (sym for) in
    ap first_of (sym (sym (ap (stops_by query members) e) ∙ walks.stops query members each)) ∙ first-front (stops_of_members query.items key (members key)) (stops_by query members rest) stop here
walk_stops all left rest rows key group end.Memory (either.Stop stop) e answers for walks = absurd for
walk_stops all left rest rows key group why either.Memory e answers for walks = tt

pub walk_ends : (all left : List (Row × Group)) (rows : List Row) → left ≡ [] → WalksOn all left rows → AllAnswers all (Ok rows)
walk_ends all left rows e walks = λ query members each.
    (sym (append-nil rows) ∙ ap (λ l. rows ++ rows_by query members l) (sym e) ∙ walks.found query members each, sym (walks.stops query members each) ∙ ap (stops_by query members) e)

-- ---- the keys in order

none-past : (q : Row) (e : Row × Group) (es : List (Row × Group)) → IsStrictlySortedBy row_order (keys_of (e ∷ es)) → same_row q e.0 ≡ true → group_at q es ≡ None
none-past q e es sorted same = lookup-none (is_at (row_order q)) es (none_past_head same_row_laws q e es (IsDistinct-from_sorted row_order (keys_of (e ∷ es)) sorted) same)

tail-keeps-by : (query : Query) (members : Row → List Share) (q : Row) (e : Row × Group) (es : List (Row × Group)) (test : Bool) → same_row q e.0 ≡ test → IsStrictlySortedBy row_order (keys_of (e ∷ es))
    → IfSome (group_at q (e ∷ es)) (λ g. KeepsGroup query.items g (members q)) → IfSome (group_at q es) (λ g. KeepsGroup query.items g (members q))
tail-keeps-by query members q e es true same sorted keeps = subst (λ o. IfSome o (λ g. KeepsGroup query.items g (members q))) (sym (none-past q e es sorted same)) tt
tail-keeps-by query members q e es false same sorted keeps = subst (λ o. IfSome o (λ g. KeepsGroup query.items g (members q))) (lookup_tail (is_at (row_order q)) e es same) keeps

pub each_keeps : (query : Query) (members : Row → List Share) (entries : List (Row × Group)) → IsStrictlySortedBy row_order (keys_of entries)
    → ((q : Row) → IfSome (group_at q entries) (λ g. KeepsGroup query.items g (members q))) → EachKeeps query members entries
each_keeps query members [] sorted keeps = tt
each_keeps query members (e ∷ es) sorted keeps = (
  subst (λ o. IfSome o (λ g. KeepsGroup query.items g (members e.0))) (lookup_head (is_at (row_order e.0)) e es (same_row_laws.refl e.0)) (keeps e.0),
  each_keeps query members es (sorted_tail row_order e.0 (keys_of es) sorted) (λ q. tail-keeps-by query members q e es (same_row q e.0) refl sorted (keeps q)),
)

least-of : (x : Row) (xs : List Row) → AllByRecursion (λ y. row_order x y ≡ Less) xs → IsLeast x xs
least-of x [] all = tt
least-of x (y ∷ ys) all = (ap is_gt all.0, least-of x ys all.1)

pub keys_in_order : (keys : List Row) → IsStrictlySortedBy row_order keys → IsInOrder keys
unfolding IsStrictlySortedBy
keys_in_order [] sorted = tt
keys_in_order (x ∷ xs) sorted = (least-of x xs sorted.0, keys_in_order xs sorted.1)

-- the value at a key of a map by rows
abbrev pub value_at : {V : Type 0} → Row → List (Row × V) → Option V
value_at key entries = lookup (is_at (row_order key)) entries

pub none_behind : {V : Type 0} (q : Row) (e : Row × V) (es : List (Row × V)) → IsStrictlySortedBy row_order (keys_of (e ∷ es)) → same_row q e.0 ≡ true → value_at q es ≡ None
none_behind q e es sorted same = lookup-none (is_at (row_order q)) es (none_past_head same_row_laws q e es (IsDistinct-from_sorted row_order (keys_of (e ∷ es)) sorted) same)

count-key-by : {V : Type 0} (a : Row) (e : Row × V) (es : List (Row × V)) (test : Bool) → same_row a e.0 ≡ test → IsStrictlySortedBy row_order (keys_of (e ∷ es)) → count_of a (keys_of es) ≡ cond (is_some (value_at a es)) 1 0
    → cond test 1 0 + count_of a (keys_of es) ≡ cond (is_some (value_at a (e ∷ es))) 1 0
count-key-by a e es true same sorted behind =
    let here : value_at a (e ∷ es) ≡ Some e.1 = lookup_head (is_at (row_order a)) e es same in
    let none : count_of a (keys_of es) ≡ 0 = behind ∙ ap (λ o. cond (is_some o) 1 0) (none_behind a e es sorted same) in
    omega (arith, none) ∙ ap (λ o. cond (is_some o) 1 0) (sym here)
count-key-by a e es false same sorted behind = omega (arith) ∙ behind ∙ ap (λ o. cond (is_some o) 1 0) (sym (lookup_tail (is_at (row_order a)) e es same))

-- how often a row is a key
pub count_keys : {V : Type 0} (a : Row) (entries : List (Row × V)) → IsStrictlySortedBy row_order (keys_of entries) → count_of a (keys_of entries) ≡ cond (is_some (value_at a entries)) 1 0
count_keys a [] sorted = refl
count_keys a (e ∷ es) sorted = count-cons a e.0 (keys_of es) ∙ count-key-by a e es (same_row a e.0) refl sorted (count_keys a es (sorted_tail row_order e.0 (keys_of es) sorted))

-- the keys of the map are the groups of the shares
pub keys_are_groups : (query : Query) (entries : List (Row × Group)) (shares : List Share) → IsStrictlySortedBy row_order (keys_of entries) → GroupsFor query entries shares → keys_of entries ≡ groups_of query shares
keys_are_groups query entries shares sorted groups = one_order (keys_of entries) (groups_of query shares) (keys_in_order (keys_of entries) sorted) (order_groups query shares)
    (λ a. count_keys a entries sorted ∙ ap (λ t. cond t 1 0) (groups.there a) ∙ sym ((has_groups query shares).count a))

rows-map : (query : Query) (shares : List Share) (entries : List (Row × Group)) → rows_by query (λ key. members_of key shares) entries ≡ map (group_row query shares) (keys_of entries)
rows-map query shares [] = refl
rows-map query shares (e ∷ es) = ap (λ rows. group_row query shares e.0 ∷ rows) (rows-map query shares es)

stops-map : (query : Query) (shares : List Share) (entries : List (Row × Group)) → stops_by query (λ key. members_of key shares) entries ≡ flat_map (sum_stops query shares) (keys_of entries)
stops-map query shares [] = refl
stops-map query shares (e ∷ es) = ap (λ stops. sum_stops query shares e.0 ++ stops) (stops-map query shares es)

-- what is answered for all groups is what the query gives for their shares
pub all_answered : (query : Query) (entries : List (Row × Group)) (shares : List Share) (result : Result (List Row) StopOr) → IsStrictlySortedBy row_order (keys_of entries) → GroupsFor query entries shares → AllAnswers entries result
    → ResultAnswers query shares result
all_answered query entries shares (Ok rows) sorted groups answers =
    let each = each_keeps query (λ key. members_of key shares) entries sorted groups.keeps in
    let keys = keys_are_groups query entries shares sorted groups in
    let a = answers query (λ key. members_of key shares) each in
    (a.0 ∙ rows-map query shares entries ∙ ap (map (group_row query shares)) keys, sym (ap (flat_map (sum_stops query shares)) keys) ∙ sym (stops-map query shares entries) ∙ a.1)
all_answered query entries shares (Err (either.Stop stop)) sorted groups answers =
    let each = each_keeps query (λ key. members_of key shares) entries sorted groups.keeps in
    let keys = keys_are_groups query entries shares sorted groups in
    ap first_of (sym (ap (flat_map (sum_stops query shares)) keys) ∙ sym (stops-map query shares entries)) ∙ answers query (λ key. members_of key shares) each
all_answered query entries shares (Err either.Memory) sorted groups answers = tt

-- the answer for source rows without a fault
pub rows_answered : (query : Query) (rows : List Row) (result : Result (List Row) StopOr) → first_fault query rows ≡ None → ResultAnswers query (shares_of query rows) result → RowsAnswers query rows result
rows_answered query rows (Ok out) none answers = (none, ap first_of answers.1, answers.0)
rows_answered query rows (Err (either.Stop stop)) none answers = ap (λ f. option_or f (first_sum query (shares_of query rows))) none ∙ answers
rows_answered query rows (Err either.Memory) none answers = tt
