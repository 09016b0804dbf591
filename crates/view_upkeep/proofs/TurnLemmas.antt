-- A view's turn by what goes and comes.
use Rattle.std.proofs.Common.{◌≡◌, ℕ, ◌+◌, ◌-◌, ◌≤◌, zero, suc, Bool, true, false, not, cond, if◌then◌else◌, List, [], ◌∷◌, ◌++◌, map, filter, Option, Some, None, Result, Ok, Err, refl, sym, ap, ◌∙◌, arith}
use Rattle.std.specs.List.{flat_map}
use Rattle.std.specs.Option.{option_or}
use Rattle.std.proofs.lemmas.List.Sums.{sum_by-append}
use Rattle.value_core.specs.declared.change.Change.{Change}
use Rattle.value_core.specs.declared.change.Tally.{Tally}
use Rattle.value_core.specs.Bags.{changed, count_of, in_row_order, net_change, surplus}
use Rattle.value_core.proofs.BagLemmas.{count-cons, count-in_row_order, order-in_row_order}
use Rattle.value_core.specs.OrderLaws.{same_row_laws}
use Rattle.view_laws.proofs.Groups.{some, count-distinct}
use Rattle.view_patches.proofs.KeyLemmas.{members_append}
use Rattle.flow_model.specs.Current.{distinct}
use Rattle.value_core.specs.Changes.{Holds}
use Rattle.value_core.specs.Order.{Row, same_row}
use Rattle.plan_core.specs.Sound.{is_grouped}
use Rattle.plan_core.specs.declared.expectation.Expectation.{Expectation}
use Rattle.plan_core.specs.declared.query.Query.{Query}
use Rattle.plan_core.specs.declared.stop.Stop.{Stop}
use Rattle.plan_core.specs.declared.stop.StopOr.{StopOr}
use Rattle.plan_core.specs.declared.stop.StopOr.TheVariants as either
use Rattle.flow_model.specs.Admission.{admit, counts, passes, tally}
use Rattle.flow_model.specs.Views.{Share, Viewed, members_of, share, shared, shares_of, viewed, is_keep, first_of, sum_stops}
use Rattle.view_laws.specs.Weights.{Moves}
use Rattle.view_laws.specs.Touched.{Touches, is_there, rows_of_groups}
use Rattle.view_laws.specs.Turned.{IsTurn, judged_rows, kept_of, part_over, part_rows, part_stop, result_over, row_stop, unless_stopped}
use Rattle.view_laws.proofs.Weighing.{sum-filter, sum-filter_map, sum-in_row_order, sum-held, weight_of, moved_net}
use Rattle.view_laws.proofs.ViewTurns.{turn_view, turn_moves, turn_net, turn_counts, turn_sums, turn_verdicts}
use Rattle.view_groups.specs.AllGroups.{first_fault, KeepsShares}
use Rattle.view_groups.specs.declared.groups.Groups.{Groups}
use Rattle.view_patches.specs.Patches.{ArePatches, PatchesAnswer, groups_with, patched_groups}
use Rattle.view_patches.specs.Sides.{ChangesBag, TurnsGroups, TurnsAll}
use Rattle.view_patches.specs.declared.patch.Patches.{Patches}
use Rattle.view_patches.specs.declared.sides.Sides.{Sides}
use Rattle.view_upkeep.specs.Parts.{PartsAnswer}
use Rattle.view_upkeep.specs.Settled.{Settles, SettleAnswers, SidesAnswer, SidesBy}
use Rattle.view_upkeep.specs.Stands.{GroupsAnswer, MayTurn, PlainAnswer, TurnsTo}
use Rattle.view_upkeep.specs.Tallies.{turned_counts, turned_tally}
use Rattle.view_upkeep.specs.declared.parts.Parts.{Parts}
use Rattle.view_upkeep.specs.declared.settling.Turn.{Turn}

-- ---- the shares of the rows before and after

pub shares_change : (query : Query) (rows : List Row) (change : Change) → Holds rows change.removed
    → ChangesBag (shares_of query (in_row_order rows)) (shares_of query change.removed) (shares_of query change.added) (shares_of query (in_row_order (changed rows change)))
shares_change query rows change holds =
    let h = λ (row : Row). shared (share query row) in
    let left = surplus rows change.removed in
    record {
      rest = shares_of query left;
      left = record {
        sums = λ w.
            let u = λ (row : Row). weight_of w (h row) in
            omega (
              arith,
              sum-filter_map w h (in_row_order rows),
              sum-filter_map w h change.removed,
              sum-filter_map w h left,
              sum_by-append w (shares_of query change.removed) (shares_of query left),
              sum-in_row_order u rows,
              sum-held u rows change.removed holds,
            );
      };
      joined = record {
        sums = λ w.
            let u = λ (row : Row). weight_of w (h row) in
            omega (
              arith,
              sum-filter_map w h (in_row_order (changed rows change)),
              sum-filter_map w h change.added,
              sum-filter_map w h left,
              sum_by-append w (shares_of query change.added) (shares_of query left),
              sum-in_row_order u (changed rows change),
              sum-in_row_order u (left ++ change.added),
              sum_by-append u left change.added,
            );
      };
    }

-- ---- counts

turned-number : (new out old more : ℕ) → new + out ≡ old + more → new ≡ old + more - out
turned-number new out old more e = omega (arith, e)

turned-tally : (x : Expectation) (old out more new : List Row) → Moves old out more new → tally new x ≡ turned_tally (tally old x) (tally out x) (tally more x)
turned-tally x old out more new moves =
    let up = turned-number (tally new x).passed (tally out x).passed (tally old x).passed (tally more x).passed (moves.sums (λ row. cond (passes x row) 1 0)) in
    let down = turned-number (tally new x).failed (tally out x).failed (tally old x).failed (tally more x).failed (moves.sums (λ row. cond (not (passes x row)) 1 0)) in
    λ i. record { passed = up i; failed = down i }

pub counts_turned : (xs : List Expectation) (old out more new : List Row) → Moves old out more new → counts xs new ≡ turned_counts (counts xs old) (counts xs out) (counts xs more)
counts_turned [] old out more new moves = refl
counts_turned (x ∷ xs) old out more new moves = (λ i. turned-tally x old out more new moves i ∷ counts_turned xs old out more new moves i)

-- ---- parts in row order

moves-sorted : (old out more new : List Row) → Moves old out more new → Moves old (in_row_order out) (in_row_order more) new
moves-sorted old out more new moves = record { sums = λ w. omega (arith, moves.sums w, sum-in_row_order w out, sum-in_row_order w more) }

net-sorted : (xs : List Expectation) (out more : List Row) → net_change (kept_of xs (in_row_order out)) (kept_of xs (in_row_order more)) ≡ net_change (kept_of xs out) (kept_of xs more)
net-sorted xs out more = moved_net (kept_of xs (in_row_order out)) (kept_of xs out) (kept_of xs more) (kept_of xs (in_row_order more)) (record {
  sums = λ w.
      let k = λ (row : Row). is_keep (admit xs row) in
      let u = λ (row : Row). cond (k row) (w row) 0 in
      omega (
        arith,
        sum-filter w k (in_row_order out),
        sum-filter w k out,
        sum-filter w k (in_row_order more),
        sum-filter w k more,
        sum-in_row_order u out,
        sum-in_row_order u more,
      );
})

-- ---- the turn by its parts

is_turn : (query : Query) (xs : List Expectation) (rows : List Row) (change : Change) (before : Viewed) (groups : List Row) → MayTurn query xs rows change before
    → (is_grouped query ≡ true → Touches groups (shares_of query change.removed) (shares_of query change.added)) → IsTurn query xs rows change groups
is_turn query xs rows change before groups may touches = record { before = before; stands = may.stands; form = may.form; held = may.held; touches = touches }

-- what a turn settles is what the definition gives, where no fault and no sum stops the view
pub turn_settled : (query : Query) (xs : List Expectation) (rows : List Row) (change : Change) (before : Viewed) (groups : List Row) (kept : List Tally) (out more : List Row) (turn : Turn) → MayTurn query xs rows change before
    → (is_grouped query ≡ true → Touches groups (shares_of query change.removed) (shares_of query change.added)) → kept ≡ before.counts
    → part_stop query (shares_of query (in_row_order (changed rows change))) groups change.added ≡ None → out ≡ part_over query rows groups change.removed → more ≡ part_over query (changed rows change) groups change.added
    → Settles xs kept out more turn → TurnsTo query xs rows change before turn
unfolding is_turn
turn_settled query xs rows change before groups kept out more turn may touches counted none outs mores settles =
    let t = is_turn query xs rows change before groups may touches in
    let old = result_over query rows in
    let new = result_over query (changed rows change) in
    let a = part_over query rows groups change.removed in
    let b = part_over query (changed rows change) groups change.added in
    let goes_on : row_stop xs b ≡ None = sym (ap (row_stop xs) mores) ∙ settles.goes_on in
    let viewed-after : viewed query xs (changed rows change) ≡ Ok (judged_rows xs new) =
    turn_view query xs rows change groups t ∙ (λ i. unless_stopped (none i) (goes_on i) (judged_rows xs new)) in
    record {
      after = judged_rows xs new;
      is = viewed-after;
      change = settles.change ∙ (λ i. net_change (kept_of xs (in_row_order (outs i))) (kept_of xs (in_row_order (mores i)))) ∙ net-sorted xs a b ∙ sym (turn_net query xs rows change groups t);
      tallies = settles.tallies ∙ (λ i. turned_counts ((counted ∙ turn_counts query xs rows change groups t) i) (counts xs (in_row_order (outs i))) (counts xs (in_row_order (mores i))))
          ∙ sym (counts_turned xs old (in_row_order a) (in_row_order b) new (moves-sorted old a b new (turn_moves query xs rows change groups t)));
    }

-- the first stop of the rows that may come is the view's, since none of those that may go has one
pub turn_stopped : (query : Query) (xs : List Expectation) (rows : List Row) (change : Change) (before : Viewed) (groups out more : List Row) (stop : Stop) → MayTurn query xs rows change before
    → (is_grouped query ≡ true → Touches groups (shares_of query change.removed) (shares_of query change.added))
    → part_stop query (shares_of query (in_row_order (changed rows change))) groups change.added ≡ None → out ≡ part_over query rows groups change.removed → more ≡ part_over query (changed rows change) groups change.added
    → option_or (row_stop xs more) (row_stop xs out) ≡ Some stop → viewed query xs (changed rows change) ≡ Err stop
turn_stopped query xs rows change before groups out more stop may touches none outs mores stops =
    let t = is_turn query xs rows change before groups may touches in
    let stood : row_stop xs out ≡ None = ap (row_stop xs) outs ∙ turn_verdicts query xs rows change groups t in
    let first : row_stop xs (part_over query (changed rows change) groups change.added) ≡ Some stop =
    sym (ap (row_stop xs) mores) ∙ sym (or-none (row_stop xs more)) ∙ sym (ap (option_or (row_stop xs more)) stood) ∙ stops in
    turn_view query xs rows change groups t ∙ (λ i. unless_stopped (none i) (first i) (judged_rows xs (result_over query (changed rows change))))
  where
    or-none : {A : Type 0} (o : Option A) → option_or o None ≡ o
    or-none None = refl
    or-none (Some x) = refl

-- a fault or a sum that stops the view
pub turn_part_stopped : (query : Query) (xs : List Expectation) (rows : List Row) (change : Change) (before : Viewed) (groups : List Row) (stop : Stop) → MayTurn query xs rows change before
    → (is_grouped query ≡ true → Touches groups (shares_of query change.removed) (shares_of query change.added))
    → part_stop query (shares_of query (in_row_order (changed rows change))) groups change.added ≡ Some stop → viewed query xs (changed rows change) ≡ Err stop
turn_part_stopped query xs rows change before groups stop may touches first =
    let t = is_turn query xs rows change before groups may touches in
    turn_view query xs rows change groups t
    ∙ ap (λ o. unless_stopped o (row_stop xs (part_over query (changed rows change) groups change.added)) (judged_rows xs (result_over query (changed rows change)))) first

-- ---- a query that doesn't group

or-none : {A : Type 0} (o : Option A) → option_or o None ≡ o
or-none None = refl
or-none (Some x) = refl

plain-stop : (query : Query) (shares : List Share) (groups added : List Row) → is_grouped query ≡ false → part_stop query shares groups added ≡ first_fault query added
plain-stop query shares groups added e = ap (λ g. option_or (first_fault query added) (if g then first_of (flat_map (sum_stops query shares) (filter (is_there query shares) groups)) else None)) e ∙ or-none (first_fault query added)

plain-rows : (query : Query) (shares : List Share) (groups : List Row) (moved : List Share) → is_grouped query ≡ false → map (λ s. s.values) moved ≡ part_rows query shares groups moved
plain-rows query shares groups moved e = sym (ap (λ g. if g then rows_of_groups query shares groups else map (λ s. s.values) moved) e)

never-grouped : (query : Query) (outs mores : List Share) → is_grouped query ≡ false → is_grouped query ≡ true → Touches [] outs mores
never-grouped query outs mores e h = absurd (let none : false ≡ true = sym e ∙ h in cc)

pub plain_turned : (query : Query) (xs : List Expectation) (rows : List Row) (change : Change) (before : Viewed) (kept : List Tally) (parts : Parts) (result : Result Turn StopOr) → is_grouped query ≡ false → MayTurn query xs rows change before → kept ≡ before.counts
    → PartsAnswer query change.removed change.added (Ok parts) → SettleAnswers xs kept parts.before parts.after result → PlainAnswer query xs rows change before result
plain_turned query xs rows change before kept parts (Ok turn) e may counted is settles =
    let old = shares_of query (in_row_order rows) in
    let new = shares_of query (in_row_order (changed rows change)) in
    turn_settled query xs rows change before [] kept parts.before parts.after turn may (never-grouped query (shares_of query change.removed) (shares_of query change.added) e) counted (plain-stop query new [] change.added e ∙ is.0)
    (is.1 ∙ plain-rows query old [] (shares_of query change.removed) e) (is.2 ∙ plain-rows query new [] (shares_of query change.added) e) settles
plain_turned query xs rows change before kept parts (Err (either.Stop stop)) e may counted is stops =
    let old = shares_of query (in_row_order rows) in
    let new = shares_of query (in_row_order (changed rows change)) in
    turn_stopped query xs rows change before [] parts.before parts.after stop may (never-grouped query (shares_of query change.removed) (shares_of query change.added) e) (plain-stop query new [] change.added e ∙ is.0)
    (is.1 ∙ plain-rows query old [] (shares_of query change.removed) e) (is.2 ∙ plain-rows query new [] (shares_of query change.added) e) stops
plain_turned query xs rows change before kept parts (Err either.Memory) e may counted is settles = tt

pub plain_stopped : (query : Query) (xs : List Expectation) (rows : List Row) (change : Change) (before : Viewed) (end : StopOr) → is_grouped query ≡ false → MayTurn query xs rows change before → PartsAnswer query change.removed change.added (Err end)
    → PlainAnswer query xs rows change before (Err end)
plain_stopped query xs rows change before (either.Stop stop) e may is =
    turn_part_stopped query xs rows change before [] stop may (never-grouped query (shares_of query change.removed) (shares_of query change.added) e) (plain-stop query (shares_of query (in_row_order (changed rows change))) [] change.added e ∙ is)
plain_stopped query xs rows change before either.Memory e may is = tt

-- ---- a query that groups

grouped-stop : (query : Query) (shares : List Share) (groups added : List Row) → is_grouped query ≡ true → first_fault query added ≡ None
    → part_stop query shares groups added ≡ first_of (flat_map (sum_stops query shares) (filter (is_there query shares) groups))
grouped-stop query shares groups added e none =
    ap (λ g. option_or (first_fault query added) (if g then first_of (flat_map (sum_stops query shares) (filter (is_there query shares) groups)) else None)) e
    ∙ ap (λ f. option_or f (first_of (flat_map (sum_stops query shares) (filter (is_there query shares) groups)))) none

grouped-rows : (query : Query) (shares : List Share) (groups : List Row) (moved : List Share) → is_grouped query ≡ true → rows_of_groups query shares groups ≡ part_rows query shares groups moved
grouped-rows query shares groups moved e = sym (ap (λ g. if g then rows_of_groups query shares groups else map (λ s. s.values) moved) e)

-- what touching the groups by the patches of the change leaves
abbrev pub AfterIt : Query → List Row → Change → Patches → Groups → Sides → Type 0
AfterIt query rows change patches kept sides = TurnsGroups query (patched_groups patches) (shares_of query (in_row_order rows)) (shares_of query (in_row_order (changed rows change))) kept sides

-- where nothing stopped the view before, the side before has its rows
rows-before : (query : Query) (xs : List Expectation) (rows : List Row) (change : Change) (before : Viewed) (patches : Patches) (kept : Groups) (sides : Sides) → is_grouped query ≡ true → MayTurn query xs rows change before
    → Touches (patched_groups patches) (shares_of query change.removed) (shares_of query change.added) → AfterIt query rows change patches kept sides → sides.before.rows ≡ part_over query rows (patched_groups patches) change.removed
rows-before query xs rows change before patches kept sides e may touches after =
    let old = shares_of query (in_row_order rows) in
    let t = is_turn query xs rows change before (patched_groups patches) may (λ g. touches) in
    let none : sides.before.stop ≡ None = after.before.stop ∙ sym (grouped-stop query old (patched_groups patches) [] e refl) ∙ turn_sums query xs rows change (patched_groups patches) t in
    after.before.rows none ∙ grouped-rows query old (patched_groups patches) (shares_of query change.removed) e

turned-by : (query : Query) (xs : List Expectation) (rows : List Row) (change : Change) (before : Viewed) (patches : Patches) (kept : List Tally) (groups : Groups) (sides : Sides) (turn : Turn) (stop : Option Stop) → sides.after.stop ≡ stop → is_grouped query ≡ true
    → MayTurn query xs rows change before → PatchesAnswer query change.removed change.added (Ok patches) → kept ≡ before.counts → AfterIt query rows change patches groups sides
    → SidesBy xs kept sides.before.rows sides.after.rows stop (Ok turn) → TurnsTo query xs rows change before turn
turned-by query xs rows change before patches kept groups sides turn (Some sum) s e may is counted after settles = absurd settles
turned-by query xs rows change before patches kept groups sides turn None s e may is counted after settles =
    let new = shares_of query (in_row_order (changed rows change)) in
    turn_settled query xs rows change before (patched_groups patches) kept sides.before.rows sides.after.rows turn may (λ g. is.1.touches) counted (grouped-stop query new (patched_groups patches) change.added e is.0 ∙ sym after.after.stop ∙ s)
    (rows-before query xs rows change before patches groups sides e may is.1.touches after) (after.after.rows s ∙ grouped-rows query new (patched_groups patches) (shares_of query change.added) e) settles

stopped-by : (query : Query) (xs : List Expectation) (rows : List Row) (change : Change) (before : Viewed) (patches : Patches) (kept : List Tally) (groups : Groups) (sides : Sides) (why : Stop) (stop : Option Stop) → sides.after.stop ≡ stop → is_grouped query ≡ true
    → MayTurn query xs rows change before → PatchesAnswer query change.removed change.added (Ok patches) → AfterIt query rows change patches groups sides
    → SidesBy xs kept sides.before.rows sides.after.rows stop (Err (either.Stop why)) → viewed query xs (changed rows change) ≡ Err why
stopped-by query xs rows change before patches kept groups sides why (Some sum) s e may is after settles =
    let new = shares_of query (in_row_order (changed rows change)) in
    turn_part_stopped query xs rows change before (patched_groups patches) why may (λ g. is.1.touches) (grouped-stop query new (patched_groups patches) change.added e is.0 ∙ sym after.after.stop ∙ s ∙ ap Some (sym settles))
stopped-by query xs rows change before patches kept groups sides why None s e may is after settles =
    let new = shares_of query (in_row_order (changed rows change)) in
    turn_stopped query xs rows change before (patched_groups patches) sides.before.rows sides.after.rows why may (λ g. is.1.touches) (grouped-stop query new (patched_groups patches) change.added e is.0 ∙ sym after.after.stop ∙ s)
    (rows-before query xs rows change before patches groups sides e may is.1.touches after) (after.after.rows s ∙ grouped-rows query new (patched_groups patches) (shares_of query change.added) e) settles

-- the groups are touched
pub after_it : (query : Query) (xs : List Expectation) (rows : List Row) (change : Change) (before : Viewed) (patches : Patches) (start mid : Groups) (sides : Sides) → MayTurn query xs rows change before → PatchesAnswer query change.removed change.added (Ok patches)
    → KeepsShares query start (shares_of query (in_row_order rows))
    → ((removed added : List Row) → ArePatches patches (shares_of query removed) (shares_of query added) → TurnsAll query (patched_groups patches) (shares_of query removed) (shares_of query added) start mid sides) → AfterIt query rows change patches mid sides
after_it query xs rows change before patches start mid sides may is keeps turns =
    turns change.removed change.added is.1.patches (shares_of query (in_row_order rows)) (shares_of query (in_row_order (changed rows change))) (shares_change query rows change may.held) keeps

pub groups_turned : (query : Query) (xs : List Expectation) (rows : List Row) (change : Change) (before : Viewed) (patches : Patches) (kept : List Tally) (groups : Groups) (sides : Sides) (turn : Turn) → is_grouped query ≡ true → MayTurn query xs rows change before
    → PatchesAnswer query change.removed change.added (Ok patches) → kept ≡ before.counts → AfterIt query rows change patches groups sides → SidesAnswer xs kept sides (Ok turn) → GroupsAnswer query xs rows change before groups (Ok turn)
groups_turned query xs rows change before patches kept groups sides turn e may is counted after settles =
    (turned-by query xs rows change before patches kept groups sides turn sides.after.stop refl e may is counted after settles, after.keeps)

pub groups_stopped : (query : Query) (xs : List Expectation) (rows : List Row) (change : Change) (before : Viewed) (patches : Patches) (kept : List Tally) (mid last : Groups) (sides back : Sides) (why : Stop) → is_grouped query ≡ true → MayTurn query xs rows change before
    → PatchesAnswer query change.removed change.added (Ok patches) → AfterIt query rows change patches mid sides → SidesAnswer xs kept sides (Err (either.Stop why))
    → ((removed added : List Row) → ArePatches patches (shares_of query removed) (shares_of query added) → TurnsAll query (patched_groups patches) (shares_of query added) (shares_of query removed) mid last back) → GroupsAnswer query xs rows change before last (Err (either.Stop why))
groups_stopped query xs rows change before patches kept mid last sides back why e may is after settles undoes =
    let bag = shares_change query rows change may.held in
    let exchanged = undoes change.removed change.added is.1.patches (shares_of query (in_row_order (changed rows change))) (shares_of query (in_row_order rows)) (record { rest = bag.rest; left = bag.joined; joined = bag.left }) after.keeps in
    (stopped-by query xs rows change before patches kept mid sides why sides.after.stop refl e may is after settles, exchanged.keeps)

-- ---- a fault, before any group is touched

no-members-by : (a : Row) (s : Share) (members : List Share) (n : ℕ) (test : Bool) → (n ≡ 0 → members ≡ []) → cond test 1 0 + n ≡ 0 → cond test (s ∷ members) members ≡ []
no-members-by a s members n true behind e = absurd (let c : 1 + n ≡ 0 = e in let none : ⊥ = omega (arith, c) in none)
no-members-by a s members n false behind e = behind (let c : 0 + n ≡ 0 = e in omega (arith, c))

no-members : (a : Row) (shares : List Share) → count_of a (map (λ t. t.group) shares) ≡ 0 → members_of a shares ≡ []
no-members a [] e = refl
no-members a (s ∷ shares) e =
    let here : count_of a (map (λ t. t.group) (s ∷ shares)) ≡ cond (same_row s.group a) 1 0 + count_of a (map (λ t. t.group) shares) =
    count-cons a s.group (map (λ t. t.group) shares) ∙ ap (λ t. cond t 1 0 + count_of a (map (λ u. u.group) shares)) (same_row_laws.symm a s.group) in
    no-members-by a s (members_of a shares) (count_of a (map (λ t. t.group) shares)) (same_row s.group a) (no-members a shares) (sym here ∙ e)

front-none : (xs ys : List Share) → xs ++ ys ≡ [] → xs ≡ []
front-none [] ys e = refl
front-none (x ∷ xs) ys e = cc

back-none : (xs ys : List Share) → xs ++ ys ≡ [] → ys ≡ []
back-none [] ys e = e
back-none (x ∷ xs) ys e = cc

once-at-most : (n k : ℕ) → n ≡ cond (some k) 1 0 → n ≤ 1
once-at-most n zero e = let c : n ≡ 0 = e in omega (arith, c)
once-at-most n (suc k) e = let c : n ≡ 1 = e in omega (arith, c)

none-of : (n k : ℕ) → n ≡ cond (some k) 1 0 → n ≡ 0 → k ≡ 0
none-of n zero e h = refl
none-of n (suc k) e h = absurd (let c : n ≡ 1 = e in let none : ⊥ = omega (arith, c, h) in none)

all_touched : (outs mores : List Share) → Touches (in_row_order (groups_with (outs ++ mores))) outs mores
all_touched outs mores =
    let groups = map (λ t. t.group) (outs ++ mores) in
    let times : (a : Row) → count_of a (in_row_order (distinct groups)) ≡ cond (some (count_of a groups)) 1 0 = λ a. count-in_row_order a (distinct groups) ∙ count-distinct a groups in
    let nobody : (a : Row) → count_of a (in_row_order (distinct groups)) ≡ 0 → members_of a outs ++ members_of a mores ≡ [] =
    λ a none. sym (members_append a outs mores) ∙ no-members a (outs ++ mores) (none-of (count_of a (in_row_order (distinct groups))) (count_of a groups) (times a) none) in
    record {
      sorted = order-in_row_order (distinct groups);
      once = λ a. once-at-most (count_of a (in_row_order (distinct groups))) (count_of a groups) (times a);
      none_out = λ a none. front-none (members_of a outs) (members_of a mores) (nobody a none);
      none_more = λ a none. back-none (members_of a outs) (members_of a mores) (nobody a none);
    }

fault-stop : (query : Query) (shares : List Share) (groups added : List Row) (stop : Stop) → first_fault query added ≡ Some stop → part_stop query shares groups added ≡ Some stop
fault-stop query shares groups added stop e = ap (λ f. option_or f (if is_grouped query then first_of (flat_map (sum_stops query shares) (filter (is_there query shares) groups)) else None)) e

pub groups_faulted : (query : Query) (xs : List Expectation) (rows : List Row) (change : Change) (before : Viewed) (groups : Groups) (end : StopOr) → MayTurn query xs rows change before → PatchesAnswer query change.removed change.added (Err end)
    → KeepsShares query groups (shares_of query (in_row_order rows)) → GroupsAnswer query xs rows change before groups (Err end)
groups_faulted query xs rows change before groups (either.Stop stop) may is keeps =
    let outs = shares_of query change.removed in
    let mores = shares_of query change.added in
    let all = in_row_order (groups_with (outs ++ mores)) in
    (turn_part_stopped query xs rows change before all stop may (λ g. all_touched outs mores) (fault-stop query (shares_of query (in_row_order (changed rows change))) all change.added stop is), keeps)
groups_faulted query xs rows change before groups either.Memory may is keeps = tt
