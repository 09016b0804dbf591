-- What a change of the rows does to what a view gives, and to what stops it.
use Rattle.std.proofs.Common.{◌≡◌, ℕ, zero, suc, ◌≤◌, Bool, true, false, cond, if◌then◌else◌, List, [], map, filter, filter_map, Option, Some, None, Ok, refl, sym, ap, ◌∙◌, subst, arith}
use Rattle.std.specs.List.{sum_by, flat_map}
use Rattle.std.specs.Option.{option_or, option_to_list}
use Rattle.value_core.specs.declared.change.Change.{Change}
use Rattle.value_core.specs.Bags.{count_of, in_row_order, IsInOrder, net_change, changed}
use Rattle.value_core.specs.Changes.{IsChange, Holds}
use Rattle.value_core.specs.Order.{Row}
use Rattle.value_core.proofs.BagLemmas.{one, count-in_row_order, order-in_row_order, one_order}
use Rattle.plan_core.specs.declared.expectation.Expectation.{Expectation}
use Rattle.plan_core.specs.declared.query.Query.{Query}
use Rattle.plan_core.specs.declared.stop.Stop.{Stop}
use Rattle.plan_core.specs.Sound.{is_grouped}
use Rattle.flow_model.specs.Admission.{admit, counts}
use Rattle.row_expr.specs.Eval.{and_then}
use Rattle.flow_model.specs.Views.{Share, share, shared, fault_stop, groups_of, members_of, group_row, sum_stops, result_rows, first_of, unless, shares_of, query_stop, Viewed, is_keep, verdict_stop, judged_view, viewed}
use Rattle.view_laws.specs.Weights.{IsOneBag, Moves}
use Rattle.view_laws.specs.Touched.{is_there, rows_of_groups, Touches}
use Rattle.view_laws.specs.Turned.{IsTurn, part_rows, part_stop, row_stop, unless_stopped, kept_of, judged_rows}
use Rattle.view_laws.proofs.Weighing.{change_moves, moved_net, moves-filter, sum-map, sum-filter_map, sum-held, sum-in_row_order, weight_of}
use Rattle.view_laws.proofs.Groups.{count-filter, touched_within}
use Rattle.view_laws.proofs.Stops.{loud, order-filter, same_stops, quiet_count, one_each, no_first}
use Rattle.view_laws.proofs.ViewLemmas.{stops_of_bag, has_groups, order_groups, there_of_bag, untouched_bag, grouped_moves, plain_moves}

-- ---- a part of a bag

-- one bag holds another
pub record IsPart {A : Type 0} (part whole : List A) : Type 0 where
  pub sums : (weight : A → ℕ) → sum_by weight part ≤ sum_by weight whole

pub held_part : (old removed : List Row) → Holds old removed → IsPart removed old
held_part old removed holds = record { sums = λ w. omega (arith, sum-held w old removed holds) }

-- ---- a walk that comes upon nothing in the old rows comes upon the same in the new ones and in those that came

pub moved_stops : {S : Type 0} (h : Row → List S) (old out more new : List Row) → IsInOrder more → IsInOrder new → Moves old out more new → IsPart out old → flat_map h old ≡ [] → flat_map h new ≡ flat_map h more
moved_stops h old out more new s t moves part quiet =
    same_stops h new more t s (λ a l. omega (arith, moves.sums (one a), part.sums (one a), quiet_count h a old quiet l))

option-stops : {S : Type 0} (h : Row → Option S) (old out more new : List Row) → IsInOrder more → IsInOrder new → Moves old out more new → IsPart out old → filter_map h old ≡ [] → filter_map h new ≡ filter_map h more
option-stops h old out more new s t moves part quiet =
    one_each h new ∙ moved_stops (λ a. option_to_list (h a)) old out more new s t moves part (sym (one_each h old) ∙ quiet) ∙ sym (one_each h more)

-- ---- rows in order

pub in_order_already : (rows : List Row) → IsInOrder rows → in_row_order rows ≡ rows
in_order_already rows s = one_order (in_row_order rows) rows (order-in_row_order rows) s (λ a. count-in_row_order a rows)

sorted_moves : (old out more new : List Row) → Moves old out more new → Moves (in_row_order old) out more (in_row_order new)
sorted_moves old out more new moves = record { sums = λ w. omega (arith, moves.sums w, sum-in_row_order w old, sum-in_row_order w new) }

pub readings_move : (query : Query) (old : List Row) (change : Change) → Holds old change.removed
    → Moves (shares_of query (in_row_order old)) (shares_of query (in_row_order change.removed)) (shares_of query (in_row_order change.added)) (shares_of query (in_row_order (changed old change)))
readings_move query old change holds = record {
  sums = λ w.
      let h = λ (row : Row). shared (share query row) in
      let u = λ (row : Row). weight_of w (h row) in
      let new = changed old change in
      let moves : Moves old change.removed change.added new = change_moves old change holds in
      omega (
        arith,
        moves.sums u,
        sum-filter_map w h (in_row_order old),
        sum-filter_map w h (in_row_order change.removed),
        sum-filter_map w h (in_row_order change.added),
        sum-filter_map w h (in_row_order new),
        sum-in_row_order u old,
        sum-in_row_order u change.removed,
        sum-in_row_order u change.added,
        sum-in_row_order u new,
      );
}

readings_part : (query : Query) (old removed : List Row) → Holds old removed → IsPart (shares_of query (in_row_order removed)) (shares_of query (in_row_order old))
readings_part query old removed holds = record {
  sums = λ w.
      let h = λ (row : Row). shared (share query row) in
      let u = λ (row : Row). weight_of w (h row) in
      omega (arith, sum-filter_map w h (in_row_order old), sum-filter_map w h (in_row_order removed), sum-in_row_order u old, sum-in_row_order u removed, sum-held u old removed holds);
}

-- ---- what a view without a stop tells

abbrev faults : Query → List Row → List Stop
faults query rows = filter_map (λ row. fault_stop row (share query row)) (in_row_order rows)

abbrev sums : Query → List Row → List Stop
sums query rows = flat_map (sum_stops query (shares_of query (in_row_order rows))) (groups_of query (shares_of query (in_row_order rows)))

abbrev verdicts : List Expectation → List Row → List Stop
verdicts xs rows = filter_map (λ row. verdict_stop row (admit xs row)) rows

pub record Quiet (query : Query) (xs : List Expectation) (rows : List Row) (before : Viewed) : Type 0 where
  pub no_fault : filter_map (λ row. fault_stop row (share query row)) (in_row_order rows) ≡ []
  pub no_sum : is_grouped query ≡ true → flat_map (sum_stops query (shares_of query (in_row_order rows))) (groups_of query (shares_of query (in_row_order rows))) ≡ []
  pub no_verdict : filter_map (λ row. verdict_stop row (admit xs row)) (result_rows query (shares_of query (in_row_order rows))) ≡ []
  pub is : before ≡ record { rows = filter (λ row. is_keep (admit xs row)) (result_rows query (shares_of query (in_row_order rows))); counts = counts xs (result_rows query (shares_of query (in_row_order rows))) }

neither : {S : Type 0} (o p : Option S) → option_or o p ≡ None → (o ≡ None) × (p ≡ None)
neither None p e = (refl, e)
neither (Some s) p e = cc

sums-by : (f s : List Stop) (test : Bool) → option_or (first_of f) (if test then first_of s else None) ≡ None → (f ≡ []) × (test ≡ true → s ≡ [])
sums-by f s false e = let both = neither (first_of f) None e in (no_first f both.0, λ t. cc)
sums-by f s true e = let both = neither (first_of f) (first_of s) e in (no_first f both.0, λ t. no_first s both.1)

-- ---- what a view gives, by its two stops

shape-unless : (verdict : Option Stop) (after : Viewed) → unless verdict after ≡ unless_stopped None verdict after
shape-unless None after = refl
shape-unless (Some stop) after = refl

shape-by : (xs : List Expectation) (result : List Row) (stop : Option Stop) → and_then (judged_view xs) (unless stop result) ≡ unless_stopped stop (first_of (verdicts xs result)) (judged_rows xs result)
shape-by xs result None = shape-unless (first_of (verdicts xs result)) (judged_rows xs result)
shape-by xs result (Some stop) = refl

pub viewed_shape : (query : Query) (xs : List Expectation) (rows : List Row)
    → viewed query xs rows ≡ unless_stopped (query_stop query (in_row_order rows)) (first_of (verdicts xs (result_rows query (shares_of query (in_row_order rows))))) (judged_rows xs (result_rows query (shares_of query (in_row_order rows))))
viewed_shape query xs rows = shape-by xs (result_rows query (shares_of query (in_row_order rows))) (query_stop query (in_row_order rows))

ok-shape : (stop verdict : Option Stop) (after before : Viewed) → unless_stopped stop verdict after ≡ Ok before → (stop ≡ None) × (verdict ≡ None) × (after ≡ before)
ok-shape (Some stop) verdict after before e = cc
ok-shape None (Some stop) after before e = cc
ok-shape None None after before e = (refl, refl, cc)

pub quiet : (query : Query) (xs : List Expectation) (rows : List Row) (before : Viewed) → viewed query xs rows ≡ Ok before → Quiet query xs rows before
quiet query xs rows before e =
    let result = result_rows query (shares_of query (in_row_order rows)) in
    let parts = ok-shape (query_stop query (in_row_order rows)) (first_of (verdicts xs result)) (judged_rows xs result) before (sym (viewed_shape query xs rows) ∙ e) in
    let both = sums-by (faults query rows) (sums query rows) (is_grouped query) parts.0 in
    record { no_fault = both.0; no_sum = both.1; no_verdict = no_first (verdicts xs result) parts.1; is = sym parts.2 }

-- ---- the stops after a change, from what it touches alone

pub faults_after : (query : Query) (old : List Row) (change : Change) → IsChange change → Holds old change.removed → faults query old ≡ [] → faults query (changed old change) ≡ faults query change.added
faults_after query old change form holds quiet =
    option-stops (λ row. fault_stop row (share query row)) (in_row_order old) change.removed (in_row_order change.added) (in_row_order (changed old change)) (order-in_row_order change.added)
    (order-in_row_order (changed old change))
    (record { sums = λ w. omega (arith, sum-in_row_order w old, sum-in_row_order w change.added, sum-in_row_order w (changed old change), (change_moves old change holds).sums w) })
    (record { sums = λ w. omega (arith, sum-in_row_order w old, sum-held w old change.removed holds) }) quiet

touched-count-by : (n : ℕ) (there there' loud' : Bool) (k : ℕ) → n ≤ 1 → loud' ≡ true → (n ≡ 0 → there ≡ there') → (n ≡ 0 → loud' ≡ true → k ≡ 0) → k ≡ cond there 1 0 → cond there' 1 0 ≡ cond there' n 0
touched-count-by zero true true l k h e t q c = absurd (let none : ⊥ = omega (arith, q refl e, c) in none)
touched-count-by zero false true l k h e t q c = let none : false ≡ true = t refl in cc
touched-count-by zero there false l k h e t q c = refl
touched-count-by (suc zero) there there' l k h e t q c = refl
touched-count-by (suc (suc n)) there there' l k h e t q c = absurd (let none : ⊥ = omega arith in none)

pub sums_after : (query : Query) (touched : List Row) (old out more new : List Share) → Touches touched out more → Moves old out more new
    → flat_map (sum_stops query old) (groups_of query old) ≡ [] → flat_map (sum_stops query new) (groups_of query new) ≡ flat_map (sum_stops query new) (filter (is_there query new) touched)
sums_after query touched old out more new touches moves quiet =
    same_stops (sum_stops query new) (groups_of query new) (filter (is_there query new) touched) (order_groups query new) (order-filter (is_there query new) touched touches.sorted) (λ a l.
    let stays : count_of a touched ≡ 0 → IsOneBag (members_of a old) (members_of a new) = untouched_bag touched old out more new touches moves a in
    (has_groups query new).count a
    ∙ touched-count-by (count_of a touched) (is_there query old a) (is_there query new a) (loud (sum_stops query new a)) (count_of a (groups_of query old)) (touches.once a) l
    (λ none. there_of_bag query old new a (stays none))
    (λ none e. quiet_count (sum_stops query old) a (groups_of query old) quiet (ap loud (stops_of_bag query old new a (stays none)) ∙ e))
    ((has_groups query old).count a)
    ∙ sym (count-filter (is_there query new) a touched))

pub verdicts_after : (xs : List Expectation) (old out more new : List Row) → IsInOrder new → Moves old out more new → IsPart out old → verdicts xs old ≡ [] → verdicts xs new ≡ verdicts xs (in_row_order more)
verdicts_after xs old out more new s moves part quiet =
    option-stops (λ row. verdict_stop row (admit xs row)) old out (in_row_order more) new (order-in_row_order more) s
    (record { sums = λ w. omega (arith, moves.sums w, sum-in_row_order w more) }) part quiet

pub order_result : (query : Query) (shares : List Share) → IsInOrder (result_rows query shares)
order_result query shares = order-in_row_order (if is_grouped query then map (group_row query shares) (groups_of query shares) else map (λ r. r.values) shares)

pub grouped_part : (query : Query) (touched : List Row) (old out more : List Share) → is_grouped query ≡ true → Touches touched out more → IsPart (rows_of_groups query old touched) (result_rows query old)
grouped_part query touched old out more e touches = record {
  sums = λ w. rw e (omega (arith, sum-in_row_order w (map (group_row query old) (groups_of query old)), touched_within w (group_row query old) (is_there query old) (groups_of query old) touched (has_groups query old) touches.once));
}

pub plain_part : (query : Query) (old out : List Share) → is_grouped query ≡ false → IsPart out old → IsPart (map (λ r. r.values) out) (result_rows query old)
plain_part query old out e part = record {
  sums = λ w.
      let f = λ (r : Share). r.values in
      rw e (omega (arith, sum-in_row_order w (map f old), sum-map w f old, sum-map w f out, part.sums (λ r. w (f r))));
}

-- ---- the net change of what is kept

pub kept_net : (xs : List Expectation) (old out more new : List Row) → Moves old out more new
    → net_change (filter (λ row. is_keep (admit xs row)) old) (filter (λ row. is_keep (admit xs row)) new) ≡ net_change (filter (λ row. is_keep (admit xs row)) out) (filter (λ row. is_keep (admit xs row)) more)
kept_net xs old out more new moves =
    let keeps = λ (row : Row). is_keep (admit xs row) in
    moved_net (filter keeps old) (filter keeps out) (filter keeps more) (filter keeps new) (moves-filter keeps old out more new moves)

-- ---- the whole turn

-- the shares of rows in order move by those of the rows that go and come
pub turn_shares : (query : Query) (xs : List Expectation) (rows : List Row) (change : Change) (touched : List Row) → IsTurn query xs rows change touched
    → Moves (shares_of query (in_row_order rows)) (shares_of query change.removed) (shares_of query change.added) (shares_of query (in_row_order (changed rows change)))
turn_shares query xs rows change touched turn =
    let moves = readings_move query rows change turn.held in
    let removed : in_row_order change.removed ≡ change.removed = in_order_already change.removed turn.form.0 in
    let added : in_row_order change.added ≡ change.added = in_order_already change.added turn.form.1 in
    subst (λ r. Moves (shares_of query (in_row_order rows)) (shares_of query r) (shares_of query change.added) (shares_of query (in_row_order (changed rows change)))) removed
    (subst (λ a. Moves (shares_of query (in_row_order rows)) (shares_of query (in_row_order change.removed)) (shares_of query a) (shares_of query (in_row_order (changed rows change)))) added moves)

turn_part : (query : Query) (xs : List Expectation) (rows : List Row) (change : Change) (touched : List Row) → IsTurn query xs rows change touched
    → IsPart (shares_of query change.removed) (shares_of query (in_row_order rows))
turn_part query xs rows change touched turn =
    subst (λ r. IsPart (shares_of query r) (shares_of query (in_row_order rows))) (in_order_already change.removed turn.form.0) (readings_part query rows change.removed turn.held)

moves-by : (query : Query) (touched : List Row) (old out more new : List Share) (test : Bool) → is_grouped query ≡ test → (is_grouped query ≡ true → Touches touched out more) → Moves old out more new
    → Moves (result_rows query old) (if test then rows_of_groups query old touched else map (λ s. s.values) out) (if test then rows_of_groups query new touched else map (λ s. s.values) more) (result_rows query new)
moves-by query touched old out more new true e touches moves = grouped_moves query touched old out more new e (touches e) moves
moves-by query touched old out more new false e touches moves = plain_moves query old out more new e moves

part-by : (query : Query) (touched : List Row) (old out more : List Share) (test : Bool) → is_grouped query ≡ test → (is_grouped query ≡ true → Touches touched out more) → IsPart out old
    → IsPart (if test then rows_of_groups query old touched else map (λ s. s.values) out) (result_rows query old)
part-by query touched old out more true e touches part = grouped_part query touched old out more e (touches e)
part-by query touched old out more false e touches part = plain_part query old out e part

pub turn_moves : (query : Query) (xs : List Expectation) (rows : List Row) (change : Change) (touched : List Row) → IsTurn query xs rows change touched
    → Moves (result_rows query (shares_of query (in_row_order rows))) (part_rows query (shares_of query (in_row_order rows)) touched (shares_of query change.removed))
    (part_rows query (shares_of query (in_row_order (changed rows change))) touched (shares_of query change.added)) (result_rows query (shares_of query (in_row_order (changed rows change))))
turn_moves query xs rows change touched turn = moves-by query touched (shares_of query (in_row_order rows)) (shares_of query change.removed) (shares_of query change.added)
    (shares_of query (in_row_order (changed rows change))) (is_grouped query) refl turn.touches (turn_shares query xs rows change touched turn)

stop-by : (query : Query) (touched : List Row) (old out more new : List Share) (test : Bool) → is_grouped query ≡ test → (is_grouped query ≡ true → Touches touched out more) → Moves old out more new
    → (is_grouped query ≡ true → flat_map (sum_stops query old) (groups_of query old) ≡ [])
    → (if test then first_of (flat_map (sum_stops query new) (groups_of query new)) else None) ≡ (if test then first_of (flat_map (sum_stops query new) (filter (is_there query new) touched)) else None)
stop-by query touched old out more new true e touches moves quiet = ap first_of (sums_after query touched old out more new (touches e) moves (quiet e))
stop-by query touched old out more new false e touches moves quiet = refl

-- what a view gives after a change, by the stops of what moves
pub turn_view : (query : Query) (xs : List Expectation) (rows : List Row) (change : Change) (touched : List Row) → IsTurn query xs rows change touched
    → viewed query xs (changed rows change) ≡ unless_stopped (part_stop query (shares_of query (in_row_order (changed rows change))) touched change.added)
    (row_stop xs (part_rows query (shares_of query (in_row_order (changed rows change))) touched (shares_of query change.added)))
    (judged_rows xs (result_rows query (shares_of query (in_row_order (changed rows change)))))
turn_view query xs rows change touched turn =
    let q = quiet query xs rows turn.before turn.stands in
    let new = shares_of query (in_row_order (changed rows change)) in
    let old = shares_of query (in_row_order rows) in
    let out = shares_of query change.removed in
    let more = shares_of query change.added in
    let fault : faults query (changed rows change) ≡ filter_map (λ row. fault_stop row (share query row)) change.added =
    faults_after query rows change turn.form turn.held q.no_fault ∙ ap (filter_map (λ row. fault_stop row (share query row))) (in_order_already change.added turn.form.1) in
    let sum = stop-by query touched old out more new (is_grouped query) refl turn.touches (turn_shares query xs rows change touched turn) q.no_sum in
    let verdict : verdicts xs (result_rows query new) ≡ verdicts xs (in_row_order (part_rows query new touched more)) =
    verdicts_after xs (result_rows query old) (part_rows query old touched out) (part_rows query new touched more) (result_rows query new) (order_result query new)
    (turn_moves query xs rows change touched turn) (part-by query touched old out more (is_grouped query) refl turn.touches (turn_part query xs rows change touched turn)) q.no_verdict in
    viewed_shape query xs (changed rows change) ∙ (λ i. unless_stopped (option_or (first_of (fault i)) (sum i)) (first_of (verdict i)) (judged_rows xs (result_rows query new)))

pub turn_net : (query : Query) (xs : List Expectation) (rows : List Row) (change : Change) (touched : List Row) (turn : IsTurn query xs rows change touched)
    → net_change turn.before.rows (kept_of xs (result_rows query (shares_of query (in_row_order (changed rows change)))))
    ≡ net_change (kept_of xs (part_rows query (shares_of query (in_row_order rows)) touched (shares_of query change.removed)))
    (kept_of xs (part_rows query (shares_of query (in_row_order (changed rows change))) touched (shares_of query change.added)))
turn_net query xs rows change touched turn =
    let new = shares_of query (in_row_order (changed rows change)) in
    let old = shares_of query (in_row_order rows) in
    ap (λ (before : Viewed). net_change before.rows (kept_of xs (result_rows query new))) (quiet query xs rows turn.before turn.stands).is
    ∙ kept_net xs (result_rows query old) (part_rows query old touched (shares_of query change.removed)) (part_rows query new touched (shares_of query change.added)) (result_rows query new)
    (turn_moves query xs rows change touched turn)

pub turn_counts : (query : Query) (xs : List Expectation) (rows : List Row) (change : Change) (touched : List Row) (turn : IsTurn query xs rows change touched)
    → turn.before.counts ≡ counts xs (result_rows query (shares_of query (in_row_order rows)))
turn_counts query xs rows change touched turn = ap (λ (before : Viewed). before.counts) (quiet query xs rows turn.before turn.stands).is

-- ---- nothing stopped what was there

part-quiet : {S : Type 0} (h : Row → List S) (part whole : List Row) → IsPart part whole → flat_map h whole ≡ [] → flat_map h (in_row_order part) ≡ []
part-quiet h part whole within none =
    same_stops h (in_row_order part) [] (order-in_row_order part) tt (λ a l. omega (arith, count-in_row_order a part, within.sums (one a), quiet_count h a whole none l))

absent : (there : Bool) (n : ℕ) → ◌≡◌ {A = ℕ} (cond there 1 0) 0 → cond there n 0 ≡ 0
absent true n e = absurd (let none : ◌≡◌ {A = ℕ} 1 0 = e in omega (arith, none))
absent false n e = refl

sums-quiet : (query : Query) (touched : List Row) (old out more : List Share) → Touches touched out more → flat_map (sum_stops query old) (groups_of query old) ≡ []
    → flat_map (sum_stops query old) (filter (is_there query old) touched) ≡ []
sums-quiet query touched old out more touches none =
    same_stops (sum_stops query old) (filter (is_there query old) touched) [] (order-filter (is_there query old) touched touches.sorted) tt
    (λ a l. count-filter (is_there query old) a touched ∙ absent (is_there query old a) (count_of a touched) (sym ((has_groups query old).count a) ∙ quiet_count (sum_stops query old) a (groups_of query old) none l))

quiet-by : (query : Query) (touched : List Row) (old out more : List Share) (test : Bool) → is_grouped query ≡ test → (is_grouped query ≡ true → Touches touched out more)
    → (is_grouped query ≡ true → flat_map (sum_stops query old) (groups_of query old) ≡ []) → (if test then first_of (flat_map (sum_stops query old) (filter (is_there query old) touched)) else None) ≡ None
quiet-by query touched old out more true e touches none = ap first_of (sums-quiet query touched old out more (touches e) (none e))
quiet-by query touched old out more false e touches none = refl

pub turn_sums : (query : Query) (xs : List Expectation) (rows : List Row) (change : Change) (touched : List Row) → IsTurn query xs rows change touched
    → part_stop query (shares_of query (in_row_order rows)) touched [] ≡ None
turn_sums query xs rows change touched turn =
    quiet-by query touched (shares_of query (in_row_order rows)) (shares_of query change.removed) (shares_of query change.added) (is_grouped query) refl turn.touches (quiet query xs rows turn.before turn.stands).no_sum

pub turn_verdicts : (query : Query) (xs : List Expectation) (rows : List Row) (change : Change) (touched : List Row) → IsTurn query xs rows change touched
    → row_stop xs (part_rows query (shares_of query (in_row_order rows)) touched (shares_of query change.removed)) ≡ None
turn_verdicts query xs rows change touched turn =
    let old = shares_of query (in_row_order rows) in
    let part = part_rows query old touched (shares_of query change.removed) in
    let verdict = λ (row : Row). verdict_stop row (admit xs row) in
    let within : IsPart part (result_rows query old) = part-by query touched old (shares_of query change.removed) (shares_of query change.added) (is_grouped query) refl turn.touches (turn_part query xs rows change touched turn) in
    ap first_of (one_each verdict (in_row_order part) ∙ part-quiet (λ a. option_to_list (verdict a)) part (result_rows query old) within (sym (one_each verdict (result_rows query old)) ∙ (quiet query xs rows turn.before turn.stands).no_verdict))
