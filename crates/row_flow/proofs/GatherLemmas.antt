-- The results of rows, one after another.
use Rattle.std.proofs.Common.{◌≡◌, ◌∙◌, refl, sym, ap, subst, ℕ, ◌+◌, List, [], ◌∷◌, ◌++◌, length, Bool, Some, None, Result, Ok, arith, append_assoc}
use Rattle.std.specs.Prelude.{filter_map, option_map, option_to_list}
use Rattle.std.specs.List.{cons_option}
use Rattle.std.proofs.lemmas.List.{append-nil}
use Rattle.value_core.specs.declared.change.Tally.{Tally}
use Rattle.value_core.specs.declared.event.NumberedEvent.{NumberedEvent}
use Rattle.value_core.specs.Order.{Row}
use Rattle.value_core.specs.Tallies.{added}
use Rattle.plan_core.specs.declared.expectation.Expectation.{Expectation}
use Rattle.plan_core.specs.declared.stop.Stop.{Stop}
use Rattle.flow_model.specs.Admission.{counts}
use Rattle.flow_model.specs.Halts.{numbered as with_number}
use Rattle.row_flow.specs.declared.result.Judged.{Judged}
use Rattle.row_flow.specs.declared.result.Judged.TheVariants.{Passed, Kept, Dropped, Upsert, Other, Halt}
use Rattle.row_flow.specs.declared.result.RowResult.{RowResult}
use Rattle.row_flow.specs.Gathers.{Gathers, counted}
use Rattle.row_flow.specs.Results.{AreMarks, Come, before_halt, event_of, events_from, first_halt, halt_of, kept_of, seen_of}
use Rattle.row_flow.proofs.CountLemmas.{counts_on, length-counts, whole, zeros}

-- what stands before the rows that are left
pub record Leaves {E : Type 0} (xs : List Expectation) (wanted : List Judged) (read : ℕ) (rows : List Row) (events : List NumberedEvent) (tallies : List Tally) (left : List (Result RowResult E)) : Type 0 where
  pub rest : List Judged
  pub come : Come xs rest left
  pub halts : first_halt rest ≡ first_halt wanted
  pub reads : read + length (before_halt rest) ≡ length (before_halt wanted)
  pub keeps : rows ++ filter_map kept_of (before_halt rest) ≡ filter_map kept_of (before_halt wanted)
  pub gives : events ++ events_from (read + 1) (before_halt rest) ≡ events_from 1 (before_halt wanted)
  pub counts_up : added tallies (counts xs (filter_map seen_of (before_halt rest))) ≡ counts xs (filter_map seen_of (before_halt wanted))

pub begins : {E : Type 0} (xs : List Expectation) (wanted : List Judged) (left : List (Result RowResult E)) → Come xs wanted left → Leaves xs wanted 0 [] [] (counts xs []) left
begins xs wanted left come = record {
  rest = wanted;
  come = come;
  halts = refl;
  reads = omega arith;
  keeps = refl;
  gives = refl;
  counts_up = zeros xs (counts xs (filter_map seen_of (before_halt wanted))) (length-counts xs (filter_map seen_of (before_halt wanted)));
}

-- a row that doesn't stop
halts-by : (judged : Judged) (more : List Judged) → halt_of judged ≡ None → first_halt (judged ∷ more) ≡ first_halt more
halts-by Passed more none = refl
halts-by (Kept row) more none = refl
halts-by (Dropped row) more none = refl
halts-by (Upsert event) more none = refl
halts-by (Other event) more none = refl
halts-by (Halt stop) more none = absurd cc

before-by : (judged : Judged) (more : List Judged) → halt_of judged ≡ None → before_halt (judged ∷ more) ≡ judged ∷ before_halt more
before-by Passed more none = refl
before-by (Kept row) more none = refl
before-by (Dropped row) more none = refl
before-by (Upsert event) more none = refl
before-by (Other event) more none = refl
before-by (Halt stop) more none = absurd cc

kept-by : (judged : Judged) (rest : List Row) → cons_option (kept_of judged) rest ≡ option_to_list (kept_of judged) ++ rest
kept-by Passed rest = refl
kept-by (Kept row) rest = refl
kept-by (Dropped row) rest = refl
kept-by (Upsert event) rest = refl
kept-by (Other event) rest = refl
kept-by (Halt stop) rest = refl

events-by : (number : ℕ) (judged : Judged) (rest : List NumberedEvent) → cons_option (option_map (with_number number) (event_of judged)) rest ≡ option_to_list (option_map (with_number number) (event_of judged)) ++ rest
events-by number Passed rest = refl
events-by number (Kept row) rest = refl
events-by number (Dropped row) rest = refl
events-by number (Upsert event) rest = refl
events-by number (Other event) rest = refl
events-by number (Halt stop) rest = refl

-- the next row, which doesn't stop
more_by : {E : Type 0} (xs : List Expectation) (wanted : List Judged) (read : ℕ) (rows : List Row) (events : List NumberedEvent) (tallies : List Tally) (left : List (Result RowResult E))
    (judged : Judged) (marks : List Bool) (more : List Judged) → AreMarks xs (seen_of judged) marks → Come xs more left → halt_of judged ≡ None → length tallies ≡ length xs
    → first_halt (judged ∷ more) ≡ first_halt wanted
    → read + length (before_halt (judged ∷ more)) ≡ length (before_halt wanted)
    → rows ++ filter_map kept_of (before_halt (judged ∷ more)) ≡ filter_map kept_of (before_halt wanted)
    → events ++ events_from (read + 1) (before_halt (judged ∷ more)) ≡ events_from 1 (before_halt wanted)
    → added tallies (counts xs (filter_map seen_of (before_halt (judged ∷ more)))) ≡ counts xs (filter_map seen_of (before_halt wanted))
    → Leaves xs wanted (read + 1) (rows ++ option_to_list (kept_of judged)) (events ++ option_to_list (option_map (with_number (read + 1)) (event_of judged))) (counted judged marks tallies) left
more_by xs wanted read rows events tallies left judged marks more are come none same halts reads keeps gives counts_up =
    let front = before-by judged more none in
    let behind = before_halt more in
    let count : read + 1 + length behind ≡ read + length (judged ∷ behind) = omega arith in
    record {
      rest = more;
      come = come;
      halts = sym (halts-by judged more none) ∙ halts;
      reads = count ∙ ap (λ (list : List Judged). read + length list) (sym front) ∙ reads;
      keeps = append_assoc rows (option_to_list (kept_of judged)) (filter_map kept_of behind) ∙ ap (λ (list : List Row). rows ++ list) (sym (kept-by judged (filter_map kept_of behind)))
          ∙ ap (λ (list : List Judged). rows ++ filter_map kept_of list) (sym front) ∙ keeps;
      gives = append_assoc events (option_to_list (option_map (with_number (read + 1)) (event_of judged))) (events_from (read + 1 + 1) behind)
          ∙ ap (λ (list : List NumberedEvent). events ++ list) (sym (events-by (read + 1) judged (events_from (read + 1 + 1) behind)))
          ∙ ap (λ (list : List Judged). events ++ events_from (read + 1) list) (sym front) ∙ gives;
      counts_up = sym (counts_on xs (seen_of judged) marks tallies (filter_map seen_of behind) are same)
          ∙ ap (λ (list : List Judged). added tallies (counts xs (filter_map seen_of list))) (sym front) ∙ counts_up;
    }

next-by : {E : Type 0} (xs : List Expectation) (wanted : List Judged) (read : ℕ) (rows : List Row) (events : List NumberedEvent) (tallies : List Tally) (left : List (Result RowResult E))
    (came : RowResult) (rest : List Judged) → Come xs rest (Ok came ∷ left)
    → first_halt rest ≡ first_halt wanted
    → read + length (before_halt rest) ≡ length (before_halt wanted)
    → rows ++ filter_map kept_of (before_halt rest) ≡ filter_map kept_of (before_halt wanted)
    → events ++ events_from (read + 1) (before_halt rest) ≡ events_from 1 (before_halt wanted)
    → added tallies (counts xs (filter_map seen_of (before_halt rest))) ≡ counts xs (filter_map seen_of (before_halt wanted))
    → halt_of came.judged ≡ None → length tallies ≡ length xs
    → Leaves xs wanted (read + 1) (rows ++ option_to_list (kept_of came.judged)) (events ++ option_to_list (option_map (with_number (read + 1)) (event_of came.judged))) (counted came.judged came.marks tallies) left
next-by xs wanted read rows events tallies left came [] come halts reads keeps gives counts_up none same = absurd come
next-by xs wanted read rows events tallies left came (judged ∷ more) come halts reads keeps gives counts_up none same =
    let is = sym come.0.judged in
    more_by xs wanted read rows events tallies left came.judged came.marks more (subst (λ (j : Judged). AreMarks xs (seen_of j) came.marks) is come.0.marks) come.1 none same
    (subst (λ (j : Judged). first_halt (j ∷ more) ≡ first_halt wanted) is halts)
    (subst (λ (j : Judged). read + length (before_halt (j ∷ more)) ≡ length (before_halt wanted)) is reads)
    (subst (λ (j : Judged). rows ++ filter_map kept_of (before_halt (j ∷ more)) ≡ filter_map kept_of (before_halt wanted)) is keeps)
    (subst (λ (j : Judged). events ++ events_from (read + 1) (before_halt (j ∷ more)) ≡ events_from 1 (before_halt wanted)) is gives)
    (subst (λ (j : Judged). added tallies (counts xs (filter_map seen_of (before_halt (j ∷ more)))) ≡ counts xs (filter_map seen_of (before_halt wanted))) is counts_up)

pub next_row : {E : Type 0} (xs : List Expectation) (wanted : List Judged) (read : ℕ) (rows : List Row) (events : List NumberedEvent) (tallies : List Tally) (left : List (Result RowResult E))
    (came : RowResult) → Leaves xs wanted read rows events tallies (Ok came ∷ left) → halt_of came.judged ≡ None → length tallies ≡ length xs
    → Leaves xs wanted (read + 1) (rows ++ option_to_list (kept_of came.judged)) (events ++ option_to_list (option_map (with_number (read + 1)) (event_of came.judged))) (counted came.judged came.marks tallies) left
next_row xs wanted read rows events tallies left came leaves none same = next-by xs wanted read rows events tallies left came leaves.rest leaves.come leaves.halts leaves.reads leaves.keeps leaves.gives leaves.counts_up none same

-- ---- a row that stops

stop_by : (xs : List Expectation) (wanted : List Judged) (read : ℕ) (rows : List Row) (events : List NumberedEvent) (tallies : List Tally) (stop : Stop) (more : List Judged)
    → length tallies ≡ length xs
    → first_halt (Halt stop ∷ more) ≡ first_halt wanted
    → read + length (before_halt (Halt stop ∷ more)) ≡ length (before_halt wanted)
    → rows ++ filter_map kept_of (before_halt (Halt stop ∷ more)) ≡ filter_map kept_of (before_halt wanted)
    → events ++ events_from (read + 1) (before_halt (Halt stop ∷ more)) ≡ events_from 1 (before_halt wanted)
    → added tallies (counts xs (filter_map seen_of (before_halt (Halt stop ∷ more)))) ≡ counts xs (filter_map seen_of (before_halt wanted))
    → Gathers xs wanted read rows events tallies (Some stop)
stop_by xs wanted read rows events tallies stop more same halts reads keeps gives counts_up =
    let none : read ≡ read + 0 = omega arith in
    record {
      halts = halts;
      reads = none ∙ reads;
      keeps = sym (append-nil rows) ∙ keeps;
      gives = sym (append-nil events) ∙ gives;
      counts_up = sym (whole xs tallies same) ∙ counts_up;
    }

stop-at : {E : Type 0} (xs : List Expectation) (wanted : List Judged) (read : ℕ) (rows : List Row) (events : List NumberedEvent) (tallies : List Tally) (left : List (Result RowResult E))
    (came : RowResult) (stop : Stop) (rest : List Judged) → Come xs rest (Ok came ∷ left)
    → first_halt rest ≡ first_halt wanted
    → read + length (before_halt rest) ≡ length (before_halt wanted)
    → rows ++ filter_map kept_of (before_halt rest) ≡ filter_map kept_of (before_halt wanted)
    → events ++ events_from (read + 1) (before_halt rest) ≡ events_from 1 (before_halt wanted)
    → added tallies (counts xs (filter_map seen_of (before_halt rest))) ≡ counts xs (filter_map seen_of (before_halt wanted))
    → came.judged ≡ Halt stop → length tallies ≡ length xs
    → Gathers xs wanted read rows events tallies (Some stop)
stop-at xs wanted read rows events tallies left came stop [] come halts reads keeps gives counts_up is same = absurd come
stop-at xs wanted read rows events tallies left came stop (judged ∷ more) come halts reads keeps gives counts_up stops same =
    let is = sym come.0.judged ∙ stops in
    stop_by xs wanted read rows events tallies stop more same
    (subst (λ (j : Judged). first_halt (j ∷ more) ≡ first_halt wanted) is halts)
    (subst (λ (j : Judged). read + length (before_halt (j ∷ more)) ≡ length (before_halt wanted)) is reads)
    (subst (λ (j : Judged). rows ++ filter_map kept_of (before_halt (j ∷ more)) ≡ filter_map kept_of (before_halt wanted)) is keeps)
    (subst (λ (j : Judged). events ++ events_from (read + 1) (before_halt (j ∷ more)) ≡ events_from 1 (before_halt wanted)) is gives)
    (subst (λ (j : Judged). added tallies (counts xs (filter_map seen_of (before_halt (j ∷ more)))) ≡ counts xs (filter_map seen_of (before_halt wanted))) is counts_up)

is_halt : (judged : Judged) (stop : Stop) → halt_of judged ≡ Some stop → judged ≡ Halt stop
is_halt Passed stop is = absurd cc
is_halt (Kept row) stop is = absurd cc
is_halt (Dropped row) stop is = absurd cc
is_halt (Upsert event) stop is = absurd cc
is_halt (Other event) stop is = absurd cc
is_halt (Halt given) stop is = cc

-- the counts stay as they are at a row that stops
uncounted : (judged : Judged) (marks : List Bool) (tallies : List Tally) (stop : Stop) → judged ≡ Halt stop → counted judged marks tallies ≡ tallies
uncounted judged marks tallies stop is = ap (λ (j : Judged). counted j marks tallies) is

pub next_stops : {E : Type 0} (xs : List Expectation) (wanted : List Judged) (read : ℕ) (rows : List Row) (events : List NumberedEvent) (tallies : List Tally) (left : List (Result RowResult E))
    (came : RowResult) (stop : Stop) → Leaves xs wanted read rows events tallies (Ok came ∷ left) → halt_of came.judged ≡ Some stop → length tallies ≡ length xs
    → Gathers xs wanted read (rows ++ option_to_list (kept_of came.judged)) (events ++ option_to_list (option_map (with_number (read + 1)) (event_of came.judged))) (counted came.judged came.marks tallies) (Some stop)
next_stops xs wanted read rows events tallies left came stop leaves stops same =
    let is = is_halt came.judged stop stops in
    let stands = stop-at xs wanted read rows events tallies left came stop leaves.rest leaves.come leaves.halts leaves.reads leaves.keeps leaves.gives leaves.counts_up is same in
    let no_row : rows ≡ rows ++ option_to_list (kept_of came.judged) = sym (append-nil rows) ∙ ap (λ (j : Judged). rows ++ option_to_list (kept_of j)) (sym is) in
    let no_event : events ≡ events ++ option_to_list (option_map (with_number (read + 1)) (event_of came.judged)) = sym (append-nil events) ∙ ap (λ (j : Judged). events ++ option_to_list (option_map (with_number (read + 1)) (event_of j))) (sym is) in
    let no_count = sym (uncounted came.judged came.marks tallies stop is) in
    subst (λ (r : List Row). Gathers xs wanted read r (events ++ option_to_list (option_map (with_number (read + 1)) (event_of came.judged))) (counted came.judged came.marks tallies) (Some stop)) no_row
    (subst (λ (e : List NumberedEvent). Gathers xs wanted read rows e (counted came.judged came.marks tallies) (Some stop)) no_event
    (subst (λ (t : List Tally). Gathers xs wanted read rows events t (Some stop)) no_count stands))

-- ---- no row left

none-left : (E : Type 0) (xs : List Expectation) (wanted : List Judged) (read : ℕ) (rows : List Row) (events : List NumberedEvent) (tallies : List Tally) (rest : List Judged) → Come {E = E} xs rest []
    → first_halt rest ≡ first_halt wanted
    → read + length (before_halt rest) ≡ length (before_halt wanted)
    → rows ++ filter_map kept_of (before_halt rest) ≡ filter_map kept_of (before_halt wanted)
    → events ++ events_from (read + 1) (before_halt rest) ≡ events_from 1 (before_halt wanted)
    → added tallies (counts xs (filter_map seen_of (before_halt rest))) ≡ counts xs (filter_map seen_of (before_halt wanted))
    → length tallies ≡ length xs
    → Gathers xs wanted read rows events tallies None
none-left E xs wanted read rows events tallies [] come halts reads keeps gives counts_up same =
    let none : read ≡ read + 0 = omega arith in
    record {
      halts = halts;
      reads = none ∙ reads;
      keeps = sym (append-nil rows) ∙ keeps;
      gives = sym (append-nil events) ∙ gives;
      counts_up = sym (whole xs tallies same) ∙ counts_up;
    }
none-left E xs wanted read rows events tallies (judged ∷ more) come halts reads keeps gives counts_up same = absurd come

pub none_left : {E : Type 0} (xs : List Expectation) (wanted : List Judged) (read : ℕ) (rows : List Row) (events : List NumberedEvent) (tallies : List Tally) (left : List (Result RowResult E)) → left ≡ []
    → Leaves xs wanted read rows events tallies left → length tallies ≡ length xs → Gathers xs wanted read rows events tallies None
none_left {E = E} xs wanted read rows events tallies left is leaves same =
    none-left E xs wanted read rows events tallies leaves.rest (subst (λ (none : List (Result RowResult E)). Come xs leaves.rest none) is leaves.come) leaves.halts leaves.reads leaves.keeps leaves.gives leaves.counts_up same

-- ---- the marks of the next row

marks-by : {E : Type 0} (xs : List Expectation) (left : List (Result RowResult E)) (came : RowResult) (rest : List Judged) → Come xs rest (Ok came ∷ left) → AreMarks xs (seen_of came.judged) came.marks
marks-by xs left came [] come = absurd come
marks-by xs left came (judged ∷ more) come = subst (λ (j : Judged). AreMarks xs (seen_of j) came.marks) (sym come.0.judged) come.0.marks

pub next_marks : {E : Type 0} (xs : List Expectation) (wanted : List Judged) (read : ℕ) (rows : List Row) (events : List NumberedEvent) (tallies : List Tally) (left : List (Result RowResult E))
    (came : RowResult) → Leaves xs wanted read rows events tallies (Ok came ∷ left) → AreMarks xs (seen_of came.judged) came.marks
next_marks xs wanted read rows events tallies left came leaves = marks-by xs left came leaves.rest leaves.come
