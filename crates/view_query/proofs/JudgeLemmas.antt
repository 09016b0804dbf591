-- Result rows that are judged one after another.
use Rattle.std.proofs.Common.{◌≡◌, ℕ, ◌+◌, ◌<◌, ◌≤◌, Bool, true, false, cond, List, [], ◌∷◌, ◌++◌, length, filter, filter_map, drop, get_or, Option, Some, None, Result, Ok, Err, refl, sym, ap, ◌∙◌, subst, append_assoc, append-nil}
use Rattle.std.specs.List.{cons_option}
use Rattle.std.proofs.lemmas.List.{drop_more, drop_all}
use Rattle.value_core.specs.declared.change.Tally.{Tally}
use Rattle.value_core.specs.Order.{Row}
use Rattle.value_core.specs.Tallies.{added}
use Rattle.plan_core.specs.declared.expectation.Expectation.{Expectation}
use Rattle.plan_core.specs.declared.query.Query.{Query}
use Rattle.plan_core.specs.declared.stop.Stop.{Stop}
use Rattle.plan_core.specs.declared.stop.StopOr.{StopOr}
use Rattle.plan_core.specs.declared.stop.StopOr.TheVariants as either
use Rattle.row_expr.specs.Eval.{and_then}
use Rattle.flow_model.specs.Admission.{admit, counts}
use Rattle.flow_model.specs.Views.{first_of, is_keep, judged_view, unless, verdict_stop, viewed, ask}
use Rattle.view_query.specs.declared.judging.Judged.{Judged}
use Rattle.view_query.specs.Asked.{AskAnswers}
use Rattle.view_query.specs.Judging.{TakesRow, JudgeAnswers}
use Rattle.view_query.proofs.CountLemmas.{moved, whole, zeros, length_counts}

abbrev verdict : List Expectation → Row → Option Stop
verdict xs row = verdict_stop row (admit xs row)

abbrev keeps : List Expectation → Row → Bool
keeps xs row = is_keep (admit xs row)

-- what is left to judge, with what was found so far
pub record Judges (xs : List Expectation) (all left kept : List Row) (tallies : List Tally) : Type 0 where
  pub stop : first_of (filter_map (λ row. verdict_stop row (admit xs row)) left) ≡ first_of (filter_map (λ row. verdict_stop row (admit xs row)) all)
  pub rows : kept ++ filter (λ row. is_keep (admit xs row)) left ≡ filter (λ row. is_keep (admit xs row)) all
  pub counts : added tallies (counts xs left) ≡ counts xs all
  pub long : length tallies ≡ length xs

pub judge_begins : (xs : List Expectation) (all rows : List Row) (tallies : List Tally) → rows ≡ [] → tallies ≡ counts xs [] → Judges xs all all rows tallies
judge_begins xs all rows tallies none zero = record {
  stop = refl;
  rows = ap (λ r. r ++ filter (keeps xs) all) none;
  counts = ap (λ t. added t (counts xs all)) zero ∙ zeros xs (counts xs all) (length_counts xs all);
  long = ap length zero ∙ length_counts xs [];
}

kept-front : (row : Row) (rest : List Row) (test : Bool) → cond test (row ∷ []) [] ++ rest ≡ cond test (row ∷ rest) rest
kept-front row rest true = refl
kept-front row rest false = refl

pub judge_more : (xs : List Expectation) (all rows rows' : List Row) (tallies tallies' : List Tally) (i : ℕ) (row : Row) → i < length all → row ≡ get_or all i row → TakesRow xs row rows rows' tallies tallies' → length tallies' ≡ length tallies
    → Judges xs all (drop i all) rows tallies → Judges xs all (drop (i + 1) all) rows' tallies'
judge_more xs all rows rows' tallies tallies' i row k is takes same judges =
    let left : drop i all ≡ row ∷ drop (i + 1) all = drop_more all i row k ∙ ap (λ r. r ∷ drop (i + 1) all) (sym is) in
    let rest = drop (i + 1) all in
    record {
      stop = sym (ap (λ l. first_of (filter_map (verdict xs) l)) left ∙ ap (λ o. first_of (cons_option o (filter_map (verdict xs) rest))) takes.goes_on) ∙ judges.stop;
      rows = ap (λ r. r ++ filter (keeps xs) rest) takes.kept ∙ append_assoc rows (cond (keeps xs row) (row ∷ []) []) (filter (keeps xs) rest)
          ∙ ap (λ r. rows ++ r) (kept-front row (filter (keeps xs) rest) (keeps xs row)) ∙ ap (λ l. rows ++ filter (keeps xs) l) (sym left) ∙ judges.rows;
      counts = ap (λ t. added t (counts xs rest)) takes.counted ∙ sym (moved xs tallies row rest judges.long) ∙ ap (λ l. added tallies (counts xs l)) (sym left) ∙ judges.counts;
      long = same ∙ judges.long;
    }

pub judge_stops : (xs : List Expectation) (all rows : List Row) (tallies : List Tally) (i : ℕ) (row : Row) (stop : Stop) → i < length all → row ≡ get_or all i row → verdict_stop row (admit xs row) ≡ Some stop
    → Judges xs all (drop i all) rows tallies → judged_view xs all ≡ Err stop
judge_stops xs all rows tallies i row stop k is stops judges =
    let left : drop i all ≡ row ∷ drop (i + 1) all = drop_more all i row k ∙ ap (λ r. r ∷ drop (i + 1) all) (sym is) in
    let first : first_of (filter_map (verdict xs) all) ≡ Some stop =
    sym judges.stop ∙ ap (λ l. first_of (filter_map (verdict xs) l)) left ∙ ap (λ o. first_of (cons_option o (filter_map (verdict xs) (drop (i + 1) all)))) stops in
    ap (λ o. unless o (record { rows = filter (keeps xs) all; counts = counts xs all })) first

pub judge_ends : (xs : List Expectation) (all rows : List Row) (tallies given : List Tally) (i : ℕ) → length all ≤ i → given ≡ tallies → Judges xs all (drop i all) rows tallies
    → judged_view xs all ≡ Ok (record { rows = rows; counts = given })
judge_ends xs all rows tallies given i k same judges =
    let none : drop i all ≡ [] = drop_all i all k in
    let first : first_of (filter_map (verdict xs) all) ≡ None = sym judges.stop ∙ ap (λ l. first_of (filter_map (verdict xs) l)) none in
    let kept : filter (keeps xs) all ≡ rows = sym judges.rows ∙ ap (λ l. rows ++ filter (keeps xs) l) none ∙ append-nil rows in
    let counted : counts xs all ≡ given = sym judges.counts ∙ ap (λ l. added tallies (counts xs l)) none ∙ whole xs tallies judges.long ∙ sym same in
    ap (λ o. unless o (record { rows = filter (keeps xs) all; counts = counts xs all })) first ∙ (λ j. Ok (record { rows = kept j; counts = counted j }))

-- ---- the query, then the expectations

pub refresh_judged : (query : Query) (xs : List Expectation) (rows result : List Row) (answer : Result Judged StopOr) → ask query rows ≡ Ok result → JudgeAnswers (judged_view xs result) answer → JudgeAnswers (viewed query xs rows) answer
refresh_judged query xs rows result answer asked answers = subst (λ outcome. JudgeAnswers (and_then (judged_view xs) outcome) answer) (sym asked) answers

pub refresh_stopped : (query : Query) (xs : List Expectation) (rows : List Row) (end : StopOr) → AskAnswers (ask query rows) (Err end) → JudgeAnswers (viewed query xs rows) (Err end)
refresh_stopped query xs rows (either.Stop stop) asked = ap (and_then (judged_view xs)) asked
refresh_stopped query xs rows either.Memory asked = tt
