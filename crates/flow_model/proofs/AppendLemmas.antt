-- Batches of an append flow add up, and its rows in another order give one bag.
use Rattle.std.proofs.Common.{◌≡◌, ℕ, ◌+◌, Bool, false, not, ◌||◌, cond, List, [], ◌∷◌, ◌++◌, Option, None, refl, sym, ◌∙◌}
use Rattle.std.specs.Prelude.{filter_map, option_map}
use Rattle.std.specs.List.{list_any}
use Rattle.std.specs.Option.{option_or}
use Rattle.std.proofs.lemmas.List.Folds.{list_any-append}
use Rattle.std.proofs.lemmas.List.Sorted.{list_any-IsPermutation, sum_by-IsPermutation}
use Rattle.std.proofs.lemmas.List.Sums.{sum_by-append}
use Rattle.value_core.specs.Bags.{SameBag}
use Rattle.value_core.specs.Order.{Row, same_row}
use Rattle.plan_core.specs.declared.expectation.Expectation.{Expectation}
use Rattle.plan_core.specs.declared.flow.AppendFlow.{AppendFlow}
use Rattle.plan_core.specs.declared.stop.Place.TheVariants.{Number}
use Rattle.plan_core.specs.declared.stop.Stop.{Stop}
use Rattle.flow_model.specs.Admission.{passes, tally, counts}
use Rattle.value_core.specs.Tallies.{both_tallies, added}
use Rattle.flow_model.specs.Append.{Judged, PassedOver, Stops, Drops, Keeps, judged, stops, cause_of, kept_of, append_stop_from, append_stop, append_out}
use Rattle.flow_model.specs.Causes.{stop_at}
use Rattle.flow_model.proofs.BagTools.{bag_moves, parts_move}
use Rattle.flow_model.proofs.Truths.{or_left, or_right, neither_true}

-- ---- where nothing stops

abbrev stop_in : ℕ → Judged → Option Stop
stop_in number j = option_map (stop_at (Number number)) (cause_of j)

goes : (number : ℕ) (j : Judged) (rest : Option Stop) → option_or (stop_in number j) rest ≡ None → (stops j ≡ false) × (rest ≡ None)
goes number PassedOver rest e = (refl, e)
goes number (Stops cause) rest e = cc
goes number (Drops row) rest e = (refl, e)
goes number (Keeps row) rest e = (refl, e)

goes_on : (number : ℕ) (j : Judged) (rest : Option Stop) → stops j ≡ false → rest ≡ None → option_or (stop_in number j) rest ≡ None
goes_on number PassedOver rest e f = f
goes_on number (Stops cause) rest e f = cc
goes_on number (Drops row) rest e f = f
goes_on number (Keeps row) rest e f = f

module _ (flow : AppendFlow) (xs : List Expectation) where
  abbrev any_stops : List Row → Bool
  any_stops rows = list_any (λ row. stops (judged flow xs row)) rows

  pub none_stops : (number : ℕ) (rows : List Row) → append_stop_from number flow xs rows ≡ None → any_stops rows ≡ false
  none_stops number [] e = refl
  none_stops number (row ∷ rows) e =
      let both = goes number (judged flow xs row) (append_stop_from (number + 1) flow xs rows) e in
      neither_true (stops (judged flow xs row)) (any_stops rows) both.0 (none_stops (number + 1) rows both.1)

  pub no_stop : (number : ℕ) (rows : List Row) → any_stops rows ≡ false → append_stop_from number flow xs rows ≡ None
  no_stop number [] e = refl
  no_stop number (row ∷ rows) e =
      goes_on number (judged flow xs row) (append_stop_from (number + 1) flow xs rows) (or_left (stops (judged flow xs row)) (any_stops rows) e)
      (no_stop (number + 1) rows (or_right (stops (judged flow xs row)) (any_stops rows) e))

  -- ---- batches

  pub stop_adds : (rows more : List Row) → append_stop flow xs rows ≡ None → append_stop flow xs more ≡ None → append_stop flow xs (rows ++ more) ≡ None
  stop_adds rows more e f =
      no_stop 1 (rows ++ more) (list_any-append (λ row. stops (judged flow xs row)) rows more ∙ neither_true (any_stops rows) (any_stops more) (none_stops 1 rows e) (none_stops 1 more f))

  both_parts : (rows more : List Row) → append_stop flow xs (rows ++ more) ≡ None → (any_stops rows || any_stops more) ≡ false
  both_parts rows more e = sym (list_any-append (λ row. stops (judged flow xs row)) rows more) ∙ none_stops 1 (rows ++ more) e

  pub stop_parts : (rows more : List Row) → append_stop flow xs (rows ++ more) ≡ None → (append_stop flow xs rows ≡ None) × (append_stop flow xs more ≡ None)
  stop_parts rows more e =
      (no_stop 1 rows (or_left (any_stops rows) (any_stops more) (both_parts rows more e)), no_stop 1 more (or_right (any_stops rows) (any_stops more) (both_parts rows more e)))

  -- ---- another order

  pub stop_moves : (rows others : List Row) → SameBag rows others → append_stop flow xs rows ≡ None → append_stop flow xs others ≡ None
  stop_moves rows others same e =
      no_stop 1 others (sym (list_any-IsPermutation (λ row. stops (judged flow xs row)) rows others (bag_moves rows others same)) ∙ none_stops 1 rows e)

  pub out_moves : (rows others : List Row) → SameBag rows others → SameBag (append_out flow xs rows) (append_out flow xs others)
  out_moves rows others same a = parts_move (λ x. cond (same_row a x) 1 0) (λ row. kept_of (judged flow xs row)) rows others (bag_moves rows others same)

-- ---- counts

tally_adds : (rows more : List Row) (x : Expectation) → tally (rows ++ more) x ≡ both_tallies (tally rows x) (tally more x)
tally_adds rows more x = λ i. record {
  passed = sum_by-append (λ row. cond (passes x row) 1 0) rows more i;
  failed = sum_by-append (λ row. cond (not (passes x row)) 1 0) rows more i;
}

pub counts_add : (xs : List Expectation) (rows more : List Row) → counts xs (rows ++ more) ≡ added (counts xs rows) (counts xs more)
counts_add [] rows more = refl
counts_add (x ∷ xs) rows more = λ i. tally_adds rows more x i ∷ counts_add xs rows more i

-- counts over what is seen of rows in another order
module _ (seen : Row → Option Row) (rows others : List Row) (same : SameBag rows others) where
  tally_moves : (x : Expectation) → tally (filter_map seen rows) x ≡ tally (filter_map seen others) x
  tally_moves x = λ i. record {
    passed = parts_move (λ row. cond (passes x row) 1 0) seen rows others (bag_moves rows others same) i;
    failed = parts_move (λ row. cond (not (passes x row)) 1 0) seen rows others (bag_moves rows others same) i;
  }

  pub counts_move : (xs : List Expectation) → counts xs (filter_map seen rows) ≡ counts xs (filter_map seen others)
  counts_move [] = refl
  counts_move (x ∷ xs) = λ i. tally_moves x i ∷ counts_move xs i

-- counts over one bag
tally_bag : (rows others : List Row) (same : SameBag rows others) (x : Expectation) → tally rows x ≡ tally others x
tally_bag rows others same x = λ i. record {
  passed = sym (sum_by-IsPermutation (λ row. cond (passes x row) 1 0) rows others (bag_moves rows others same)) i;
  failed = sym (sum_by-IsPermutation (λ row. cond (not (passes x row)) 1 0) rows others (bag_moves rows others same)) i;
}

pub counts_bag : (xs : List Expectation) (rows others : List Row) → SameBag rows others → counts xs rows ≡ counts xs others
counts_bag [] rows others same = refl
counts_bag (x ∷ xs) rows others same = λ i. tally_bag rows others same x i ∷ counts_bag xs rows others same i
