-- What a splice changes.
use Rattle.std.specs.Prelude.{◌≡◌, List, [], ◌∷◌, ◌++◌, ℕ, Bool, false, ◌&&◌, ◌||◌, map, take, drop, slice_index_or, Option, None}
use Rattle.value_core.specs.declared.change.Change.{Change}
use Rattle.value_core.specs.Bags.{net_change}
use Rattle.value_core.specs.Order.{Row}
use Rattle.event_history.specs.declared.history.Entry.{Entry}
use Rattle.flow_model.specs.History.{Moment, Interval, interval_row, intervals}
use Rattle.cdc_runs.specs.Entries.{columns_after, moment_of, moments_of}
use Rattle.cdc_scd2.specs.Cache.{recached}
use Rattle.cdc_runs.specs.Runs.{ends_in, goes_through, left_open, same_columns}

-- the rows of a history, by its cached columns
abbrev pub rows_of : List ℕ → List Entry → List Row
rows_of tracked entries = map interval_row (intervals tracked (moments_of entries))

-- a history with an entry more at a place, and these effective columns behind it
abbrev pub spliced : List Entry → ℕ → Entry → List Row → List Entry
spliced entries place entry rows = take place entries ++ entry ∷ recached (drop place entries) rows

-- the row of the first run behind a place, where it began at another sequence than before
pub record Closes (tracked : List ℕ) (behind : List Moment) (was is : Option Row) (removed gone added come : List Row) : Type 0 where
  pub old : List Interval
  pub new : List Interval
  pub rest : List Interval
  pub removes : gone ≡ removed ++ map interval_row old
  pub adds : come ≡ added ++ map interval_row new
  pub first : ends_in tracked was behind [] ≡ old ++ rest
  pub second : ends_in tracked is behind [] ≡ new ++ rest

-- what ends in the middle of a history and what goes on behind it, where `ends` and `since` are what stands before it and `rest` what ends behind
pub record IsMiddle (tracked : List ℕ) (before xs after : List Moment) (ends : List Interval) (since : Option Row) (mine rest : List Interval) : Type 0 where
  pub same_ends : ends_in tracked None before (xs ++ after) ≡ ends
  pub same_start : left_open tracked None before (xs ++ after) ≡ since
  pub behind : ends_in tracked (left_open tracked since xs after) after [] ≡ mine ++ rest

-- a change is the net one of a stretch of a history and the run behind it
pub record Turns (tracked : List ℕ) (since : Option Row) (xs ys behind : List Moment) (change : Change) : Type 0 where
  pub old : List Interval
  pub new : List Interval
  pub rest : List Interval
  pub first : ends_in tracked (left_open tracked since xs behind) behind [] ≡ old ++ rest
  pub second : ends_in tracked (left_open tracked since ys behind) behind [] ≡ new ++ rest
  pub net : change ≡ net_change (map interval_row (ends_in tracked since xs behind ++ old)) (map interval_row (ends_in tracked since ys behind ++ new))

-- the run that goes on into an entry began here, as far as what ends from there on can tell
pub record BeginsAs (tracked : List ℕ) (entries : List Entry) (place : ℕ) (since : Option Row) : Type 0 where
  pub ends : (x : Entry) (xs next : List Moment) → x ≡ slice_index_or entries place x
      → ends_in tracked since (moment_of x ∷ xs) next ≡ ends_in tracked (left_open tracked None (moments_of (take place entries)) (moments_of (drop place entries))) (moment_of x ∷ xs) next
  pub goes_on : (x : Entry) (xs next : List Moment) → x ≡ slice_index_or entries place x
      → left_open tracked since (moment_of x ∷ xs) next ≡ left_open tracked (left_open tracked None (moments_of (take place entries)) (moments_of (drop place entries))) (moment_of x ∷ xs) next

-- one entry and then it and another one, with the same columns
abbrev pub is_quiet : List Entry → List Entry → Bool
is_quiet (last ∷ []) (first ∷ (entry ∷ [])) = same_columns (columns_after last) (columns_after entry)
is_quiet others more = false

-- an entry behind the first of a stretch leaves each row as it is: nothing else changes and the columns are the same, or one run goes through both stretches
abbrev pub leaves_rows : List ℕ → List Entry → List Entry → List Entry → Bool
leaves_rows tracked old new next = is_quiet old new || (goes_through tracked (moments_of old) (moments_of next) && goes_through tracked (moments_of new) (moments_of next))
