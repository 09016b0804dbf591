-- What the looks of a splice were spent on.
use Rattle.std.specs.Prelude.{◌≡◌, ◌≢◌, ◌+◌, ◌-◌, ◌≤◌, ◌⊎◌, List, ◌∷◌, ◌++◌, ℕ, false, length, take, drop, slice_get, slice_index_or, unwrap_or, Option, Some, None, option_to_list}
use Rattle.value_core.specs.Order.{Row}
use Rattle.event_history.specs.declared.history.Entry.{Entry}
use Rattle.cdc_runs.specs.Entries.{IsRunFrom, IsRunTo, columns_after, moments_of}
use Rattle.cdc_scd2.specs.Cache.{recached}
use Rattle.cdc_runs.specs.Runs.{left_open}
use Rattle.cdc_scd2.specs.Splices.{BeginsAs, leaves_rows}

-- on the run of an entry up to its end
pub record LooksTo (tracked : List ℕ) (entries : List Entry) (place taken before : ℕ) : Type 0 where
  pub end : ℕ
  pub run : IsRunTo tracked entries place end
  pub looks : taken + place ≤ before + end + 4

-- on the first run behind a place, which began at another sequence than before
pub record LooksOn (tracked : List ℕ) (entries : List Entry) (place : ℕ) (was is : Option Row) (few taken before : ℕ) : Type 0 where
  pub first : Entry
  pub there : Some first ≡ slice_get entries place
  pub columns : Row
  pub has : columns_after first ≡ Some columns
  pub apart : unwrap_or was first.event.sequence ≢ unwrap_or is first.event.sequence
  pub end : ℕ
  pub run : IsRunTo tracked entries place end
  pub looks : taken + place ≤ before + end + 4 + few

abbrev pub LooksBehind : List ℕ → List Entry → ℕ → Option Row → Option Row → ℕ → ℕ → ℕ → Type 0
LooksBehind tracked entries place was is few taken before = (taken ≤ before + few) ⊎ LooksOn tracked entries place was is few taken before

-- on the run of an entry from its beginning
pub record LooksFrom (tracked : List ℕ) (entries : List Entry) (place taken before : ℕ) : Type 0 where
  pub last : Entry
  pub at : last ≡ slice_index_or entries place last
  pub columns : Row
  pub has : columns_after last ≡ Some columns
  pub start : ℕ
  pub run : IsRunFrom tracked entries start place
  pub looks : taken + start ≤ before + place + 4

abbrev pub LooksBack : List ℕ → List Entry → ℕ → ℕ → ℕ → Type 0
LooksBack tracked entries place taken before = (taken ≤ before + 1) ⊎ LooksFrom tracked entries place taken before

-- on the runs at both ends of a stretch that doesn't leave each row
pub record PaysBoth (tracked : List ℕ) (entries : List Entry) (place : ℕ) (old new : List Entry) (next : Option Entry) (many taken before : ℕ) : Type 0 where
  pub since : Option Row
  pub begins : BeginsAs tracked entries (place - 1) since
  pub changes : leaves_rows tracked old new (option_to_list next) ≡ false
  pub middle : ℕ
  pub back : LooksBack tracked entries (place - 1) middle (before + many + 2)
  pub behind : LooksBehind tracked entries (place + many) (left_open tracked since (moments_of old) (moments_of (drop (place + many) entries))) (left_open tracked since (moments_of new) (moments_of (drop (place + many) entries))) 2 taken middle

-- on a stretch from the entry before a place on, and unless it leaves each row, on the runs at both its ends
pub record PaysLater (tracked : List ℕ) (entries : List Entry) (place : ℕ) (entry : Entry) (rows : List Row) (taken before : ℕ) : Type 0 where
  pub old : List Entry
  pub new : List Entry
  pub next : Option Entry
  pub whole : old ++ drop (place + length rows) entries ≡ drop (place - 1) entries
  pub long : length old + (place - 1) ≡ place + length rows
  pub spliced : new ≡ take 1 old ++ entry ∷ recached (drop 1 old) rows
  pub there : next ≡ slice_get entries (place + length rows)
  pub looks : (taken ≤ before + length rows + 2) ⊎ PaysBoth tracked entries place old new next (length rows) taken before

pub record PaysFirst (tracked : List ℕ) (entries : List Entry) (entry : Entry) (rows : List Row) (taken before : ℕ) : Type 0 where
  pub old : List Entry
  pub whole : old ++ drop (length rows) entries ≡ drop 0 entries
  pub long : length old + 0 ≡ length rows
  pub behind : LooksBehind tracked entries (length rows) (left_open tracked None (moments_of old) (moments_of (drop (length rows) entries))) (left_open tracked None (moments_of (entry ∷ recached old rows)) (moments_of (drop (length rows) entries))) 2 taken (before + length rows)

abbrev pub Pays : List ℕ → List Entry → ℕ → Entry → List Row → ℕ → ℕ → Type 0
Pays tracked entries place entry rows taken before = ((place ≡ 0) × PaysFirst tracked entries entry rows taken before) ⊎ ((place ≢ 0) × PaysLater tracked entries place entry rows taken before)
