-- A history's entries as moments, by their cached columns.
use Rattle.std.specs.Prelude.{◌≡◌, ◌<◌, ◌≤◌, ◌+◌, ◌-◌, List, [], ◌∷◌, ℕ, suc, true, false, if◌then◌else◌, map, length, take, drop, slice_index_or, Option, Some, None}
use Rattle.value_core.specs.Order.{Row}
use Rattle.value_core.specs.EventOrder.{is_upsert}
use Rattle.event_history.specs.declared.history.Entry.{Entry}
use Rattle.flow_model.specs.History.{Moment}
use Rattle.cdc_runs.specs.Runs.{interval_at, moment_goes_on, one_run}

-- the columns from an entry on, by its cached ones; none after a delete
abbrev pub columns_after : Entry → Option Row
columns_after entry = if is_upsert entry.event then Some entry.effective else None

abbrev pub moment_of : Entry → Moment
moment_of entry = record { sequence = entry.event.sequence; columns = columns_after entry }

abbrev pub moments_of : List Entry → List Moment
moments_of entries = map moment_of entries

-- the last of these moments ends its run there
abbrev pub Stops : List ℕ → List Moment → List Moment → Type 0
Stops tracked [] behind = Unit {0}
Stops tracked (moment ∷ []) behind = moment_goes_on tracked moment.columns behind ≡ false
Stops tracked (moment ∷ (next ∷ more)) behind = Stops tracked (next ∷ more) behind

-- the entries from one place to another are one run, and it begins there
pub record IsRunFrom (tracked : List ℕ) (entries : List Entry) (start place : ℕ) : Type 0 where
  pub ordered : start ≤ place
  pub one : one_run tracked (moments_of (take (suc place - start) (drop start entries))) ≡ true
  pub stops : Stops tracked (moments_of (take start entries)) (moments_of (drop start entries))

-- the entries from one place to another are one run, and it ends there
pub record IsRunTo (tracked : List ℕ) (entries : List Entry) (place end : ℕ) : Type 0 where
  pub ordered : place ≤ end
  pub within : end < length entries
  pub one : one_run tracked (moments_of (take (suc end - place) (drop place entries))) ≡ true
  pub same : (start : Row) → interval_at tracked (Some start) (moments_of (drop place entries)) ≡ interval_at tracked (Some start) (moments_of (drop end entries))
  pub stops : (d : Entry) → moment_goes_on tracked (columns_after (slice_index_or entries end d)) (moments_of (drop (end + 1) entries)) ≡ false
