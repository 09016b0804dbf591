-- The same count by rows: which kept events stand in a run whose row a splice removes or adds.
use Rattle.std.specs.Prelude.{◌≡◌, ◌≢◌, List, [], ◌∷◌, ℕ, ◌+◌, Bool, true, false, not, ◌||◌, if◌then◌else◌, length, Option, Some, None}
use Rattle.std.specs.List.{list_any, remove}
use Rattle.std.specs.declared.cmp.Ordering.TheVariants.{Less}
use Rattle.value_core.specs.declared.change.Change.{Change}
use Rattle.value_core.specs.declared.event.Event.{Event}
use Rattle.value_core.specs.declared.value.Value.TheVariants.{Null}
use Rattle.value_core.specs.Bags.{net_change}
use Rattle.value_core.specs.EventOrder.{history_order, is_upsert, placed_by}
use Rattle.value_core.specs.Order.{Row, row_order, same_row}
use Rattle.flow_model.specs.History.{Interval, interval_row, key_rows}
use Rattle.cdc_runs.specs.Runs.{same_columns}
use Rattle.cdc_scd2.specs.Looks.{Seen, place_of, seen}

-- ---- the events of one key

-- sequences rise from event to event
abbrev pub AllLater : Row → List Event → Type 0
AllLater sequence [] = Unit {0}
AllLater sequence (event ∷ events) = (row_order sequence event.sequence ≡ Less) × AllLater sequence events

abbrev pub AreRising : List Event → Type 0
AreRising [] = Unit {0}
AreRising (event ∷ events) = AllLater event.sequence events × AreRising events

-- no event has the sequence of this one
abbrev pub IsNew : Event → List Event → Type 0
IsNew event [] = Unit {0}
IsNew event (x ∷ xs) = (event.sequence ≢ x.sequence) × IsNew event xs

-- columns and sequences have their widths, and no sequence is a NULL alone
pub record HasShape (wide long : ℕ) (event : Event) : Type 0 where
  pub columns : is_upsert event ≡ true → length event.columns ≡ wide
  pub sequence : length event.sequence ≡ long
  pub known : event.sequence ≢ Null ∷ []

abbrev pub HaveShape : ℕ → ℕ → List Event → Type 0
HaveShape wide long [] = Unit {0}
HaveShape wide long (event ∷ events) = HasShape wide long event × HaveShape wide long events

-- ---- the count

-- the row of a run is one of these
abbrev pub has_row : List Row → Option Interval → Bool
has_row rows None = false
has_row rows (Some interval) = list_any (same_row (interval_row interval)) rows

-- the effective columns of an event change, or the row of the run goes in which it stood, or that comes in which it stands
abbrev pub is_moved : Change → Seen → Seen → Bool
is_moved change before after = not (same_columns before.columns after.columns) || (has_row change.removed before.interval || has_row change.added after.interval)

abbrev pub moved_in : Change → List Seen → List Seen → ℕ
moved_in change [] others = 0
moved_in change (a ∷ more) [] = 0
moved_in change (a ∷ more) (b ∷ others) = (if is_moved change a b then 1 else 0) + moved_in change more others

-- how many kept events stand in a run whose row an event removes or adds, or have other effective columns with it
abbrev pub moved : Bool → List ℕ → List Event → Event → ℕ
moved ignore_null tracked events event =
    moved_in (net_change (key_rows ignore_null tracked events) (key_rows ignore_null tracked (placed_by history_order event events)))
    (seen ignore_null tracked events) (remove (seen ignore_null tracked (placed_by history_order event events)) (place_of event events))
