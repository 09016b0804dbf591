-- Which kept events an event touches, and how many looks that may take.
use Rattle.std.specs.Prelude.{List, [], ◌∷◌, ◌++◌, ℕ, suc, ◌+◌, Bool, true, false, ◌&&◌, if◌then◌else◌, Option, Some, None}
use Rattle.std.specs.List.{remove}
use Rattle.value_core.specs.declared.event.Event.{Event}
use Rattle.std.specs.Ordering.{is_gt}
use Rattle.value_core.specs.EventOrder.{history_order, placed_by}
use Rattle.value_core.specs.Order.{Row, row_order, same_row}
use Rattle.flow_model.specs.History.{Moment, Interval, moments_after}
use Rattle.cdc_runs.specs.Runs.{opened, interval_at, same_columns}

-- what is seen of a kept event: its effective columns, and the interval in which it stands
pub record Seen : Type 0 where
  pub columns : Option Row
  pub interval : Option Interval

abbrev pub seen_in : List ℕ → Option Row → List Moment → List Moment → List Seen
seen_in tracked since [] next = []
seen_in tracked since (moment ∷ moments) next = record { columns = moment.columns; interval = interval_at tracked since (moment ∷ (moments ++ next)) }
    ∷ seen_in tracked (opened tracked since moment (moments ++ next)) moments next

abbrev pub seen : Bool → List ℕ → List Event → List Seen
seen ignore_null tracked events = seen_in tracked None (moments_after ignore_null None events) []

abbrev pub same_interval : Option Interval → Option Interval → Bool
same_interval None None = true
same_interval None (Some b) = false
same_interval (Some a) None = false
same_interval (Some a) (Some b) = same_row a.columns b.columns && same_row a.start b.start && same_columns a.end b.end

abbrev pub same_seen : Seen → Seen → Bool
same_seen a b = same_columns a.columns b.columns && same_interval a.interval b.interval

-- how many differ, place by place
abbrev pub differing : List Seen → List Seen → ℕ
differing [] others = 0
differing (a ∷ more) [] = 0
differing (a ∷ more) (b ∷ others) = (if same_seen a b then 0 else 1) + differing more others

-- how many of these events an event stands behind
abbrev pub place_of : Event → List Event → ℕ
place_of event [] = 0
place_of event (x ∷ xs) = if is_gt (row_order event.sequence x.sequence) then suc (place_of event xs) else 0

-- how many of the kept events have other effective columns with a further event than without it, or stand in another interval
abbrev pub touched : Bool → List ℕ → List Event → Event → ℕ
touched ignore_null tracked events event =
    differing (seen ignore_null tracked events) (remove (seen ignore_null tracked (placed_by history_order event events)) (place_of event events))
