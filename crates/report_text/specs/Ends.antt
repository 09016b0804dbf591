-- The line of a flow or view that ended.
use Rattle.std.specs.Prelude.{ℕ, ℤ, List, [], ◌++◌, Option, Some, None, codes, slice_get}
use Rattle.std.specs.Fmt.{decimal, signed_decimal}
use Rattle.value_core.specs.declared.event.Event.{Event}
use Rattle.value_core.specs.declared.event.EventKind.{EventKind}
use Rattle.value_core.specs.declared.event.EventKind.TheVariants.{Upsert, Delete, Truncate}
use Rattle.value_core.specs.Order.{Row}
use Rattle.plan_core.specs.declared.flow.AppendFlow.{AppendFlow}
use Rattle.plan_core.specs.declared.plan.Body.{Body}
use Rattle.plan_core.specs.declared.plan.Body.TheVariants as body
use Rattle.plan_core.specs.declared.plan.Dataset.{Dataset}
use Rattle.plan_core.specs.declared.stop.FlowEnd.{FlowEnd}
use Rattle.plan_core.specs.declared.stop.FlowEnd.TheVariants.{Completed, Current, Stopped, Skipped}
use Rattle.plan_core.specs.declared.stop.Place.{Place}
use Rattle.plan_core.specs.declared.stop.Place.TheVariants.{Number, Of}
use Rattle.plan_core.specs.declared.stop.Stop.{Stop}
use Rattle.plan_core.specs.declared.stop.Stop.TheVariants as stop
use Rattle.report_text.specs.Rows.{print_row}
use Rattle.report_text.specs.Words.{print_line, print_word}

-- ---- causes

-- a row by its number, or by its values
abbrev pub print_place : Place → List ℕ
print_place (Number row) = codes "row " ++ decimal row
print_place (Of row) = codes "row (" ++ print_row row ++ codes ")"

-- what an event does, and when
abbrev pub print_moment : List ℕ → Event → List ℕ
print_moment does event = does ++ print_row event.sequence

-- to which key
abbrev pub print_keyed : List ℕ → Event → List ℕ
print_keyed does event = print_moment does event ++ (codes " key " ++ print_row event.key)

-- a row for a key
abbrev pub print_upsert : Event → List ℕ
print_upsert event = print_keyed (codes "upsert ") event ++ (codes " columns " ++ print_row event.columns)

-- an event by what it does, its sequence, its key and its columns, as far as it has them
abbrev pub print_event_as : EventKind → Event → List ℕ
print_event_as Upsert event = print_upsert event
print_event_as Delete event = print_keyed (codes "delete ") event
print_event_as Truncate event = print_moment (codes "truncate ") event

abbrev pub print_event : Event → List ℕ
print_event event = print_event_as event.kind event

-- two events of one key and one sequence, the later one at a row
abbrev pub print_tied : ℕ → Event → Event → List ℕ
print_tied row kept later = (codes "tied sequence at row " ++ decimal row) ++ (codes ": kept " ++ print_event kept) ++ (codes ", later " ++ print_event later)

-- an expectation that a row fails
abbrev pub print_failed : List ℕ → Place → List ℕ
print_failed name place = (codes "expectation " ++ print_word name) ++ (codes " failed at " ++ print_place place)

-- the exact total of a group
abbrev pub print_sum : Row → ℤ → List ℕ
print_sum group total = (codes "sum overflow in group (" ++ print_row group) ++ (codes "): total " ++ signed_decimal total)

-- the rows that an expectation counts
abbrev pub print_count : List ℕ → ℕ → List ℕ
print_count name total = (codes "count overflow of " ++ print_word name) ++ (codes ": total " ++ decimal total)

-- a file that is shorter than the place to which it was read
abbrev pub print_shrunk : List ℕ → ℕ → ℕ → List ℕ
print_shrunk file cursor size = (codes "file " ++ print_word file) ++ (codes " shrunk: cursor " ++ decimal cursor) ++ (codes ", size " ++ decimal size)

-- why a flow stopped
abbrev pub print_stop : Stop → List ℕ
print_stop (stop.Expect place name) = print_failed name place
print_stop (stop.Overflow place) = codes "overflow at " ++ print_place place
print_stop (stop.ZeroDivisor place) = codes "zero divisor at " ++ print_place place
print_stop (stop.BadCast place) = codes "bad cast at " ++ print_place place
print_stop (stop.NullSequence row) = codes "null sequence at row " ++ decimal row
print_stop (stop.Tied row kept later) = print_tied row kept later
print_stop (stop.SumOverflow group total) = print_sum group total
print_stop (stop.CountOverflow name total) = print_count name total
print_stop (stop.Shrunk file cursor size) = print_shrunk file cursor size
print_stop (stop.Landing before now) = codes "landing failed"

-- ---- ends

-- a flow tells the rows that it read, and a view doesn't
abbrev pub print_completed : Body → ℕ → ℕ → List ℕ
print_completed (body.Append flows) read version = (codes "completed, " ++ decimal read) ++ (codes " rows read, version " ++ decimal version)
print_completed (body.Cdc feed) read version = (codes "completed, " ++ decimal read) ++ (codes " rows read, version " ++ decimal version)
print_completed (body.View query) read version = codes "completed, version " ++ decimal version

abbrev pub print_end : Body → FlowEnd → List ℕ
print_end filled (Completed read version) = print_completed filled read version
print_end filled Current = codes "current"
print_end filled (Stopped why) = codes "stopped: " ++ print_stop why
print_end filled (Skipped name) = codes "skipped: " ++ print_word name

-- the name of a flow, where there is one
abbrev pub name_or_none : Option AppendFlow → List ℕ
name_or_none None = []
name_or_none (Some flow) = flow.name

-- the name of the flow at a place; a change feed has one
abbrev pub name_at : List AppendFlow → ℕ → List ℕ
name_at flows place = name_or_none (slice_get flows place)

-- a flow into a table
abbrev pub print_flow : List ℕ → List ℕ → List ℕ
print_flow flow table = (codes "flow " ++ print_word flow) ++ (codes " into " ++ print_word table) ++ codes ": "

-- how the line of a flow or view begins
abbrev pub print_begin : List ℕ → Body → ℕ → List ℕ
print_begin dataset (body.Append flows) place = print_flow (name_at flows place) dataset
print_begin dataset (body.Cdc feed) place = print_flow feed.name dataset
print_begin dataset (body.View query) place = codes "view " ++ print_word dataset ++ codes ": "

-- the line of the flow at a place of a dataset
abbrev pub print_flow_line : Dataset → ℕ → FlowEnd → List ℕ
print_flow_line dataset place end = print_line (print_begin dataset.name dataset.body place ++ print_end dataset.body end)
