-- Which parts an event has.
use Rattle.std.specs.Prelude.{Bool, true, ◌&&◌, ◌==◌, length}
use Rattle.value_core.specs.declared.event.Event.{Event}
use Rattle.value_core.specs.declared.event.EventKind.{EventKind}
use Rattle.value_core.specs.declared.event.EventKind.TheVariants.{Upsert, Delete, Truncate}
use Rattle.value_core.specs.Order.{Row}

abbrev pub fit_the_kind : EventKind → Row → Row → Bool
fit_the_kind Upsert key columns = true
fit_the_kind Delete key columns = length columns == 0
fit_the_kind Truncate key columns = length key == 0 && length columns == 0

-- a delete has no columns, and a truncate neither key nor columns
abbrev pub has_its_parts : Event → Bool
has_its_parts event = fit_the_kind event.kind event.key event.columns
