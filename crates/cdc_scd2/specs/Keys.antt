-- The events of histories.
use Rattle.std.specs.Prelude.{◌≡◌, List, [], ◌∷◌, false}
use Rattle.value_core.specs.declared.event.Event.{Event}
use Rattle.value_core.specs.EventOrder.{is_truncate}

-- each event is of a key: none is a truncate
abbrev pub AreKeyed : List Event → Type 0
AreKeyed [] = Unit {0}
AreKeyed (event ∷ events) = (is_truncate event ≡ false) × AreKeyed events
