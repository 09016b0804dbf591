-- What stands in place of a batch.
use Rattle.std.specs.Prelude.{◌≡◌, Option, Some}
use Rattle.plan_core.specs.declared.stop.Stop.{Stop}
use Rattle.plan_core.specs.declared.stop.StopOr.{StopOr}
use Rattle.plan_core.specs.declared.stop.StopOr.TheVariants as ends

-- this is the stop, or memory was wanting
abbrev pub IsStopOf : Option Stop → StopOr → Type 0
IsStopOf stop (ends.Stop why) = stop ≡ Some why
IsStopOf stop ends.Memory = Unit {0}
