-- What a row gives to its group, as a call answers it.
use Rattle.std.specs.Prelude.{◌≡◌, ⊤, ◌++◌, Option, Some, None, Result, Ok, Err}
use Rattle.value_core.specs.Order.{Row}
use Rattle.row_expr.specs.Eval.{Fault, Overflow, ZeroDivisor, BadCast, and_then}
use Rattle.row_expr.specs.declared.fault.RowFault.{RowFault}
use Rattle.row_expr.specs.declared.fault.RowFault.TheVariants as answer
use Rattle.plan_core.specs.declared.stop.Place.TheVariants.{Of}
use Rattle.plan_core.specs.declared.stop.StopOr.{StopOr}
use Rattle.plan_core.specs.declared.stop.StopOr.TheVariants as either
use Rattle.flow_model.specs.Causes.{faulted}
use Rattle.flow_model.specs.Views as views
use Rattle.view_groups.specs.declared.share.Share.{Share}

-- a call answers with the outcome, or for want of memory with none
abbrev pub Gives : {A : Type 0} → Result A Fault → Result A RowFault → Type 0
Gives outcome (Ok value) = outcome ≡ Ok value
Gives outcome (Err answer.Overflow) = outcome ≡ Err Overflow
Gives outcome (Err answer.ZeroDivisor) = outcome ≡ Err ZeroDivisor
Gives outcome (Err answer.BadCast) = outcome ≡ Err BadCast
Gives outcome (Err answer.Memory) = ⊤

-- a share as the definitions see it
abbrev pub seen : Share → views.Share
seen share = record { group = share.group; values = share.values }

abbrev pub ShareAnswers : Result (Option views.Share) Fault → Result (Option Share) RowFault → Type 0
ShareAnswers outcome (Ok None) = outcome ≡ Ok None
ShareAnswers outcome (Ok (Some share)) = outcome ≡ Ok (Some (seen share))
ShareAnswers outcome (Err answer.Overflow) = outcome ≡ Err Overflow
ShareAnswers outcome (Err answer.ZeroDivisor) = outcome ≡ Err ZeroDivisor
ShareAnswers outcome (Err answer.BadCast) = outcome ≡ Err BadCast
ShareAnswers outcome (Err answer.Memory) = ⊤

-- values before those of an outcome
abbrev pub with_front : Row → Result Row Fault → Result Row Fault
with_front front outcome = and_then (λ values. Ok (front ++ values)) outcome

-- the stop by a fault at a row
abbrev pub StopsBy : Row → RowFault → StopOr → Type 0
StopsBy row answer.Overflow (either.Stop stop) = stop ≡ faulted (Of row) Overflow
StopsBy row answer.ZeroDivisor (either.Stop stop) = stop ≡ faulted (Of row) ZeroDivisor
StopsBy row answer.BadCast (either.Stop stop) = stop ≡ faulted (Of row) BadCast
StopsBy row answer.Memory (either.Stop stop) = ⊥
StopsBy row fault either.Memory = ⊤

-- what is answered for a row: its share, that WHERE doesn't take it, or the stop by its fault
abbrev pub PartAnswers : Row → Result (Option views.Share) Fault → Result (Option Share) StopOr → Type 0
PartAnswers row outcome (Ok None) = outcome ≡ Ok None
PartAnswers row outcome (Ok (Some share)) = outcome ≡ Ok (Some (seen share))
PartAnswers row outcome (Err (either.Stop stop)) = views.fault_stop row outcome ≡ Some stop
PartAnswers row outcome (Err either.Memory) = ⊤
