-- What a check of a select answers.
use Rattle.std.specs.Prelude.{◌≡◌, ⊤, Result, Ok, Err}
use Rattle.statement_checks.specs.declared.fault.CheckFault.{CheckFault}
use Rattle.select_checks.specs.declared.end.SelectEnd.{SelectEnd}
use Rattle.select_checks.specs.declared.end.SelectEnd.TheVariants as end

-- a call answers with what is given or with the fault, or for want of memory with neither
abbrev pub Judges : {A : Type 0} → Result A CheckFault → Result A SelectEnd → Type 0
Judges found (Ok given) = found ≡ Ok given
Judges found (Err (end.Fault fault)) = found ≡ Err fault
Judges found (Err end.Memory) = ⊤
