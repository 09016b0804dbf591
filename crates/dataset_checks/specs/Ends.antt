-- What the checks of a dataset answer.
use Rattle.std.specs.Prelude.{◌≡◌, ◌+◌, ⊤, ℕ, Result, Ok, Err}
use Rattle.statement_checks.specs.declared.fault.Break.{Break}
use Rattle.statement_checks.specs.declared.fault.CheckFault.{CheckFault}
use Rattle.statement_checks.specs.Breaks.{broken}
use Rattle.dataset_checks.specs.declared.end.DatasetEnd.{DatasetEnd}
use Rattle.dataset_checks.specs.declared.end.DatasetEnd.TheVariants as end

abbrev pub and_then : {A B E : Type 0} → Result A E → (A → Result B E) → Result B E
and_then (Ok given) f = f given
and_then (Err fault) f = Err fault

-- what is made of what is given, or the first fault
infixl 10 ◌>>=◌
abbrev pub ◌>>=◌ : {A B E : Type 0} → Result A E → (A → Result B E) → Result B E
given >>= f = and_then given f

-- what is given, or a fault in the statement of this place from 0; statements are numbered from 1
abbrev pub at_statement : {A : Type 0} → ℕ → Result A CheckFault → Result A Break
at_statement place (Ok given) = Ok given
at_statement place (Err fault) = Err (broken (place + 1) fault)

-- a call answers with what is meant, or for want of memory with neither
abbrev pub Answers : {A : Type 0} → Result A Break → Result A DatasetEnd → Type 0
Answers meant (Ok given) = meant ≡ Ok given
Answers meant (Err (end.Refused found)) = meant ≡ Err found
Answers meant (Err end.Memory) = ⊤
