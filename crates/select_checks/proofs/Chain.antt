-- The first of several faults, one after another.
use Rattle.std.proofs.Common.{◌≡◌, Bool, true, false, Option, Some, None, Result, Ok, Err, sym, ap, ◌∙◌}
use Rattle.std.specs.Prelude.{is_some, IfOk}
use Rattle.std.specs.Option.{option_or}
use Rattle.statement_checks.specs.declared.fault.CheckFault.{CheckFault}

pub here : (found first rest : Option CheckFault) (there : Bool) → found ≡ first → there ≡ is_some found → there ≡ true → found ≡ option_or first rest
here None first rest there is there_is passes = absurd (cc)
here (Some fault) first rest there is there_is passes = ap (λ (front : Option CheckFault). option_or front rest) is

pub beyond : {E : Type 0} (result : Result (Option CheckFault) E) (found first rest : Option CheckFault) (there : Bool) → found ≡ first → there ≡ is_some found → there ≡ false →
    IfOk result (λ fault. fault ≡ rest) → IfOk result (λ fault. fault ≡ option_or first rest)
beyond (Ok given) None first rest there is there_is fails h = h ∙ ap (λ (front : Option CheckFault). option_or front rest) is
beyond (Err e) None first rest there is there_is fails h = tt
beyond result (Some fault) first rest there is there_is fails h = absurd (cc)
