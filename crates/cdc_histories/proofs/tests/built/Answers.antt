use Rattle.std.proofs.Common.{◌∷◌, sym, subst}
use Rattle.event_ledger.specs.Keyed.{AreApart}
use Rattle.cdc_histories.proofs.LateLemmas.{late_apart}
use Rattle.cdc_histories.proofs.tests.built.Goals as goal

pub returns : goal.returns
returns g c late at =
    subst (λ ys. AreApart (late ∷ ys)) (sym c.in_ok-built.ensures.sorted)
    (late_apart late c.in_ok-events.events c.in_ok-events.ensures.apart (c.in_ok-events.ensures.late late at))
