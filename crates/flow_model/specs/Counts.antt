-- Counts that would pass their limit.
use Rattle.std.specs.Prelude.{List, ◌∷◌, ℕ, ◌^◌, nat_lt, if◌then◌else◌, Option, Some, None}
use Rattle.value_core.specs.declared.change.Tally.{Tally}
use Rattle.value_core.specs.Tallies.{both_tallies}
use Rattle.plan_core.specs.declared.expectation.Expectation.{Expectation}
use Rattle.plan_core.specs.declared.stop.Stop.{Stop}
use Rattle.plan_core.specs.declared.stop.Stop.TheVariants.{CountOverflow}

-- the first of two counts that is past 2^63 - 1
abbrev pub past_limit : Tally → Option ℕ
past_limit total = if nat_lt total.passed (2 ^ 63) then (if nat_lt total.failed (2 ^ 63) then None else Some total.failed) else Some total.passed

abbrev pub stop_by_total : List ℕ → Option ℕ → Option Stop → Option Stop
stop_by_total name (Some total) later = Some (CountOverflow name total)
stop_by_total name None later = later

-- the stop of the first expectation whose kept counts with further ones are past the limit
abbrev pub count_stop : List Expectation → List Tally → List Tally → Option Stop
count_stop (x ∷ xs) (kept ∷ kepts) (next ∷ more) = stop_by_total x.name (past_limit (both_tallies kept next)) (count_stop xs kepts more)
count_stop xs kepts more = None
