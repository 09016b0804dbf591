-- What the results of rows come to, up to the first that stops.
use Rattle.std.specs.Prelude.{◌≡◌, ℕ, ◌+◌, ◌<◌, List, [], ◌∷◌, Bool, true, false, length, map, filter_map, Option, Some, None}
use Rattle.value_core.specs.declared.change.Tally.{Tally}
use Rattle.value_core.specs.declared.event.NumberedEvent.{NumberedEvent}
use Rattle.value_core.specs.Order.{Row}
use Rattle.value_core.specs.Tallies.{added}
use Rattle.plan_core.specs.declared.expectation.Expectation.{Expectation}
use Rattle.plan_core.specs.declared.stop.Stop.{Stop}
use Rattle.flow_model.specs.Admission.{counts}
use Rattle.row_flow.specs.declared.gather.Gathered.{Gathered}
use Rattle.row_flow.specs.declared.result.Judged.{Judged}
use Rattle.row_flow.specs.Results.{before_halt, events_from, first_halt, kept_of, seen_of}

-- one row, passed or not
abbrev pub tally_of : Bool → Tally
tally_of true = record { passed = 1; failed = 0 }
tally_of false = record { passed = 0; failed = 1 }

-- each count is of fewer rows than these
abbrev pub AreBelow : ℕ → List Tally → Type 0
AreBelow limit [] = Unit {0}
AreBelow limit (tally ∷ more) = (tally.passed + tally.failed < limit) × AreBelow limit more

abbrev pub counted_by : {A : Type 0} → Option A → List Bool → List Tally → List Tally
counted_by (Some row) marks tallies = added tallies (map tally_of marks)
counted_by None marks tallies = tallies

-- the counts with a row of these marks, if expectations were judged on it
abbrev pub counted : Judged → List Bool → List Tally → List Tally
counted judged marks tallies = counted_by (seen_of judged) marks tallies

-- so many rows before the first stop, what they give, and that stop
pub record Gathers (xs : List Expectation) (wanted : List Judged) (read : ℕ) (rows : List Row) (events : List NumberedEvent) (tallies : List Tally) (halt : Option Stop) : Type 0 where
  pub halts : halt ≡ first_halt wanted
  pub reads : read ≡ length (before_halt wanted)
  pub keeps : rows ≡ filter_map kept_of (before_halt wanted)
  pub gives : events ≡ events_from 1 (before_halt wanted)
  pub counts_up : tallies ≡ counts xs (filter_map seen_of (before_halt wanted))

abbrev pub IsGathered : List Expectation → List Judged → Gathered → Type 0
IsGathered xs wanted g = Gathers xs wanted g.read g.rows.items g.events g.tallies.items g.halt
