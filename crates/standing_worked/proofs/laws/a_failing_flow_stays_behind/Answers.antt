use Rattle.std.proofs.Common.{refl}
use Rattle.standing_worked.proofs.RowLemmas.{third_stops}
use Rattle.standing_worked.proofs.StandLemmas.{behind_stands}
use Rattle.standing_worked.proofs.laws.a_failing_flow_stays_behind.Goals as goal

pub returns : goal.returns
returns c = record { comes = refl; stops = third_stops; stands = behind_stands }
