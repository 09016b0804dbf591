use Rattle.std.proofs.Common.{refl}
use Rattle.standing_worked.proofs.StandLemmas.{first_stands, reset_stands}
use Rattle.standing_worked.proofs.laws.a_store_stands_as_worked.Goals as goal

pub returns : goal.returns
returns c = record { comes = refl; stands = first_stands; reset = refl; stands_reset = reset_stands }
