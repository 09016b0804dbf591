use Rattle.rows_between.proofs.OrderLemmas.{reading_finds}
use Rattle.rows_between.proofs.laws.a_reading_finds_the_rows_between.Goals as goal

pub returns : goal.returns
returns c = reading_finds
