use Rattle.store_fitness.proofs.StandLemmas.{fits_its_plan}
use Rattle.store_fitness.proofs.laws.a_store_that_stands_fits.Goals as goal

pub returns : goal.returns
returns c = fits_its_plan
