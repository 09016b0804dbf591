use Rattle.landing_history.proofs.FileGrowth.{grown_twice, one_grown, same_grown}
use Rattle.landing_history.proofs.laws.growth_goes_file_by_file.Goals as goal

pub returns-clause-same : goal.returns-clause-same
returns-clause-same c = same_grown

pub returns-clause-twice : goal.returns-clause-twice
returns-clause-twice c = grown_twice

pub returns-clause-one : goal.returns-clause-one
returns-clause-one c = one_grown
