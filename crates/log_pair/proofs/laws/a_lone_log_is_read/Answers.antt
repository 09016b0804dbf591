use Rattle.log_pair.proofs.KeepLemmas.{lone, empty}
use Rattle.log_pair.proofs.laws.a_lone_log_is_read.Goals as goal

pub returns-clause-lone : goal.returns-clause-lone
returns-clause-lone c = lone

pub returns-clause-empty : goal.returns-clause-empty
returns-clause-empty c = empty
