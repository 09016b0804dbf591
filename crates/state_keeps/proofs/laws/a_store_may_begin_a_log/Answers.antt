use Rattle.state_keeps.proofs.StoreLemmas.{may_begin}
use Rattle.state_keeps.proofs.laws.a_store_may_begin_a_log.Goals as goal

pub returns : goal.returns
returns c = may_begin
