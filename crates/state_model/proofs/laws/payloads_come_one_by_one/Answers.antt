use Rattle.state_model.proofs.StateLemmas.{state_after-append}
use Rattle.state_model.proofs.laws.payloads_come_one_by_one.Goals as goal

pub returns : goal.returns
returns c = state_after-append
