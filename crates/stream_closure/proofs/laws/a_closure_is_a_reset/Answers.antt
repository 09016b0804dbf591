use Rattle.stream_closure.proofs.ClosureLemmas.{closure_resets}
use Rattle.stream_closure.proofs.laws.a_closure_is_a_reset.Goals as goal

pub returns : goal.returns
returns c = closure_resets
