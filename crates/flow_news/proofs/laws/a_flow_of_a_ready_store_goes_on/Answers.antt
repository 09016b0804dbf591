use Rattle.flow_news.proofs.NextLemmas.{found_next}
use Rattle.flow_news.proofs.laws.a_flow_of_a_ready_store_goes_on.Goals as goal

pub returns : goal.returns
returns g c = λ was now files plan state level listing from columns old found ready reads keeps at comes.
    found_next g.L.Landing.tells was now files plan state level listing old found ready (c.a_state_comes_of_payloads.ensures.stored state ready.reached) from columns reads keeps at comes
