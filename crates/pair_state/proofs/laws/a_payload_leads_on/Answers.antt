use Rattle.std.proofs.Common.{refl}
use Rattle.commit_payloads.specs.Payloads.{spelled_payload}
use Rattle.state_model.specs.Dataset.{empty_state}
use Rattle.pair_state.proofs.LeadsLemmas.{leads_more}
use Rattle.pair_state.proofs.laws.a_payload_leads_on.Goals as goal

pub returns : goal.returns
returns c = λ bodies state commit leads follows. leads_more empty_state bodies state (spelled_payload commit) commit leads refl follows
