use Rattle.commit_payloads.proofs.PayloadLemmas.{one_payload}
use Rattle.commit_payloads.proofs.laws.payloads_have_one_spelling.Goals as goal

pub returns : goal.returns
returns c = one_payload
