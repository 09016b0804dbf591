use Rattle.std.proofs.Common.{◌∷◌, subst, sym}
use Rattle.segment_rows.specs.Exact.{IsSpelling}
use Rattle.commit_payloads.specs.declared.payload.Payload.TheVariants as payload
use Rattle.commit_payloads.specs.declared.take.Take.{Take}
use Rattle.commit_payloads.specs.Payloads.{spelled_payload, HasSpelling}
use Rattle.commit_payloads.proofs.PayloadLemmas.{take_is, take_refused}
use Rattle.commit_payloads.proofs.reading.read_take.Goals as goal

pub returns-in-Some-as_batch : goal.returns-in-Some-as_batch
returns-in-Some-as_batch c =
    let is = rw c.in-Some.is at c.in_ok-read.ensures in
    let batch = c.in-Some-as_batch.ensures in
    subst (λ (t : Take). IsSpelling spelled_payload HasSpelling (1 ∷ 2 ∷ c.args.bytes.now) (payload.Take t)) (sym batch.1) (take_is c.args.bytes.now c.in-Some.take is batch.0)

pub returns-in-None : goal.returns-in-None
returns-in-None c =
    let is = rw c.in-Some.is at c.in_ok-read.ensures in
    take_refused c.args.bytes.now c.in-Some.take is c.in-None.ensures
