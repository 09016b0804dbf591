use Rattle.std.proofs.Common.{◌∷◌, subst, sym}
use Rattle.segment_rows.specs.Exact.{IsSpelling}
use Rattle.commit_payloads.specs.declared.payload.Payload.TheVariants as payload
use Rattle.commit_payloads.specs.declared.take.Refresh.{Refresh}
use Rattle.commit_payloads.specs.Payloads.{spelled_payload, HasSpelling}
use Rattle.commit_payloads.proofs.PayloadLemmas.{refresh_is, refresh_refused}
use Rattle.commit_payloads.proofs.reading.read_refresh.Goals as goal

pub returns-in-Some-as_renewal : goal.returns-in-Some-as_renewal
returns-in-Some-as_renewal c =
    let is = rw c.in-Some.is at c.in_ok-read.ensures in
    let batch = c.in-Some-as_renewal.ensures in
    subst (λ (t : Refresh). IsSpelling spelled_payload HasSpelling (1 ∷ 3 ∷ c.args.bytes.now) (payload.Refresh t)) (sym batch.1) (refresh_is c.args.bytes.now c.in-Some.refresh is batch.0)

pub returns-in-None : goal.returns-in-None
returns-in-None c =
    let is = rw c.in-Some.is at c.in_ok-read.ensures in
    refresh_refused c.args.bytes.now c.in-Some.refresh is c.in-None.ensures
