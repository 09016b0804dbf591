-- What a flow came to, once it is committed.
use Rattle.std.proofs.Common.{◌≡◌, ℕ, List, [], Result, Ok, Err, refl, sym, ◌∙◌, subst}
use Rattle.disk_model.specs.Disk.{DiskState}
use Rattle.commit_payloads.specs.declared.payload.Payload.{Payload}
use Rattle.commit_payloads.specs.declared.take.Take.{Take}
use Rattle.plan_core.specs.declared.plan.Dataset.{Dataset as Part}
use Rattle.plan_core.specs.declared.stop.FlowEnd.{FlowEnd}
use Rattle.pair_store.specs.Store.{store_state}
use Rattle.pair_store.specs.declared.store.Store.{Store}
use Rattle.state_model.specs.Dataset.{State}
use Rattle.flow_news.specs.Commits.{MayBeTaken}
use Rattle.flow_news.specs.declared.offer.Offer.{Offer}
use Rattle.flow_news.specs.declared.offer.Offer.TheVariants.{Ready}
use Rattle.pair_store.specs.declared.ends.CommitEnd.{CommitEnd}
use Rattle.pair_store.specs.declared.ends.CommitEnd.TheVariants.{Failed}
use Rattle.commit_trails.specs.Trails.{Trail}
use Rattle.commit_trails.specs.Trails as trails
use Rattle.flow_engine.specs.declared.ends.End.TheVariants.{Disk}
use Rattle.flow_engine.specs.declared.ends.End.{End}
use Rattle.flow_engine.specs.Commits.{HasCommitted, HasSettled, end_of}
use Rattle.flow_engine.specs.Ends.{Settles, tried_by}

-- ---- one commit

abbrev trails_error : CommitEnd → Result (Unit {0}) CommitEnd
trails_error end = Err end

module _ (timed : Type 0) (room : ℕ) (made : Payload) (was now : Store) (result : Result (Unit {0}) CommitEnd) (old new : DiskState)
    (trail : Trail timed (store_state was) (trails.acked_by made result) (trails.tried_by made result) old new) where
  trail_of : (end : Result (Unit {0}) CommitEnd) → result ≡ end → Trail timed (store_state was) (trails.acked_by made end) (trails.tried_by made end) old new
  trail_of end is = subst (λ (r : Result (Unit {0}) CommitEnd). Trail timed (store_state was) (trails.acked_by made r) (trails.tried_by made r) old new) is trail

  pub failed : (count : ℕ) → result ≡ Err (Failed count) → HasCommitted timed room made was now (Err (Disk count)) old new
  failed count is = record { trail = trail_of (Err (Failed count)) is; behind = tt }

  -- it ended before it came to the disk
  pub refused : (end : CommitEnd) (other : End) → result ≡ Err end → trails.tried_by made (trails_error end) ≡ [] → tried_by made (Err other) ≡ [] → HasCommitted timed room made was now (Err other) old new
  refused end other is none here = record {
    trail = subst (λ (list : List Payload). Trail timed (store_state was) [] list old new) (none ∙ sym here) (trail_of (Err end) is);
    behind = tt;
  }

-- nothing was committed
pub settled_none : (timed : Type 0) (room version : ℕ) (store : Store) (offer : Offer) (end : FlowEnd) (disk : DiskState) → Settles (store_state store) (end_of store) room version offer [] [] (Ok end)
    → Trail timed (store_state store) [] [] disk disk → HasSettled timed room version offer store store (Ok end) disk disk
settled_none timed room version store offer end disk settles trail = record {
  acked = [];
  tried = [];
  settles = settles;
  trail = trail;
  behind = (refl, record { state_is = refl; end_is = refl });
}

-- ---- a batch

pub may_take : (state : State) (dataset : Part) (offer : Offer) (read : ℕ) (batch : Take) → offer ≡ Ready read batch → MayBeTaken state dataset offer → MayBeTaken state dataset (Ready read batch)
may_take state dataset offer read batch is may = subst (MayBeTaken state dataset) is may
