-- A stop that says that the landing failed has its cause in the counts of faults.
use Rattle.std.proofs.Common.{inl, inr, ℕ, ◌≤◌, List, [], ◌∷◌, Bool, true, false, cond, subst, sym}
use Rattle.std.specs.Str.{bytes_eq}
use Rattle.disk_model.specs.Faults.{Rose}
use Rattle.plan_core.specs.declared.stop.FlowEnd.{FlowEnd}
use Rattle.plan_core.specs.declared.stop.FlowEnd.TheVariants.{Completed, Current, Stopped, Skipped}
use Rattle.plan_core.specs.declared.stop.Stop.{Stop}
use Rattle.plan_core.specs.declared.stop.Stop.TheVariants.{BadCast, CountOverflow, Expect, Landing, NullSequence, Overflow, Shrunk, SumOverflow, Tied, ZeroDivisor}
use Rattle.flow_news.specs.declared.offer.FolderListing.{FolderListing}
use Rattle.flow_engine.specs.declared.listings.FolderOf.{FolderOf}
use Rattle.flow_engine.specs.Engine.{BlamesEnd, BlamesStop}
use Rattle.flow_engine.specs.Flows.{listing_in}
use Rattle.update_run.specs.Folders.{AreBlamed, HasFailedWithin}
use Rattle.update_run.specs.Updates.{BlamesLanding}

module _ (was now : ℕ) where
  first_or : (here : Bool) (one other : FolderListing) → HasFailedWithin was now one → HasFailedWithin was now other → HasFailedWithin was now (cond here one other)
  first_or true one other is rest = is
  first_or false one other is rest = rest

  -- what was listed of a folder failed only between the counts
  within : (listings : List FolderOf) (dir : List ℕ) → AreBlamed was now listings → HasFailedWithin was now (listing_in listings dir)
  within [] dir all = tt
  within (first ∷ more) dir all = first_or (bytes_eq first.dir dir) first.listing (listing_in more dir) all.0 (within more dir all.1)

  module _ (one other : ℕ) (listings : List FolderOf) (blamed : AreBlamed was now listings) (from : was ≤ one) (till : other ≤ now) where
    -- a listing that failed, or a read between these two counts
    landing_blames : (before after : ℕ) → BlamesStop listings one other (Landing before after) → (was ≤ before) × Rose before after × (after ≤ now)
    landing_blames before after (inl failed) = subst (HasFailedWithin was now) failed.failed (within listings failed.dir blamed)
    landing_blames before after (inr read) =
        subst (λ (b : ℕ). (was ≤ b) × Rose b after × (after ≤ now)) (sym read.0) (subst (λ (a : ℕ). (was ≤ one) × Rose one a × (a ≤ now)) (sym read.1) (from, read.2, till))

    stop_blames : (why : Stop) → BlamesStop listings one other why → BlamesLanding was now (Stopped why)
    stop_blames (Landing before after) is = landing_blames before after is
    stop_blames (Expect place name) is = tt
    stop_blames (Overflow place) is = tt
    stop_blames (ZeroDivisor place) is = tt
    stop_blames (BadCast place) is = tt
    stop_blames (NullSequence row) is = tt
    stop_blames (Tied row kept later) is = tt
    stop_blames (SumOverflow group total) is = tt
    stop_blames (CountOverflow name total) is = tt
    stop_blames (Shrunk file cursor size) is = tt

    pub end_blames : (end : FlowEnd) → BlamesEnd listings one other end → BlamesLanding was now end
    end_blames (Stopped why) is = stop_blames why is
    end_blames (Completed read version) is = tt
    end_blames Current is = tt
    end_blames (Skipped name) is = tt
