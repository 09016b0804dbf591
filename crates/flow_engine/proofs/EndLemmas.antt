-- How a flow has ended, from what it came to and how that was committed.
use Rattle.std.proofs.Common.{◌≡◌, inl, inr, ℕ, List, [], Option, Some, None, Result, Ok, Err, IfOk, IfErr, refl, sym, ap, ◌∙◌}
use Rattle.disk_model.specs.Disk.{DiskState}
use Rattle.landing_core.specs.declared.landing.LandingFile.{LandingFile}
use Rattle.commit_payloads.specs.declared.payload.Payload.{Payload}
use Rattle.plan_core.specs.declared.flow.AppendFlow.{AppendFlow}
use Rattle.plan_core.specs.declared.plan.Dataset.{Dataset as Part}
use Rattle.plan_core.specs.declared.stop.FlowEnd.{FlowEnd}
use Rattle.plan_core.specs.declared.stop.FlowEnd.TheVariants.{Skipped}
use Rattle.pair_store.specs.Store.{store_state}
use Rattle.pair_store.specs.declared.store.Store.{Store}
use Rattle.flow_news.specs.declared.offer.FolderListing.{FolderListing}
use Rattle.commit_trails.specs.Trails.{Trail}
use Rattle.flow_engine.specs.declared.ends.End.{End}
use Rattle.flow_engine.specs.declared.ends.End.TheVariants.{Memory}
use Rattle.flow_engine.specs.Commits.{HasEnded, end_of}
use Rattle.flow_engine.specs.Ends.{Runs, RunsUnless}

-- ---- how it has ended

-- memory ran out before it came to anything
pub ran_out : (timed tells : Type 0) (ever : List LandingFile) (dataset : Part) (was : Store) (Ends : List Payload → List Payload → Result FlowEnd End → Type 0) (answer : Result FlowEnd End) (disk : DiskState) → answer ≡ Err Memory
    → Trail timed (store_state was) [] [] disk disk → HasEnded timed tells ever dataset Ends was was answer disk disk
ran_out timed tells ever dataset was Ends (Ok end) disk is trail = cc
ran_out timed tells ever dataset was Ends (Err end) disk is trail = record {
  acked = [];
  tried = [];
  ends = inl (is, refl, refl);
  trail = trail;
  behind = tt;
  steps = λ told parts stands named. refl;
}

module _ (timed tells : Type 0) (files ever : List LandingFile) (room : ℕ) (listing : FolderListing) (dataset : Part) (flow : AppendFlow) (was : Store) where
  -- nothing blocks it
  pub unblocked : (blocked : Option (List ℕ)) (now : Store) (answer : Result FlowEnd End) (old new : DiskState) → blocked ≡ None
      → HasEnded timed tells ever dataset (Runs tells files room listing (store_state was) (end_of was) dataset flow) was now answer old new
      → HasEnded timed tells ever dataset (RunsUnless tells files room blocked listing (store_state was) (end_of was) dataset flow) was now answer old new
  unblocked None now answer old new is ended = record { acked = ended.acked; tried = ended.tried; ends = ended.ends; trail = ended.trail; behind = ended.behind; steps = ended.steps }
  unblocked (Some name) now answer old new is ended = cc

  -- it is skipped, unless memory ran out
  pub skipped_ends : (blocked : Option (List ℕ)) (name : List ℕ) (answer : Result FlowEnd End) (disk : DiskState) → blocked ≡ Some name → IfOk answer (λ end. end ≡ Skipped name) → IfErr answer (λ end. end ≡ Memory)
      → Trail timed (store_state was) [] [] disk disk → HasEnded timed tells ever dataset (RunsUnless tells files room blocked listing (store_state was) (end_of was) dataset flow) was was answer disk disk
  skipped_ends None name answer disk is skips memory trail = cc
  skipped_ends (Some other) name (Err end) disk is skips memory trail = ran_out timed tells ever dataset was (RunsUnless tells files room (Some other) listing (store_state was) (end_of was) dataset flow) (Err end) disk (ap Err memory) trail
  skipped_ends (Some other) name (Ok end) disk is skips memory trail = record {
    acked = [];
    tried = [];
    ends = inr (ap Ok (skips ∙ sym same), refl, refl);
    trail = trail;
    behind = (refl, record { state_is = refl; end_is = refl });
    steps = λ told parts stands named. refl;
  } where
    same : Skipped other ≡ Skipped name
    same = cc
