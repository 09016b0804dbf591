-- What an engine is opened with, and how one flow of it has run.
use Rattle.std.specs.Prelude.{◌≡◌, ◌⊎◌, ⊤, ℕ, List, Bool, false, map, Result, IfOk}
use Rattle.disk_model.specs.Disk.{DiskState}
use Rattle.disk_model.specs.Faults.{Rose}
use Rattle.landing_core.specs.declared.landing.LandingFile.{LandingFile}
use Rattle.commit_payloads.specs.declared.payload.Payload.{Payload}
use Rattle.plan_core.specs.declared.plan.Dataset.{Dataset as Part}
use Rattle.plan_core.specs.declared.stop.FlowEnd.{FlowEnd}
use Rattle.plan_core.specs.declared.stop.FlowEnd.TheVariants.{Stopped}
use Rattle.plan_core.specs.declared.stop.Stop.{Stop}
use Rattle.plan_core.specs.declared.stop.Stop.TheVariants.{Landing}
use Rattle.state_steps.specs.Stands.{Stands}
use Rattle.update_plan.specs.Commits.{AllCommit, AreOfPlan}
use Rattle.commit_trails.specs.Trails.{Trail}
use Rattle.flow_news.specs.Blames.{IsBlamed}
use Rattle.flow_news.specs.declared.offer.FolderListing.{FolderListing}
use Rattle.flow_news.specs.declared.offer.FolderListing.TheVariants as folder
use Rattle.flow_engine.specs.declared.ends.End.{End}
use Rattle.flow_engine.specs.declared.engine.Engine.{Engine}
use Rattle.flow_engine.specs.declared.flow_id.FlowId.{FlowId}
use Rattle.flow_engine.specs.declared.listings.FolderOf.{FolderOf}
use Rattle.flow_engine.specs.Ends.{FlowEnds}
use Rattle.flow_engine.specs.Flows.{listing_in}
use Rattle.flow_engine.specs.Points.{Point, point_after, point_of}

-- no dataset stopped or was skipped yet
abbrev pub no_marks : List Part → List Bool
no_marks plan = map (λ part. false) plan

-- ---- what is known of a landing and of a store beside it

-- whether the landing tells; the files that are there, all that were ever there, and what was listed
pub record LandingNow : Type 1 where
  pub tells : Type 0
  pub present : List LandingFile
  pub ever : List LandingFile
  pub listings : List FolderOf

-- A flow of a plan has run: how it ended, what it committed, what a crash leaves, and what stands behind it.
pub record HasRunFlow (timed : Type 0) (landed : LandingNow) (plan : List Part) (room : ℕ) (id : FlowId) (point : Point) (answer : Result FlowEnd End) (engine : Engine) (old new : DiskState) : Type 0 where
  pub acked : List Payload
  pub tried : List Payload
  pub ends : FlowEnds landed.tells landed.present landed.listings plan room id point acked tried answer
  pub trail : Trail timed point.state acked tried old new
  pub behind : IfOk answer (λ end. (acked ≡ tried) × (point_of engine ≡ point_after id.dataset end tried point))
  -- where the landing tells, it is a step of a store that stands for the plan's datasets
  pub steps : landed.tells → (parts : List Part) → Stands parts landed.ever point.state → AreOfPlan parts plan → AllCommit parts landed.ever point.state tried parts

-- ---- whom an end blames

-- a listing failed between these counts
pub record HasFailed (listings : List FolderOf) (before after : ℕ) : Type 0 where
  pub dir : List ℕ
  pub failed : listing_in listings dir ≡ folder.Failed before after

-- a stop of the landing comes only where a listing failed, or where a read of this call raised the landing's count
abbrev pub BlamesStop : List FolderOf → ℕ → ℕ → Stop → Type 0
BlamesStop listings was now (Landing before after) = HasFailed listings before after ⊎ ((before ≡ was) × (after ≡ now) × Rose was now)
BlamesStop listings was now other = ⊤

-- the same of a flow by what was listed of its own folder
abbrev pub BlamesListing : FolderListing → ℕ → ℕ → FlowEnd → Type 0
BlamesListing listing was now (Stopped why) = IsBlamed listing was now why
BlamesListing listing was now other = ⊤

abbrev pub BlamesEnd : List FolderOf → ℕ → ℕ → FlowEnd → Type 0
BlamesEnd listings was now (Stopped why) = BlamesStop listings was now why
BlamesEnd listings was now other = ⊤
