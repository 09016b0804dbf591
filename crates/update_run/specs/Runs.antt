-- What an update did to a store and left of it.
use Rattle.std.specs.Prelude.{◌≡◌, ◌⊎◌, ⊤, ℕ, List, [], ◌++◌, Bool, Some, Option, Result, Ok, Err}
use Rattle.std.specs.List.{AllByRecursion}
use Rattle.disk_model.specs.Disk.{DiskState}
use Rattle.landing_core.specs.declared.landing.LandingFile.{LandingFile}
use Rattle.landing_core.specs.declared.landing.Listed.{Listed}
use Rattle.landing_core.specs.Folders.{AreThere, listing_of, listed_names}
use Rattle.landing_core.specs.Names.{AreAscending}
use Rattle.disk_model.specs.Faults.{Rose}
use Rattle.commit_payloads.specs.declared.payload.Payload.{Payload}
use Rattle.plan_core.specs.declared.flow.AppendFlow.{AppendFlow}
use Rattle.plan_core.specs.declared.flow.Origin.{Origin}
use Rattle.plan_core.specs.declared.flow.Origin.TheVariants as origin
use Rattle.plan_core.specs.declared.plan.Dataset.{Dataset as Part}
use Rattle.state_model.specs.Dataset.{State}
use Rattle.state_steps.specs.Stands.{Stands}
use Rattle.update_plan.specs.Commits.{AllCommit, AreOfPlan}
use Rattle.commit_trails.specs.Trails.{Trail}
use Rattle.flow_news.specs.declared.offer.FolderListing.{FolderListing}
use Rattle.flow_news.specs.declared.offer.FolderListing.TheVariants as folder
use Rattle.flow_engine.specs.declared.engine.Engine.{Engine}
use Rattle.flow_engine.specs.declared.ends.End.{End}
use Rattle.flow_engine.specs.declared.ends.End.TheVariants.{Memory}
use Rattle.flow_engine.specs.declared.flow_id.FlowId.{FlowId}
use Rattle.flow_engine.specs.declared.listings.FolderOf.{FolderOf}
use Rattle.flow_engine.specs.Engine.{LandingNow}
use Rattle.flow_engine.specs.Flows.{IsFlowAt, listing_for}
use Rattle.flow_engine.specs.Points.{Point, point_after, point_of}
use Rattle.update_run.specs.Folders.{folders_listed, folders_read, with_folders}
use Rattle.update_run.specs.Order.{flow_order}
use Rattle.update_run.specs.Updates.{Cut, Ended, EndsAs, FlowsRun, IsCut, acked_of, answer_of, cut_acked, cut_tried, front_of_line, is_stop, line_of, lines_of, tried_of}

-- ---- listings

-- where the landing tells, a folder was listed as what it lists, and each listed file is there
pub record IsListedWhole (tells : Type 0) (dir : List ℕ) (files : List LandingFile) (listing : List Listed) : Type 0 where
  pub ascending : AreAscending (listed_names listing)
  pub listing_is : tells → listing ≡ listing_of dir files
  pub there : tells → AreThere dir files listing

-- a folder was listed so, or the listing failed and the landing's count rose
abbrev pub IsListedAs : Type 0 → List ℕ → List LandingFile → FolderListing → Type 0
IsListedAs tells dir files (folder.Files listing) = IsListedWhole tells dir files listing
IsListedAs tells dir files (folder.Failed before after) = Rose before after
IsListedAs tells dir files folder.NoFolder = ⊥

-- each folder was
abbrev pub AreListings : Type 0 → List LandingFile → List FolderOf → Type 0
AreListings tells files listings = AllByRecursion (λ known. IsListedAs tells known.dir files known.listing) listings

-- the same of the folder of an origin, if it is one
abbrev pub IsListedFor : Type 0 → Origin → List LandingFile → FolderListing → Type 0
IsListedFor tells (origin.Files dir shape) files listing = IsListedAs tells dir files listing
IsListedFor tells (origin.Table name) files listing = ⊤

-- each folder that a flow of the plan reads was listed
abbrev pub AllListed : Type 0 → List Part → List LandingFile → List FolderOf → Type 0
AllListed tells plan files listings =
    (id : FlowId) (dataset : Part) (flow : AppendFlow) → IsFlowAt plan id dataset flow → IsListedFor tells flow.origin files (listing_for listings flow.origin)

-- ---- flows in their order

-- Where the landing tells, and a store of this state stands for the plan's datasets, these payloads are steps of it.
abbrev pub AreSteps : LandingNow → List Part → State → List Payload → Type 0
AreSteps landed plan state payloads =
    landed.tells → (parts : List Part) → Stands parts landed.ever state → AreOfPlan parts plan → AllCommit parts landed.ever state payloads parts

-- a flow ended, and its line was printed where the output tells
pub record HasRunNext (timed told : Type 0) (landed : LandingNow) (was now : ℕ) (plan : List Part) (room : ℕ) (id : FlowId) (point : Point) (stopped : Bool) (engine : Engine) (old new : DiskState) (before after : List ℕ) : Type 0 where
  pub ended : Ended
  pub ends : EndsAs landed.tells landed.present landed.listings was now plan room id point ended
  pub stopped_is : stopped ≡ is_stop ended.end
  pub trail : Trail timed point.state ended.payloads ended.payloads old new
  pub behind : point_of engine ≡ point_after id.dataset ended.end ended.payloads point
  pub line : told → after ≡ before ++ line_of plan id ended.end
  pub steps : AreSteps landed plan point.state ended.payloads

-- it was cut short
pub record HasCutNext (timed told : Type 0) (landed : LandingNow) (was now : ℕ) (plan : List Part) (room : ℕ) (id : FlowId) (point : Point) (why : End) (old new : DiskState) (before after : List ℕ) : Type 0 where
  pub cut : Cut
  pub is : IsCut landed.tells landed.present landed.listings was now plan room id point cut
  pub why_is : answer_of [] (Some cut) ≡ Err why
  pub trail : Trail timed point.state (cut_acked (Some cut)) (cut_tried (Some cut)) old new
  pub front : told → (bytes : ℕ) × (after ≡ before ++ front_of_line plan id (Some cut) bytes)
  pub steps : AreSteps landed plan point.state (cut_tried (Some cut))

-- one of several flows has run, and whether it stopped
abbrev pub RunsNext : Type 0 → Type 0 → LandingNow → ℕ → ℕ → List Part → ℕ → FlowId → Point → Result Bool End → Engine → DiskState → DiskState → List ℕ → List ℕ → Type 0
RunsNext timed told landed was now plan room id point (Ok stopped) engine old new before after = HasRunNext timed told landed was now plan room id point stopped engine old new before after
RunsNext timed told landed was now plan room id point (Err why) engine old new before after = HasCutNext timed told landed was now plan room id point why old new before after

-- Flows have run from what stood before the first of them: how they ended, what they committed, what a crash leaves, and what they
-- printed where the output tells.
pub record HaveRun (timed told : Type 0) (landed : LandingNow) (was now : ℕ) (plan : List Part) (room : ℕ) (flows : List FlowId) (point : Point) (answer : Result Bool End) (old new : DiskState) (before after : List ℕ) : Type 0 where
  pub ended : List Ended
  pub cut : Option Cut
  pub run : FlowsRun landed.tells landed.present landed.listings was now plan room flows point ended cut
  pub answer_is : answer ≡ answer_of ended cut
  pub trail : Trail timed point.state (acked_of ended cut) (tried_of ended cut) old new
  pub lines : told → (bytes : ℕ) × (after ≡ before ++ lines_of plan flows ended cut bytes)
  pub steps : AreSteps landed plan point.state (tried_of ended cut)

-- ---- an update

-- what the landing holds, by whatever it listed
abbrev pub landed_by : Type 0 → List LandingFile → List LandingFile → List FolderOf → LandingNow
landed_by tells present ever listings = record { tells = tells; present = present; ever = ever; listings = listings }

-- all flows of a plan ran in their order, by what the landing listed before the first of them, each folder once
pub record HasUpdated (timed told tells : Type 0) (present ever : List LandingFile) (was now : ℕ) (plan : List Part) (room : ℕ) (point : Point) (answer : Result Bool End) (old new : DiskState) (before after : List ℕ) : Type 0 where
  pub listings : List FolderOf
  pub once : folders_listed listings ≡ with_folders [] (folders_read plan)
  pub listed : AllListed tells plan present listings
  pub ran : HaveRun timed told (landed_by tells present ever listings) was now plan room (flow_order plan) point answer old new before after

-- or memory ran out before that, and nothing was done
pub record HasNotBegun (timed told : Type 0) (point : Point) (answer : Result Bool End) (old new : DiskState) (before after : List ℕ) : Type 0 where
  pub answer_is : answer ≡ Err Memory
  pub trail : Trail timed point.state [] [] old new
  pub printed : told → after ≡ before

abbrev pub Updates : Type 0 → Type 0 → Type 0 → List LandingFile → List LandingFile → ℕ → ℕ → List Part → ℕ → Point → Result Bool End → DiskState → DiskState → List ℕ → List ℕ → Type 0
Updates timed told tells present ever was now plan room point answer old new before after =
    HasNotBegun timed told point answer old new before after ⊎ HasUpdated timed told tells present ever was now plan room point answer old new before after
