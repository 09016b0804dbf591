-- The flows of an update, each from what those before it left.
use Rattle.std.specs.Prelude.{◌≤◌, ⊤, ℕ, List, [], ◌∷◌, ◌++◌, take, Bool, true, false, ◌||◌, slice_get, Option, Some, None, Result, Ok, Err}
use Rattle.disk_model.specs.Faults.{Rose}
use Rattle.commit_payloads.specs.declared.payload.Payload.{Payload}
use Rattle.landing_core.specs.declared.landing.LandingFile.{LandingFile}
use Rattle.plan_core.specs.declared.plan.Dataset.{Dataset as Part}
use Rattle.plan_core.specs.declared.stop.FlowEnd.{FlowEnd}
use Rattle.plan_core.specs.declared.stop.FlowEnd.TheVariants.{Completed, Current, Stopped, Skipped}
use Rattle.plan_core.specs.declared.stop.Stop.TheVariants.{Landing}
use Rattle.report_text.specs.Ends.{print_flow_line}
use Rattle.flow_engine.specs.declared.ends.End.{End}
use Rattle.flow_engine.specs.declared.ends.End.TheVariants.{Sink, Memory}
use Rattle.flow_engine.specs.declared.flow_id.FlowId.{FlowId}
use Rattle.flow_engine.specs.declared.listings.FolderOf.{FolderOf}
use Rattle.flow_engine.specs.Ends.{FlowEnds}
use Rattle.flow_engine.specs.Points.{Point, point_after}

-- a flow that ended, and what it committed: one payload, or none
pub record Ended : Type 0 where
  pub end : FlowEnd
  pub payloads : List Payload

-- How flows were cut short: one of them didn't end, having tried these payloads; or it ended, and its line wasn't written whole.
pub data Cut : Type 0 where
  Broke : End → List Payload → Cut
  Untold : Ended → End → Cut

-- a stop that says that the landing failed comes only where its count of faults rose, between these counts
abbrev pub BlamesLanding : ℕ → ℕ → FlowEnd → Type 0
BlamesLanding was now (Stopped (Landing before after)) = (was ≤ before) × Rose before after × (after ≤ now)
BlamesLanding was now other = ⊤

-- a line is cut short by the output, or for want of memory
abbrev pub CutsLine : End → Type 0
CutsLine Sink = ⊤
CutsLine Memory = ⊤
CutsLine end = ⊥

-- whether the landing tells, its files, what it listed, and its counts of faults before and after
module _ (tells : Type 0) (files : List LandingFile) (listings : List FolderOf) (was now : ℕ) (plan : List Part) (room : ℕ) where
  -- the flow at a place ends so
  abbrev pub EndsAs : FlowId → Point → Ended → Type 0
  EndsAs id point ended = FlowEnds tells files listings plan room id point ended.payloads ended.payloads (Ok ended.end) × BlamesLanding was now ended.end

  abbrev pub IsCut : FlowId → Point → Cut → Type 0
  IsCut id point (Broke end tried) = FlowEnds tells files listings plan room id point [] tried (Err end)
  IsCut id point (Untold ended why) = EndsAs id point ended × CutsLine why

  -- these flows ran in their order: so each ended, up to where they were cut short, if they were
  abbrev pub FlowsRun : List FlowId → Point → List Ended → Option Cut → Type 0
  FlowsRun [] point [] None = ⊤
  FlowsRun (id ∷ flows) point (ended ∷ more) cut = EndsAs id point ended × FlowsRun flows (point_after id.dataset ended.end ended.payloads point) more cut
  FlowsRun (id ∷ flows) point [] (Some cut) = IsCut id point cut
  FlowsRun flows point more cut = ⊥

-- ---- what they committed

abbrev pub cut_acked : Option Cut → List Payload
cut_acked None = []
cut_acked (Some (Broke end tried)) = []
cut_acked (Some (Untold ended why)) = ended.payloads

abbrev pub cut_tried : Option Cut → List Payload
cut_tried None = []
cut_tried (Some (Broke end tried)) = tried
cut_tried (Some (Untold ended why)) = ended.payloads

-- the payloads that were acknowledged
abbrev pub acked_of : List Ended → Option Cut → List Payload
acked_of [] cut = cut_acked cut
acked_of (ended ∷ more) cut = ended.payloads ++ acked_of more cut

-- those that were tried
abbrev pub tried_of : List Ended → Option Cut → List Payload
tried_of [] cut = cut_tried cut
tried_of (ended ∷ more) cut = ended.payloads ++ tried_of more cut

-- ---- what they answer

abbrev pub is_stop : FlowEnd → Bool
is_stop (Completed read version) = false
is_stop Current = false
is_stop (Stopped why) = true
is_stop (Skipped name) = false

abbrev pub any_stop : List Ended → Bool
any_stop [] = false
any_stop (ended ∷ more) = is_stop ended.end || any_stop more

-- whether any flow stopped, or why they were cut short
abbrev pub answer_of : List Ended → Option Cut → Result Bool End
answer_of more None = Ok (any_stop more)
answer_of more (Some (Broke end tried)) = Err end
answer_of more (Some (Untold ended why)) = Err why

-- ---- what they print

abbrev pub line_in : Option Part → FlowId → FlowEnd → List ℕ
line_in None id end = []
line_in (Some dataset) id end = print_flow_line dataset id.flow end

-- the line of the flow at a place
abbrev pub line_of : List Part → FlowId → FlowEnd → List ℕ
line_of plan id end = line_in (slice_get plan id.dataset) id end

-- so many bytes of the line at which they were cut short
abbrev pub front_of_line : List Part → FlowId → Option Cut → ℕ → List ℕ
front_of_line plan id None bytes = []
front_of_line plan id (Some (Broke end tried)) bytes = []
front_of_line plan id (Some (Untold ended why)) bytes = take bytes (line_of plan id ended.end)

-- the lines of flows, and of the last one so many bytes where they were cut short
abbrev pub lines_of : List Part → List FlowId → List Ended → Option Cut → ℕ → List ℕ
lines_of plan [] more cut bytes = []
lines_of plan (id ∷ flows) [] cut bytes = front_of_line plan id cut bytes
lines_of plan (id ∷ flows) (ended ∷ more) cut bytes = line_of plan id ended.end ++ lines_of plan flows more cut bytes
