-- One of several flows has run, and its line was written or not.
use Rattle.std.proofs.Common.{◌≡◌, inl, inr, ℕ, List, [], ◌++◌, take, Option, Some, None, Result, Ok, Err, refl, sym, ◌∙◌, subst}
use Rattle.std.proofs.lemmas.List.{append-nil}
use Rattle.disk_model.specs.Disk.{DiskState}
use Rattle.landing_core.specs.declared.landing.LandingFile.{LandingFile}
use Rattle.landing_core.specs.Folders.{HoldsPresent}
use Rattle.commit_payloads.specs.declared.payload.Payload.{Payload}
use Rattle.plan_core.specs.declared.flow.AppendFlow.{AppendFlow}
use Rattle.plan_core.specs.declared.plan.Dataset.{Dataset as Part}
use Rattle.plan_core.specs.declared.stop.FlowEnd.{FlowEnd}
use Rattle.state_model.specs.Dataset.{State}
use Rattle.state_steps.specs.Stands.{Stands}
use Rattle.update_plan.specs.Commits.{AllCommit}
use Rattle.commit_trails.specs.Trails.{Trail}
use Rattle.flow_news.specs.declared.offer.FolderListing.{FolderListing}
use Rattle.flow_news.specs.declared.offer.Offer.{Offer}
use Rattle.flow_news.specs.declared.offer.Offer.TheVariants.{Halted, Idle, Ready, Unfit}
use Rattle.flow_engine.specs.declared.ends.End.{End}
use Rattle.flow_engine.specs.declared.engine.Engine.{Engine}
use Rattle.flow_engine.specs.declared.flow_id.FlowId.{FlowId}
use Rattle.flow_engine.specs.declared.listings.FolderOf.{FolderOf}
use Rattle.flow_engine.specs.Ends.{FlowEnds, RunsUnless, Settles}
use Rattle.flow_engine.specs.Engine.{HasRunFlow}
use Rattle.flow_engine.specs.Flows.{blocked_by, listing_for}
use Rattle.flow_engine.specs.Points.{Point, point_of}
use Rattle.update_run.specs.Runs.{AreSteps, HasCutNext, HasRunNext, landed_by}
use Rattle.update_run.specs.Updates.{BlamesLanding, Broke, CutsLine, Untold, is_stop, line_of}
use Rattle.update_run.proofs.FilesLemmas.{ends_alike}

-- ---- a flow that doesn't end acknowledges nothing

module _ (tells : Type 0) (files : List LandingFile) (room : ℕ) (acked tried : List Payload) where
  none_by_offer : (why : End) (state : State) (at version : ℕ) (offer : Offer) → Settles state at room version offer acked tried (Err why) → acked ≡ []
  none_by_offer why state at version Idle settles = absurd (cc settles.0)
  none_by_offer why state at version (Halted stop) settles = absurd (cc settles.0)
  none_by_offer why state at version (Ready read batch) (Ok done, commits, answer, acks, tries) = absurd (cc answer)
  none_by_offer why state at version (Ready read batch) (Err end, commits, answer, acks, tries) = acks
  none_by_offer why state at version Unfit settles = absurd settles

  none_unless : (why : End) (blocked : Option (List ℕ)) (listing : FolderListing) (state : State) (at : ℕ) (dataset : Part) (flow : AppendFlow) → RunsUnless tells files room blocked listing state at dataset flow acked tried (Err why) → acked ≡ []
  none_unless why (Some name) listing state at dataset flow skipped = absurd (cc skipped.0)
  none_unless why None listing state at dataset flow runs = none_by_offer why state at _ runs.2 runs.4

  none_acked : (listings : List FolderOf) (plan : List Part) (id : FlowId) (point : Point) (why : End) → FlowEnds tells files listings plan room id point acked tried (Err why) → acked ≡ []
  none_acked listings plan id point why (inl out) = out.1
  none_acked listings plan id point why (inr found) = none_unless why (blocked_by found.1.origin plan point.halted) (listing_for listings found.1.origin) point.state point.at found.0 found.1 found.3

-- ---- a flow and its line

module _ (timed told tells : Type 0) (present ever files past : List LandingFile) (listings : List FolderOf) (same : tells → present ≡ files) (same_ever : tells → ever ≡ past)
    (was now : ℕ) (plan : List Part) (room : ℕ) (id : FlowId) (engine : Engine) (old new : DiskState) (before after : List ℕ) where
  steps_here : (state : State) (payloads : List Payload) → AreSteps (landed_by tells present ever listings) plan state payloads → AreSteps (landed_by tells files past listings) plan state payloads
  steps_here state payloads steps = λ t parts stands of_plan.
      subst (λ (e : List LandingFile). AllCommit parts e state payloads parts) (same_ever t)
      (steps t parts (subst (λ (e : List LandingFile). Stands parts e state) (sym (same_ever t)) stands) of_plan)

  abbrev HasRun : Result FlowEnd End → Engine → Type 0
  HasRun answer later = HasRunFlow timed (landed_by tells present ever listings) plan room id (point_of engine) answer later old new

  -- what it acknowledged is what it tried
  ends_whole : (end : FlowEnd) (later : Engine) (ran : HasRun (Ok end) later) → FlowEnds tells files listings plan room id (point_of engine) ran.tried ran.tried (Ok end)
  ends_whole end later ran =
      subst (λ (acked : List Payload). FlowEnds tells files listings plan room id (point_of engine) acked ran.tried (Ok end)) ran.behind.0
      (ends_alike tells present files same room ran.acked ran.tried (Ok end) listings plan id (point_of engine) ran.ends)

  trail_whole : (end : FlowEnd) (later : Engine) (ran : HasRun (Ok end) later) → Trail timed (point_of engine).state ran.tried ran.tried old new
  trail_whole end later ran = subst (λ (acked : List Payload). Trail timed (point_of engine).state acked ran.tried old new) ran.behind.0 ran.trail

  -- its line was written
  pub next_ran : (end : FlowEnd) (later : Engine) → HasRun (Ok end) later → BlamesLanding was now end → (told → after ≡ before ++ line_of plan id end)
      → HasRunNext timed told (landed_by tells files past listings) was now plan room id (point_of engine) (is_stop end) later old new before after
  next_ran end later ran blames line = record {
    ended = record { end = end; payloads = ran.tried };
    ends = (ends_whole end later ran, blames);
    stopped_is = refl;
    trail = trail_whole end later ran;
    behind = ran.behind.1;
    line = line;
    steps = steps_here (point_of engine).state ran.tried ran.steps;
  }

  -- its line wasn't
  pub next_untold : (end : FlowEnd) (why : End) (later : Engine) → HasRun (Ok end) later → BlamesLanding was now end → CutsLine why
      → (told → (bytes : ℕ) × (after ≡ before ++ take bytes (line_of plan id end)))
      → HasCutNext timed told (landed_by tells files past listings) was now plan room id (point_of engine) why old new before after
  next_untold end why later ran blames cuts front = record {
    cut = Untold (record { end = end; payloads = ran.tried }) why;
    is = ((ends_whole end later ran, blames), cuts);
    why_is = refl;
    trail = trail_whole end later ran;
    front = front;
    steps = steps_here (point_of engine).state ran.tried ran.steps;
  }

  -- it didn't end
  pub next_broke : (why : End) (later : Engine) → HasRun (Err why) later → (told → after ≡ before)
      → HasCutNext timed told (landed_by tells files past listings) was now plan room id (point_of engine) why old new before after
  next_broke why later ran same_lines =
      let ends = ends_alike tells present files same room ran.acked ran.tried (Err why) listings plan id (point_of engine) ran.ends in
      let none = none_acked tells files room ran.acked ran.tried listings plan id (point_of engine) why ends in
      record {
        cut = Broke why ran.tried;
        is = subst (λ (acked : List Payload). FlowEnds tells files listings plan room id (point_of engine) acked ran.tried (Err why)) none ends;
        why_is = refl;
        trail = subst (λ (acked : List Payload). Trail timed (point_of engine).state acked ran.tried old new) none ran.trail;
        front = λ t. (0, same_lines t ∙ sym (append-nil before));
        steps = steps_here (point_of engine).state ran.tried ran.steps;
      }

-- what was ever there holds what is there, by either name of both
pub holds_here : (tells : Type 0) (present ever files past : List LandingFile) → (tells → present ≡ files) → (tells → ever ≡ past) → (tells → HoldsPresent files past) → tells → HoldsPresent present ever
holds_here tells present ever files past same same_ever holds t =
    subst (λ (p : List LandingFile). HoldsPresent p ever) (sym (same t)) (subst (λ (e : List LandingFile). HoldsPresent files e) (sym (same_ever t)) (holds t))
