-- How a flow ends, and what it commits: one payload or none.
use Rattle.std.specs.Prelude.{◌≡◌, ◌⊎◌, ⊤, ℕ, ◌+◌, ◌<◌, ◌≤◌, List, [], ◌∷◌, Option, Some, None, Result, Ok, Err}
use Rattle.std.specs.Option.{option_map_or}
use Rattle.landing_core.specs.declared.landing.LandingFile.{LandingFile}
use Rattle.commit_payloads.specs.declared.payload.Payload.{Payload}
use Rattle.commit_payloads.specs.declared.payload.Payload.TheVariants as payload
use Rattle.plan_core.specs.declared.flow.AppendFlow.{AppendFlow}
use Rattle.plan_core.specs.declared.plan.Dataset.{Dataset as Part}
use Rattle.plan_core.specs.declared.stop.FlowEnd.{FlowEnd}
use Rattle.plan_core.specs.declared.stop.FlowEnd.TheVariants.{Completed, Current, Stopped, Skipped}
use Rattle.state_model.specs.Dataset.{State, dataset_of, version_of}
use Rattle.state_model.specs.Follows.{IsAtLimit, WithinVersions}
use Rattle.append_offers.specs.Offers.{IsOffer}
use Rattle.flow_news.specs.declared.offer.FolderListing.{FolderListing}
use Rattle.flow_news.specs.declared.offer.Offer.{Offer}
use Rattle.flow_news.specs.declared.offer.Offer.TheVariants.{Halted, Idle, Ready, Unfit}
use Rattle.flow_engine.specs.declared.ends.End.{End}
use Rattle.flow_engine.specs.declared.ends.End.TheVariants.{Disk, Sink, Full, VersionFull, Memory}
use Rattle.flow_engine.specs.declared.flow_id.FlowId.{FlowId}
use Rattle.flow_engine.specs.declared.listings.FolderOf.{FolderOf}
use Rattle.flow_engine.specs.Flows.{IsFlowAt, blocked_by, listing_for}
use Rattle.flow_engine.specs.Points.{Point, end_after}

-- ---- a commit

-- where the log would end behind the payload's record and the closed gate
abbrev pub end_with : ℕ → Payload → ℕ
end_with at payload = end_after at (payload ∷ []) + 1

-- a log of so much room, which ends at this place, takes the record, and no version would pass its limit
abbrev pub IsTaken : State → ℕ → ℕ → Payload → Type 0
IsTaken state at room payload = WithinVersions state payload × (end_with at payload ≤ room)

-- Each end of a commit has its cause. One that succeeds or in which the disk fails came as far as the disk; any other comes
-- before the disk is called.
abbrev pub CommitEnds : State → ℕ → ℕ → Payload → Result (Unit {0}) End → Type 0
CommitEnds state at room payload (Ok done) = IsTaken state at room payload
CommitEnds state at room payload (Err (Disk count)) = IsTaken state at room payload
CommitEnds state at room payload (Err (Full end limit)) = WithinVersions state payload × (room < end) × (end ≡ end_with at payload) × (limit ≡ room)
CommitEnds state at room payload (Err (VersionFull name)) = IsAtLimit state payload name
CommitEnds state at room payload (Err Sink) = ⊥
CommitEnds state at room payload (Err Memory) = ⊤

-- the payload, if its commit was acknowledged
abbrev pub acked_by : Payload → Result (Unit {0}) End → List Payload
acked_by payload (Ok done) = payload ∷ []
acked_by payload (Err end) = []

-- the payload, if its commit came as far as the disk: where the disk failed it may be in the log or not
abbrev pub tried_by : Payload → Result (Unit {0}) End → List Payload
tried_by payload (Ok done) = payload ∷ []
tried_by payload (Err (Disk count)) = payload ∷ []
tried_by payload (Err end) = []

-- ---- a flow

-- the version of a dataset of the store
abbrev pub version_in : State → List ℕ → ℕ
version_in state name = option_map_or version_of (dataset_of state name) 0

-- a flow that has read so many rows, of a dataset at this version, ends as its commit does
abbrev pub end_of_commit : ℕ → ℕ → Result (Unit {0}) End → Result FlowEnd End
end_of_commit read version (Ok done) = Ok (Completed read (version + 1))
end_of_commit read version (Err end) = Err end

-- a flow that ends so without a commit
abbrev pub EndsWith : FlowEnd → List Payload → List Payload → Result FlowEnd End → Type 0
EndsWith end acked tried answer = (answer ≡ Ok end) × (acked ≡ []) × (tried ≡ [])

-- a flow that comes to a payload, by its commit
abbrev pub CommitsFor : State → ℕ → ℕ → ℕ → ℕ → Payload → List Payload → List Payload → Result FlowEnd End → Type 0
CommitsFor state at room read version payload acked tried answer =
    (result : Result (Unit {0}) End) × CommitEnds state at room payload result × (answer ≡ end_of_commit read version result) × (acked ≡ acked_by payload result) × (tried ≡ tried_by payload result)

-- an append flow of a dataset at this version, by what it comes to; the log ends at this place and has so much room
abbrev pub Settles : State → ℕ → ℕ → ℕ → Offer → List Payload → List Payload → Result FlowEnd End → Type 0
Settles state at room version Idle acked tried answer = EndsWith Current acked tried answer
Settles state at room version (Halted why) acked tried answer = EndsWith (Stopped why) acked tried answer
Settles state at room version (Ready read batch) acked tried answer = CommitsFor state at room read version (payload.Take batch) acked tried answer
Settles state at room version Unfit acked tried answer = ⊥

-- memory ran out before the flow came to anything
abbrev pub RunsOut : List Payload → List Payload → Result FlowEnd End → Type 0
RunsOut acked tried answer = (answer ≡ Err Memory) × (acked ≡ []) × (tried ≡ [])

-- Whether the landing tells, its files, and the room of a log.
module _ (tells : Type 0) (files : List LandingFile) (room : ℕ) where
  -- A flow that nothing blocks ends by what it comes to, where its folder was listed so and the log ends at this place. Its reads
  -- find the landing's count of faults at one value and leave it at another.
  abbrev pub Runs : FolderListing → State → ℕ → Part → AppendFlow → List Payload → List Payload → Result FlowEnd End → Type 0
  Runs listing state at dataset flow acked tried answer =
      (was now : ℕ) × (offer : Offer) × IsOffer tells was now files dataset flow state listing (dataset_of state dataset.name) offer
      × Settles state at room (version_in state dataset.name) offer acked tried answer

  -- a flow that reads a dataset of which a flow stopped or was skipped is skipped
  abbrev pub RunsUnless : Option (List ℕ) → FolderListing → State → ℕ → Part → AppendFlow → List Payload → List Payload → Result FlowEnd End → Type 0
  RunsUnless (Some name) listing state at dataset flow acked tried answer = EndsWith (Skipped name) acked tried answer
  RunsUnless None listing state at dataset flow acked tried answer = Runs listing state at dataset flow acked tried answer

-- How the flow at a place of the plan ends from what stands before it, with the payloads that are acknowledged and tried then:
-- by the landing's files, what it listed, and the room of a log.
abbrev pub FlowEnds : Type 0 → List LandingFile → List FolderOf → List Part → ℕ → FlowId → Point → List Payload → List Payload → Result FlowEnd End → Type 0
FlowEnds tells files listings plan room id point acked tried answer =
    RunsOut acked tried answer
    ⊎ ((dataset : Part) × (flow : AppendFlow) × IsFlowAt plan id dataset flow
    × RunsUnless tells files room (blocked_by flow.origin plan point.halted) (listing_for listings flow.origin) point.state point.at dataset flow acked tried answer)
