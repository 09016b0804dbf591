-- The flows of a plan, and the listings that they read by.
use Rattle.std.specs.Prelude.{◌≡◌, ⊤, ℕ, List, [], ◌∷◌, Bool, false, ◌&&◌, if◌then◌else◌, bytes_eq, slice_get, Option, Some, None}
use Rattle.std.specs.List.{AllByRecursion}
use Rattle.value_core.specs.NameFold.{same_name}
use Rattle.landing_core.specs.declared.landing.LandingFile.{LandingFile}
use Rattle.plan_core.specs.declared.flow.AppendFlow.{AppendFlow}
use Rattle.plan_core.specs.declared.flow.Origin.{Origin}
use Rattle.plan_core.specs.declared.flow.Origin.TheVariants as origin
use Rattle.plan_core.specs.declared.plan.Body.{Body}
use Rattle.plan_core.specs.declared.plan.Body.TheVariants as body
use Rattle.plan_core.specs.declared.plan.Dataset.{Dataset as Part}
use Rattle.state_steps.specs.Steps.{flow_named}
use Rattle.flow_news.specs.News.{IsListingFor}
use Rattle.flow_news.specs.declared.offer.FolderListing.{FolderListing}
use Rattle.flow_news.specs.declared.offer.FolderListing.TheVariants as folder
use Rattle.flow_engine.specs.declared.flow_id.FlowId.{FlowId}
use Rattle.flow_engine.specs.declared.listings.FolderOf.{FolderOf}

-- this flow of this dataset stands at this place of the plan, and is the dataset's first one of its name
pub record IsFlowAt (plan : List Part) (id : FlowId) (dataset : Part) (flow : AppendFlow) : Type 0 where
  pub flows : List AppendFlow
  pub dataset_is : slice_get plan id.dataset ≡ Some dataset
  pub appends : dataset.body ≡ body.Append flows
  pub flow_is : slice_get flows id.flow ≡ Some flow
  pub named : flow_named flows flow.name ≡ Some flow

-- this flow stands at this place of an append table, and is the table's first one of its name
pub record IsFlowOf (dataset : Part) (place : ℕ) (flow : AppendFlow) : Type 0 where
  pub flows : List AppendFlow
  pub appends : dataset.body ≡ body.Append flows
  pub flow_is : slice_get flows place ≡ Some flow
  pub named : flow_named flows flow.name ≡ Some flow

-- there is a flow at this place of the plan
pub record IsFlow (plan : List Part) (id : FlowId) : Type 0 where
  pub dataset : Part
  pub flow : AppendFlow
  pub is : IsFlowAt plan id dataset flow

-- each flow of an append table is the table's first one of its name
abbrev pub AreNamed : Body → Type 0
AreNamed (body.Append flows) = AllByRecursion (λ (flow : AppendFlow). flow_named flows flow.name ≡ Some flow) flows
AreNamed other = ⊤

abbrev pub FlowsAreNamed : List Part → Type 0
FlowsAreNamed plan = AllByRecursion (λ part. AreNamed part.body) plan

-- ---- listings, one a folder

abbrev pub listing_in : List FolderOf → List ℕ → FolderListing
listing_in [] dir = folder.NoFolder
listing_in (first ∷ more) dir = if bytes_eq first.dir dir then first.listing else listing_in more dir

-- what was listed of the folder of an origin, if it is one
abbrev pub listing_for : List FolderOf → Origin → FolderListing
listing_for listings (origin.Files dir shape) = listing_in listings dir
listing_for listings (origin.Table name) = folder.NoFolder

-- each flow of the plan has the listing of its folder
abbrev pub AreListed : Type 0 → List Part → List LandingFile → List FolderOf → Type 0
AreListed tells plan files listings =
    (id : FlowId) (dataset : Part) (flow : AppendFlow) → IsFlowAt plan id dataset flow → IsListingFor tells flow.origin files (listing_for listings flow.origin)

-- ---- what a flow waits for

-- a flow over this origin reads the dataset
abbrev pub reads : Origin → Part → Bool
reads (origin.Files dir shape) dataset = false
reads (origin.Table name) dataset = same_name dataset.name name

-- the first dataset in declared order that it reads, and of which a flow stopped or was skipped
abbrev pub blocked_by : Origin → List Part → List Bool → Option (List ℕ)
blocked_by from [] halted = None
blocked_by from (dataset ∷ plan) [] = None
blocked_by from (dataset ∷ plan) (is_halted ∷ more) = if is_halted && reads from dataset then Some dataset.name else blocked_by from plan more
