-- The landing folders that a plan reads, and what was listed of them.
use Rattle.std.specs.Prelude.{◌≢◌, ◌≤◌, ⊤, ℕ, List, [], ◌∷◌, ◌++◌, Bool, if◌then◌else◌, map}
use Rattle.std.specs.List.{AllByRecursion, list_any}
use Rattle.std.specs.Str.{bytes_eq}
use Rattle.disk_model.specs.Faults.{Rose}
use Rattle.plan_core.specs.declared.flow.AppendFlow.{AppendFlow}
use Rattle.plan_core.specs.declared.flow.Origin.{Origin}
use Rattle.plan_core.specs.declared.flow.Origin.TheVariants as origin
use Rattle.plan_core.specs.declared.plan.Body.{Body}
use Rattle.plan_core.specs.declared.plan.Body.TheVariants as body
use Rattle.plan_core.specs.declared.plan.Dataset.{Dataset as Part}
use Rattle.flow_news.specs.declared.offer.FolderListing.{FolderListing}
use Rattle.flow_news.specs.declared.offer.FolderListing.TheVariants as folder
use Rattle.flow_engine.specs.declared.listings.FolderOf.{FolderOf}

-- ---- which folders

-- the folder of an origin, if it is one
abbrev pub folder_of : Origin → List (List ℕ)
folder_of (origin.Files dir shape) = dir ∷ []
folder_of (origin.Table name) = []

-- the folders that append flows read, flow by flow
abbrev pub folders_of : List AppendFlow → List (List ℕ)
folders_of [] = []
folders_of (flow ∷ flows) = folder_of flow.origin ++ folders_of flows

abbrev pub folders_in : Body → List (List ℕ)
folders_in (body.Append flows) = folders_of flows
folders_in other = []

-- those of a plan, in declared order
abbrev pub folders_read : List Part → List (List ℕ)
folders_read [] = []
folders_read (dataset ∷ plan) = folders_in dataset.body ++ folders_read plan

-- a folder is one of these, byte for byte
abbrev pub has_folder : List (List ℕ) → List ℕ → Bool
has_folder known dir = list_any (λ other. bytes_eq other dir) known

-- these folders, and behind them this one, unless it is one of them
abbrev pub with_folder : List (List ℕ) → List ℕ → List (List ℕ)
with_folder known dir = if has_folder known dir then known else known ++ dir ∷ []

-- these folders, and behind them each other one of those at its first mention
abbrev pub with_folders : List (List ℕ) → List (List ℕ) → List (List ℕ)
with_folders known [] = known
with_folders known (dir ∷ dirs) = with_folders (with_folder known dir) dirs

-- ---- what was listed

-- the folders that were listed
abbrev pub folders_listed : List FolderOf → List (List ℕ)
folders_listed listings = map (λ listing. listing.dir) listings

-- no two of these are one
abbrev pub Differ : List (List ℕ) → Type 0
Differ [] = ⊤
Differ (dir ∷ dirs) = AllByRecursion (λ other. dir ≢ other) dirs × Differ dirs

-- a listing failed only where the landing's count rose, between these counts
abbrev pub HasFailedWithin : ℕ → ℕ → FolderListing → Type 0
HasFailedWithin was now (folder.Failed before after) = (was ≤ before) × Rose before after × (after ≤ now)
HasFailedWithin was now other = ⊤

abbrev pub AreBlamed : ℕ → ℕ → List FolderOf → Type 0
AreBlamed was now listings = AllByRecursion (λ known. HasFailedWithin was now known.listing) listings

-- what was listed besides, while the landing's count went from one value to another, failed only so too
abbrev pub FailOnly : ℕ → ℕ → List FolderOf → List FolderOf → Type 0
FailOnly before now old new = (was : ℕ) → was ≤ before → AreBlamed was before old → AreBlamed was now new
