-- Stops of the landing.
use Rattle.std.specs.Prelude.{◌≡◌, ◌⊎◌, ⊤, ℕ}
use Rattle.disk_model.specs.Faults.{Rose}
use Rattle.plan_core.specs.declared.stop.Stop.{Stop}
use Rattle.plan_core.specs.declared.stop.Stop.TheVariants.{Landing}
use Rattle.flow_news.specs.declared.offer.FolderListing.{FolderListing}
use Rattle.flow_news.specs.declared.offer.FolderListing.TheVariants as folder
use Rattle.flow_news.specs.declared.offer.Offer.{Offer}
use Rattle.flow_news.specs.declared.offer.Offer.TheVariants.{Halted}
use Rattle.flow_news.specs.Finds.{Found, Stops}

-- a stop of the landing is that of the listing, or of a read by which the count of faults rose
abbrev pub IsBlamed : FolderListing → ℕ → ℕ → Stop → Type 0
IsBlamed listing was now (Landing before after) = (listing ≡ folder.Failed before after) ⊎ ((before ≡ was) × (after ≡ now) × Rose was now)
IsBlamed listing was now other = ⊤

-- what is found stops a flow by the landing only so
abbrev pub FoundBlames : FolderListing → ℕ → ℕ → Found → Type 0
FoundBlames listing was now (Stops why) = IsBlamed listing was now why
FoundBlames listing was now other = ⊤

-- an offer halts by the landing only so
abbrev pub Blames : FolderListing → ℕ → ℕ → Offer → Type 0
Blames listing was now (Halted why) = IsBlamed listing was now why
Blames listing was now other = ⊤
