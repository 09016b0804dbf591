-- What a flow comes to by what it found.
use Rattle.std.proofs.Common.{◌≡◌, inl, inr, List, ℕ, Option, Some, None, sym, ap, subst}
use Rattle.std.specs.Prelude.{Result, Ok, Err, IfOk}
use Rattle.std.specs.declared.alloc.AllocError.{AllocError}
use Rattle.value_core.specs.declared.change.Tally.{Tally}
use Rattle.value_core.specs.declared.cursor.Cursor.{Cursor}
use Rattle.value_core.specs.declared.cursor.Cursor.TheVariants.{Files, At, Never}
use Rattle.value_core.specs.declared.cursor.FilePlace.{FilePlace}
use Rattle.value_core.specs.declared.shape.Shape.{Shape}
use Rattle.value_core.specs.Order.{Row}
use Rattle.table_versions.specs.Versions.{Versions}
use Rattle.landing_core.specs.declared.landing.LandingFile.{LandingFile}
use Rattle.landing_core.specs.declared.landing.Listed.{Listed}
use Rattle.landing_core.specs.Fresh.{shrunk}
use Rattle.plan_core.specs.declared.flow.AppendFlow.{AppendFlow}
use Rattle.plan_core.specs.declared.flow.Origin.{Origin}
use Rattle.plan_core.specs.declared.flow.Origin.TheVariants as origin
use Rattle.plan_core.specs.declared.plan.Dataset.{Dataset as Part}
use Rattle.state_model.specs.Dataset.{Dataset, State, dataset_of}
use Rattle.flow_news.specs.declared.offer.FolderListing.{FolderListing}
use Rattle.flow_news.specs.declared.offer.FolderListing.TheVariants as folder
use Rattle.flow_news.specs.declared.offer.Offer.{Offer}
use Rattle.flow_news.specs.Finds as finds
use Rattle.flow_news.specs.Finds.{Found}
use Rattle.append_offers.specs.Offers.{Comes, OfFiles, OfFolder, OfListed, OfOrigin, OfReads, OfSource, OfTable, OfVersion, offer_of}

module _ (part : Part) (flow : AppendFlow) (kept : List Tally) (found : Found) where
  abbrev mine : Offer
  mine = offer_of part flow kept found

  comes_as : (old : Cursor) (rows : List Row) (behind : Cursor) → finds.Follow old rows behind found → Comes part flow kept old rows behind mine
  comes_as old rows behind (inl idle) = inl (idle.0, ap (offer_of part flow kept) idle.1)
  comes_as old rows behind (inr comes) = inr (comes.0, ap (offer_of part flow kept) comes.1)

  version_as : (table : Versions) (version : ℕ) → finds.OfVersion table version found → OfVersion part flow kept table version mine
  version_as table version (inl lost) = inl (lost.0, ap (offer_of part flow kept) lost.1)
  version_as table version (inr comes) = inr (comes.0, comes_as _ _ _ comes.1)

  source_as : (source : Option Dataset) (cursor : Cursor) → finds.OfSource source cursor found → OfSource part flow kept source cursor mine
  source_as None cursor e = ap (offer_of part flow kept) e
  source_as (Some source) Never comes = comes_as _ _ _ comes
  source_as (Some source) (At version) comes = version_as source.table version comes
  source_as (Some source) (Files places) e = ap (offer_of part flow kept) e

  module _ (tells : Type 0) (was now : ℕ) (files : List LandingFile) where
    reads_as : (shape : Shape) (dir : List ℕ) (listing : List Listed) (places : List FilePlace) → finds.OfReads tells was now files shape dir listing places found → OfReads tells was now files part flow kept shape dir listing places mine
    reads_as shape dir listing places (inl failed) = inl (ap (offer_of part flow kept) failed.0, failed.1)
    reads_as shape dir listing places (inr (rows, behind, read, comes)) = inr (rows, behind, read, comes_as _ _ _ comes)

    listed_as : (shape : Shape) (dir : List ℕ) (listing : List Listed) (places : List FilePlace) (short : Option Listed) → finds.OfListed tells was now files shape dir listing places short found
        → OfListed tells was now files part flow kept shape dir listing places short mine
    listed_as shape dir listing places (Some short) e = ap (offer_of part flow kept) e
    listed_as shape dir listing places None comes = reads_as shape dir listing places comes

    folder_as : (shape : Shape) (dir : List ℕ) (listing : FolderListing) (places : List FilePlace) → finds.OfFolder tells was now files shape dir listing places found → OfFolder tells was now files part flow kept shape dir listing places mine
    folder_as shape dir folder.NoFolder places never = never
    folder_as shape dir (folder.Failed before after) places e = ap (offer_of part flow kept) e
    folder_as shape dir (folder.Files listing) places comes = listed_as shape dir listing places (shrunk places listing) comes

    files_as : (shape : Shape) (dir : List ℕ) (listing : FolderListing) (cursor : Cursor) → finds.OfFiles tells was now files shape dir listing cursor found → OfFiles tells was now files part flow kept shape dir listing cursor mine
    files_as shape dir listing (Files places) (inl lost) = inl (lost.0, ap (offer_of part flow kept) lost.1)
    files_as shape dir listing (Files places) (inr comes) = inr (comes.0, folder_as shape dir listing places comes.1)
    files_as shape dir listing (At version) e = ap (offer_of part flow kept) e
    files_as shape dir listing Never e = ap (offer_of part flow kept) e

    origin_as : (state : State) (listing : FolderListing) (cursor : Cursor) (from : Origin) → finds.Finds tells was now files state listing cursor from found → OfOrigin tells was now files part flow kept state listing cursor from mine
    origin_as state listing cursor (origin.Files dir shape) comes = files_as shape dir listing cursor comes
    origin_as state listing cursor (origin.Table name) comes = source_as (dataset_of state name) cursor comes

-- so it is with what was answered
pub answer_as : (tells : Type 0) (was now : ℕ) (files : List LandingFile) (part : Part) (flow : AppendFlow) (kept : List Tally) (state : State) (listing : FolderListing) (cursor : Cursor) (from : Origin) (found : Found) (result : Result Offer AllocError)
    → finds.Finds tells was now files state listing cursor from found → IfOk result (λ offer. offer ≡ offer_of part flow kept found) → IfOk result (OfOrigin tells was now files part flow kept state listing cursor from)
answer_as tells was now files part flow kept state listing cursor from found (Ok offer) comes is =
    subst (OfOrigin tells was now files part flow kept state listing cursor from) (sym is) (origin_as part flow kept found tells was now files state listing cursor from comes)
answer_as tells was now files part flow kept state listing cursor from found (Err end) comes is = tt
