-- A flow of a store that stands can go on.
use Rattle.std.proofs.Common.{◌≡◌, inl, inr, List, ℕ, Option, Some, None, refl, sym, ap, ◌∙◌}
use Rattle.std.specs.Prelude.{IsSomeAnd}
use Rattle.value_core.specs.declared.change.Tally.{Tally}
use Rattle.value_core.specs.declared.cursor.Cursor.{Cursor}
use Rattle.value_core.specs.declared.cursor.Cursor.TheVariants.{Files, At, Never}
use Rattle.value_core.specs.declared.cursor.FilePlace.{FilePlace}
use Rattle.value_core.specs.declared.shape.Shape.{Shape}
use Rattle.value_core.specs.Order.{Row}
use Rattle.table_versions.specs.Versions.{IsKept}
use Rattle.landing_core.specs.declared.landing.LandingFile.{LandingFile}
use Rattle.landing_core.specs.declared.landing.Listed.{Listed}
use Rattle.landing_core.specs.Fresh.{shrunk}
use Rattle.plan_core.specs.declared.flow.AppendFlow.{AppendFlow}
use Rattle.plan_core.specs.declared.flow.Origin.{Origin}
use Rattle.plan_core.specs.declared.flow.Origin.TheVariants as origin
use Rattle.plan_core.specs.declared.plan.Body.TheVariants as body
use Rattle.plan_core.specs.declared.plan.Dataset.{Dataset as Part}
use Rattle.plan_core.specs.declared.stop.Stop.{Stop}
use Rattle.plan_core.specs.Sound.{dataset_named}
use Rattle.commit_payloads.specs.declared.take.Take.{Take}
use Rattle.state_model.specs.Dataset.{Dataset, State, cursor_in, cursor_of, dataset_of}
use Rattle.state_steps.specs.Consumed.{IsStreamed, StreamStands}
use Rattle.state_steps.specs.Stands.{Stands}
use Rattle.state_steps.specs.Steps.{flow_named}
use Rattle.flow_news.specs.declared.offer.FolderListing.{FolderListing}
use Rattle.flow_news.specs.declared.offer.FolderListing.TheVariants as folder
use Rattle.flow_news.specs.declared.offer.Offer.TheVariants.{Unfit}
use Rattle.flow_news.specs.News.{IsListingFor}
use Rattle.append_offers.specs.Offers.{Comes, IsOffer, OfCursor, OfFiles, OfFolder, OfListed, OfOrigin, OfReads, OfSource, OfVersion, batch_stop}
use Rattle.flow_news.specs.Made.{made}
use Rattle.append_offers.proofs.StandLemmas.{StoodTable, cursor_too, source_there, stood_stream, stood_table, there_too}

made_fits : (stop : Option Stop) (count : ℕ) (batch : Take) → Unfit ≡ made stop count batch → ⊥
made_fits (Some why) count batch e = cc
made_fits None count batch e = cc

module _ (part : Part) (flow : AppendFlow) (kept : List Tally) where
  comes_fit : (old : Cursor) (rows : List Row) (behind : Cursor) → Comes part flow kept old rows behind Unfit → ⊥
  comes_fit old rows behind (inl idle) = let wrong = idle.1 in cc
  comes_fit old rows behind (inr comes) = made_fits (batch_stop flow part.expectations kept rows) _ _ comes.1

  version_fits : (source : Dataset) (version : ℕ) → IsKept source.table version → OfVersion part flow kept source.table version Unfit → ⊥
  version_fits source version is_kept (inl unfit) = unfit.0 is_kept
  version_fits source version is_kept (inr comes) = comes_fit _ _ _ comes.1

  pub streamed_fits : (source : Option Dataset) (version : ℕ) → IsSomeAnd source (IsStreamed version) → OfSource part flow kept source (At version) Unfit → ⊥
  streamed_fits None version streamed unfit = streamed
  streamed_fits (Some source) version streamed comes = version_fits source version streamed.0 comes

  pub first_fits : (source : Option Dataset) (found : Dataset) → source ≡ Some found → OfSource part flow kept source Never Unfit → ⊥
  first_fits None found e unfit = cc
  first_fits (Some source) found e comes = comes_fit _ _ _ comes

  module _ (tells : Type 0) (was now : ℕ) (files ever : List LandingFile) (state : State) where
    reads_fit : (shape : Shape) (dir : List ℕ) (listing : List Listed) (places : List FilePlace) → OfReads tells was now files part flow kept shape dir listing places Unfit → ⊥
    reads_fit shape dir listing places (inl failed) = let wrong = failed.0 in cc
    reads_fit shape dir listing places (inr (rows, behind, read, comes)) = comes_fit _ _ _ comes

    listed_fits : (shape : Shape) (dir : List ℕ) (listing : List Listed) (places : List FilePlace) (short : Option Listed) → OfListed tells was now files part flow kept shape dir listing places short Unfit → ⊥
    listed_fits shape dir listing places (Some short) halted = cc
    listed_fits shape dir listing places None comes = reads_fit shape dir listing places comes

    pub folder_fits : (shape : Shape) (dir : List ℕ) (listing : FolderListing) (places : List FilePlace) → OfFolder tells was now files part flow kept shape dir listing places Unfit → ⊥
    folder_fits shape dir folder.NoFolder places never = never
    folder_fits shape dir (folder.Failed before after) places halted = cc
    folder_fits shape dir (folder.Files listing) places comes = listed_fits shape dir listing places (shrunk places listing) comes

    files_fit : (shape : Shape) (dir : List ℕ) (listing : FolderListing) (cursor : Cursor) → StreamStands ever state (origin.Files dir shape) cursor → OfFiles tells was now files part flow kept shape dir listing cursor Unfit → ⊥
    files_fit shape dir listing (Files places) stands (inl unfit) = unfit.0 stands.0
    files_fit shape dir listing (Files places) stands (inr comes) = folder_fits shape dir listing places comes.1
    files_fit shape dir listing (At version) stands unfit = stands
    files_fit shape dir listing Never stands unfit = stands

    table_fits : (name : List ℕ) (cursor : Cursor) → StreamStands ever state (origin.Table name) cursor → ((source : Dataset) × (dataset_of state name ≡ Some source)) → OfSource part flow kept (dataset_of state name) cursor Unfit → ⊥
    table_fits name (Files places) stands there comes = stands
    table_fits name (At version) stands there comes = streamed_fits (dataset_of state name) version stands comes
    table_fits name Never stands there comes = first_fits (dataset_of state name) there.0 there.1 comes

    origin_fits : (from : Origin) (listing : FolderListing) (cursor : Cursor) → StreamStands ever state from cursor → ((name : List ℕ) → from ≡ origin.Table name → (source : Dataset) × (dataset_of state name ≡ Some source))
        → OfOrigin tells was now files part flow kept state listing cursor from Unfit → ⊥
    origin_fits (origin.Files dir shape) listing cursor stands there comes = files_fit shape dir listing cursor stands comes
    origin_fits (origin.Table name) listing cursor stands there comes = table_fits name cursor stands (there name refl) comes

module _ (tells : Type 0) (was now : ℕ) (files ever : List LandingFile) (parts : List Part) (state : State) (part : Part) (flows : List AppendFlow) (flow : AppendFlow) (listing : FolderListing)
    (listed : IsListingFor tells flow.origin files listing) (stands : Stands parts ever state) (named : dataset_named parts part.name ≡ Some part) (body_is : part.body ≡ body.Append flows)
    (is_flow : flow_named flows flow.name ≡ Some flow) where
  cursor_there : (target : Dataset) → StoodTable ever state part flows target → (old : Cursor) × (cursor_of target flow.name ≡ Some old)
  cursor_there target stood =
      let found = cursor_too ever state flows target.cursors flow.name stood.stands.reads flow is_flow in (found.0, ap (λ list. cursor_in list target.cursors flow.name) stood.flows_are ∙ found.1)

  cursor_fits : (target : Dataset) (cursor : Option Cursor) → dataset_of state part.name ≡ Some target → cursor_of target flow.name ≡ cursor
      → OfCursor tells was now files part flow state listing target.counts cursor Unfit → ⊥
  cursor_fits target None there from unfit =
      let stood = stood_table ever state parts part flows target stands named body_is there in
      let found = cursor_there target stood in
      let wrong = sym from ∙ found.1 in cc
  cursor_fits target (Some old) there from comes =
      let stood = stood_table ever state parts part flows target stands named body_is there in
      origin_fits part flow target.counts tells was now files ever state flow.origin listing old (stood_stream ever state part flows target flow old stood is_flow from)
      (λ name is_table. source_there ever state parts part flows flow name stands named body_is is_flow is_table) comes

  dataset_fits : (target : Option Dataset) → dataset_of state part.name ≡ target → IsOffer tells was now files part flow state listing target Unfit → ⊥
  dataset_fits None there unfit =
      let found = there_too ever state parts state part.name stands.each part named in
      let wrong = sym there ∙ found.1 in cc
  dataset_fits (Some target) there comes = cursor_fits target (cursor_of target flow.name) there refl comes

  pub offer_fits : IsOffer tells was now files part flow state listing (dataset_of state part.name) Unfit → ⊥
  offer_fits comes = dataset_fits (dataset_of state part.name) refl comes
