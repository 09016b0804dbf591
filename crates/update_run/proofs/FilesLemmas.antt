-- How a flow ends speaks of the landing's files only where the landing tells.
use Rattle.std.proofs.Common.{◌≡◌, inl, inr, ℕ, List, Option, Some, None, Result, subst}
use Rattle.value_core.specs.declared.change.Tally.{Tally}
use Rattle.value_core.specs.declared.cursor.Cursor.{Cursor}
use Rattle.value_core.specs.declared.cursor.Cursor.TheVariants.{Files, At, Never}
use Rattle.value_core.specs.declared.cursor.FilePlace.{FilePlace}
use Rattle.value_core.specs.declared.shape.Shape.{Shape}
use Rattle.value_core.specs.Order.{Row}
use Rattle.landing_core.specs.declared.landing.LandingFile.{LandingFile}
use Rattle.landing_core.specs.declared.landing.Listed.{Listed}
use Rattle.landing_core.specs.Fresh.{reach, shrunk}
use Rattle.commit_payloads.specs.declared.payload.Payload.{Payload}
use Rattle.plan_core.specs.declared.flow.AppendFlow.{AppendFlow}
use Rattle.plan_core.specs.declared.flow.Origin.{Origin}
use Rattle.plan_core.specs.declared.flow.Origin.TheVariants as origin
use Rattle.plan_core.specs.declared.plan.Dataset.{Dataset as Part}
use Rattle.plan_core.specs.declared.stop.FlowEnd.{FlowEnd}
use Rattle.state_model.specs.Dataset.{Dataset, State, cursor_of, dataset_of}
use Rattle.flow_news.specs.declared.offer.FolderListing.{FolderListing}
use Rattle.flow_news.specs.declared.offer.FolderListing.TheVariants as folder
use Rattle.flow_news.specs.declared.offer.Offer.{Offer}
use Rattle.flow_news.specs.News.{AreRead, new_rows}
use Rattle.append_offers.specs.Offers.{IsOffer, OfCursor, OfFiles, OfFolder, OfListed, OfOrigin, OfReads}
use Rattle.flow_engine.specs.declared.ends.End.{End}
use Rattle.flow_engine.specs.declared.flow_id.FlowId.{FlowId}
use Rattle.flow_engine.specs.declared.listings.FolderOf.{FolderOf}
use Rattle.flow_engine.specs.Ends.{FlowEnds, RunsUnless}
use Rattle.flow_engine.specs.Flows.{blocked_by, listing_for}
use Rattle.flow_engine.specs.Points.{Point}

module _ (tells : Type 0) (files others : List LandingFile) (same : tells → files ≡ others) where
  read_alike : (shape : Shape) (dir : List ℕ) (listing : List Listed) (places : List FilePlace) (rows : List Row) (behind : List FilePlace)
      → AreRead tells shape dir files listing places rows behind → AreRead tells shape dir others listing places rows behind
  read_alike shape dir listing places rows behind read = record {
    rows_are = λ t. subst (λ (f : List LandingFile). rows ≡ new_rows shape dir f listing places) (same t) (read.rows_are t);
    reach_is = λ t. subst (λ (f : List LandingFile). behind ≡ reach dir f places listing) (same t) (read.reach_is t);
    form = read.form;
    later = read.later;
    fit = read.fit;
  }

  module _ (was now : ℕ) (dataset : Part) (flow : AppendFlow) where
    module _ (kept : List Tally) (offer : Offer) where
      reads_alike : (shape : Shape) (dir : List ℕ) (listing : List Listed) (places : List FilePlace)
          → OfReads tells was now files dataset flow kept shape dir listing places offer → OfReads tells was now others dataset flow kept shape dir listing places offer
      reads_alike shape dir listing places (inl failed) = inl failed
      reads_alike shape dir listing places (inr found) = inr (found.0, found.1, read_alike shape dir listing places found.0 found.1 found.2, found.3)

      listed_alike : (shape : Shape) (dir : List ℕ) (listing : List Listed) (places : List FilePlace) (short : Option Listed)
          → OfListed tells was now files dataset flow kept shape dir listing places short offer → OfListed tells was now others dataset flow kept shape dir listing places short offer
      listed_alike shape dir listing places (Some short) is = is
      listed_alike shape dir listing places None is = reads_alike shape dir listing places is

      folder_alike : (shape : Shape) (dir : List ℕ) (listing : FolderListing) (places : List FilePlace)
          → OfFolder tells was now files dataset flow kept shape dir listing places offer → OfFolder tells was now others dataset flow kept shape dir listing places offer
      folder_alike shape dir folder.NoFolder places is = is
      folder_alike shape dir (folder.Failed before after) places is = is
      folder_alike shape dir (folder.Files listing) places is = listed_alike shape dir listing places (shrunk places listing) is

      files_alike : (shape : Shape) (dir : List ℕ) (listing : FolderListing) (cursor : Cursor)
          → OfFiles tells was now files dataset flow kept shape dir listing cursor offer → OfFiles tells was now others dataset flow kept shape dir listing cursor offer
      files_alike shape dir listing (Files places) (inl unfit) = inl unfit
      files_alike shape dir listing (Files places) (inr is) = inr (is.0, folder_alike shape dir listing places is.1)
      files_alike shape dir listing (At version) is = is
      files_alike shape dir listing Never is = is

      origin_alike : (state : State) (listing : FolderListing) (cursor : Cursor) (from : Origin)
          → OfOrigin tells was now files dataset flow kept state listing cursor from offer → OfOrigin tells was now others dataset flow kept state listing cursor from offer
      origin_alike state listing cursor (origin.Files dir shape) is = files_alike shape dir listing cursor is
      origin_alike state listing cursor (origin.Table name) is = is

    module _ (state : State) (listing : FolderListing) (offer : Offer) where
      cursor_alike : (kept : List Tally) (cursor : Option Cursor)
          → OfCursor tells was now files dataset flow state listing kept cursor offer → OfCursor tells was now others dataset flow state listing kept cursor offer
      cursor_alike kept None is = is
      cursor_alike kept (Some cursor) is = origin_alike kept offer state listing cursor flow.origin is

      offer_alike : (target : Option Dataset) → IsOffer tells was now files dataset flow state listing target offer → IsOffer tells was now others dataset flow state listing target offer
      offer_alike None is = is
      offer_alike (Some target) is = cursor_alike target.counts (cursor_of target flow.name) is

  module _ (room : ℕ) (acked tried : List Payload) (answer : Result FlowEnd End) where
    unless_alike : (blocked : Option (List ℕ)) (listing : FolderListing) (state : State) (at : ℕ) (dataset : Part) (flow : AppendFlow)
        → RunsUnless tells files room blocked listing state at dataset flow acked tried answer → RunsUnless tells others room blocked listing state at dataset flow acked tried answer
    unless_alike (Some name) listing state at dataset flow skipped = skipped
    unless_alike None listing state at dataset flow runs =
        (runs.0, runs.1, runs.2, offer_alike runs.0 runs.1 dataset flow state listing runs.2 (dataset_of state dataset.name) runs.3, runs.4)

    -- a flow ends alike by other files, where these are the same if the landing tells
    pub ends_alike : (listings : List FolderOf) (plan : List Part) (id : FlowId) (point : Point) → FlowEnds tells files listings plan room id point acked tried answer → FlowEnds tells others listings plan room id point acked tried answer
    ends_alike listings plan id point (inl out) = inl out
    ends_alike listings plan id point (inr found) =
        inr (found.0, found.1, found.2, unless_alike (blocked_by found.1.origin plan point.halted) (listing_for listings found.1.origin) point.state point.at found.0 found.1 found.3)
