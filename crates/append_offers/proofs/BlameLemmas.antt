-- A stop of the landing has its cause in the landing.
use Rattle.std.proofs.Common.{◌≡◌, inl, inr, List, [], ◌∷◌, ℕ, ◌+◌, Option, Some, None, refl, sym, subst}
use Rattle.std.specs.Prelude.{IfSome, Result, Ok, Err, IfOk, option_map}
use Rattle.std.specs.Option.{option_or}
use Rattle.std.specs.declared.alloc.AllocError.{AllocError}
use Rattle.value_core.specs.declared.change.Tally.{Tally}
use Rattle.value_core.specs.declared.cursor.Cursor.{Cursor}
use Rattle.value_core.specs.declared.cursor.Cursor.TheVariants.{Files, At, Never}
use Rattle.value_core.specs.declared.cursor.FilePlace.{FilePlace}
use Rattle.value_core.specs.declared.shape.Shape.{Shape}
use Rattle.value_core.specs.Order.{Row}
use Rattle.value_core.specs.Tallies.{both_tallies}
use Rattle.row_expr.specs.Eval.{Overflow, ZeroDivisor, BadCast}
use Rattle.table_versions.specs.Versions.{Versions}
use Rattle.landing_core.specs.declared.landing.LandingFile.{LandingFile}
use Rattle.landing_core.specs.declared.landing.Listed.{Listed}
use Rattle.landing_core.specs.Fresh.{shrunk}
use Rattle.plan_core.specs.declared.expectation.Expectation.{Expectation}
use Rattle.plan_core.specs.declared.flow.AppendFlow.{AppendFlow}
use Rattle.plan_core.specs.declared.flow.Origin.{Origin}
use Rattle.plan_core.specs.declared.flow.Origin.TheVariants as origin
use Rattle.plan_core.specs.declared.plan.Dataset.{Dataset as Part}
use Rattle.plan_core.specs.declared.stop.Place.TheVariants.{Number}
use Rattle.plan_core.specs.declared.stop.Stop.{Stop}
use Rattle.flow_model.specs.Append.{append_stop_from, cause_of, judged}
use Rattle.flow_model.specs.Causes.{Cause, Faults, Fails, stop_at}
use Rattle.flow_model.specs.Counts.{count_stop, past_limit, stop_by_total}
use Rattle.commit_payloads.specs.declared.take.Take.{Take}
use Rattle.state_model.specs.Dataset.{Dataset, State, cursor_of, dataset_of}
use Rattle.flow_news.specs.declared.offer.FolderListing.{FolderListing}
use Rattle.flow_news.specs.declared.offer.FolderListing.TheVariants as folder
use Rattle.flow_news.specs.declared.offer.Offer.{Offer}
use Rattle.flow_news.specs.declared.offer.Offer.TheVariants.{Idle, Unfit}
use Rattle.append_offers.specs.Offers.{Comes, IsOffer, OfCursor, OfFiles, OfFolder, OfListed, OfOrigin, OfReads, OfSource, OfVersion, batch_stop}
use Rattle.flow_news.specs.Made.{made}
use Rattle.flow_news.specs.Blames.{Blames, IsBlamed}

module _ (listing : FolderListing) (was now : ℕ) where
  -- ---- rows never blame the landing

  abbrev NoneOrBlamed : Option Stop → Type 0
  NoneOrBlamed stop = IfSome stop (IsBlamed listing was now)

  first_blamed : (one other : Option Stop) → NoneOrBlamed one → NoneOrBlamed other → NoneOrBlamed (option_or one other)
  first_blamed None other a b = b
  first_blamed (Some why) other a b = a

  row_blamed : (number : ℕ) (cause : Option Cause) → NoneOrBlamed (option_map (stop_at (Number number)) cause)
  row_blamed number None = tt
  row_blamed number (Some (Fails name)) = tt
  row_blamed number (Some (Faults Overflow)) = tt
  row_blamed number (Some (Faults ZeroDivisor)) = tt
  row_blamed number (Some (Faults BadCast)) = tt

  rows_blamed : (number : ℕ) (flow : AppendFlow) (xs : List Expectation) (rows : List Row) → NoneOrBlamed (append_stop_from number flow xs rows)
  rows_blamed number flow xs [] = tt
  rows_blamed number flow xs (row ∷ rows) = first_blamed _ _ (row_blamed number (cause_of (judged flow xs row))) (rows_blamed (number + 1) flow xs rows)

  total_blamed : (name : List ℕ) (total : Option ℕ) (later : Option Stop) → NoneOrBlamed later → NoneOrBlamed (stop_by_total name total later)
  total_blamed name None later h = h
  total_blamed name (Some total) later h = tt

  counts_blamed : (xs : List Expectation) (kept more : List Tally) → NoneOrBlamed (count_stop xs kept more)
  counts_blamed [] kept more = tt
  counts_blamed (x ∷ xs) [] more = tt
  counts_blamed (x ∷ xs) (old ∷ kept) [] = tt
  counts_blamed (x ∷ xs) (old ∷ kept) (next ∷ more) = total_blamed x.name (past_limit (both_tallies old next)) (count_stop xs kept more) (counts_blamed xs kept more)

  made_blamed : (stop : Option Stop) (count : ℕ) (batch : Take) → NoneOrBlamed stop → Blames listing was now (made stop count batch)
  made_blamed None count batch h = tt
  made_blamed (Some why) count batch h = h

  -- ---- an offer

  is : (offer other : Offer) → offer ≡ other → Blames listing was now other → Blames listing was now offer
  is offer other e h = subst (Blames listing was now) (sym e) h

  module _ (part : Part) (flow : AppendFlow) (kept : List Tally) (offer : Offer) where
    comes_blamed : (old : Cursor) (rows : List Row) (behind : Cursor) → Comes part flow kept old rows behind offer → Blames listing was now offer
    comes_blamed old rows behind (inl idle) = is offer Idle idle.1 tt
    comes_blamed old rows behind (inr comes) =
        is offer _ comes.1 (made_blamed (batch_stop flow part.expectations kept rows) _ _ (first_blamed _ _ (rows_blamed 1 flow part.expectations rows) (counts_blamed part.expectations kept _)))

    version_blamed : (table : Versions) (version : ℕ) → OfVersion part flow kept table version offer → Blames listing was now offer
    version_blamed table version (inl unfit) = is offer Unfit unfit.1 tt
    version_blamed table version (inr comes) = comes_blamed _ _ _ comes.1

    source_blamed : (source : Option Dataset) (cursor : Cursor) → OfSource part flow kept source cursor offer → Blames listing was now offer
    source_blamed None cursor e = is offer Unfit e tt
    source_blamed (Some source) Never comes = comes_blamed _ _ _ comes
    source_blamed (Some source) (At version) comes = version_blamed source.table version comes
    source_blamed (Some source) (Files places) e = is offer Unfit e tt

    module _ (tells : Type 0) (files : List LandingFile) where
      reads_blamed : (shape : Shape) (dir : List ℕ) (list : List Listed) (places : List FilePlace) → OfReads tells was now files part flow kept shape dir list places offer → Blames listing was now offer
      reads_blamed shape dir list places (inl failed) = is offer _ failed.0 (inr (refl, refl, failed.1))
      reads_blamed shape dir list places (inr (rows, behind, read, comes)) = comes_blamed _ _ _ comes

      listed_blamed : (shape : Shape) (dir : List ℕ) (list : List Listed) (places : List FilePlace) (short : Option Listed) → OfListed tells was now files part flow kept shape dir list places short offer
          → Blames listing was now offer
      listed_blamed shape dir list places (Some short) e = is offer _ e tt
      listed_blamed shape dir list places None comes = reads_blamed shape dir list places comes

      folder_blamed : (shape : Shape) (dir : List ℕ) (given : FolderListing) (places : List FilePlace) → listing ≡ given → OfFolder tells was now files part flow kept shape dir given places offer → Blames listing was now offer
      folder_blamed shape dir folder.NoFolder places same never = absurd never
      folder_blamed shape dir (folder.Failed before after) places same e = is offer _ e (inl same)
      folder_blamed shape dir (folder.Files list) places same comes = listed_blamed shape dir list places (shrunk places list) comes

      files_blamed : (shape : Shape) (dir : List ℕ) (cursor : Cursor) → OfFiles tells was now files part flow kept shape dir listing cursor offer → Blames listing was now offer
      files_blamed shape dir (Files places) (inl unfit) = is offer Unfit unfit.1 tt
      files_blamed shape dir (Files places) (inr comes) = folder_blamed shape dir listing places refl comes.1
      files_blamed shape dir (At version) e = is offer Unfit e tt
      files_blamed shape dir Never e = is offer Unfit e tt

      origin_blamed : (state : State) (from : Origin) (cursor : Cursor) → OfOrigin tells was now files part flow kept state listing cursor from offer → Blames listing was now offer
      origin_blamed state (origin.Files dir shape) cursor comes = files_blamed shape dir cursor comes
      origin_blamed state (origin.Table name) cursor comes = source_blamed (dataset_of state name) cursor comes

  cursor_blamed : (tells : Type 0) (files : List LandingFile) (part : Part) (flow : AppendFlow) (state : State) (kept : List Tally) (cursor : Option Cursor) (offer : Offer)
      → OfCursor tells was now files part flow state listing kept cursor offer → Blames listing was now offer
  cursor_blamed tells files part flow state kept None offer e = is offer Unfit e tt
  cursor_blamed tells files part flow state kept (Some cursor) offer comes = origin_blamed part flow kept offer tells files state flow.origin cursor comes

  offer_blamed : (tells : Type 0) (files : List LandingFile) (part : Part) (flow : AppendFlow) (state : State) (target : Option Dataset) (offer : Offer)
      → IsOffer tells was now files part flow state listing target offer → Blames listing was now offer
  offer_blamed tells files part flow state None offer e = is offer Unfit e tt
  offer_blamed tells files part flow state (Some target) offer comes = cursor_blamed tells files part flow state target.counts (cursor_of target flow.name) offer comes

  pub answer_blamed : (tells : Type 0) (files : List LandingFile) (part : Part) (flow : AppendFlow) (state : State) (target : Option Dataset) (result : Result Offer AllocError)
      → IfOk result (IsOffer tells was now files part flow state listing target) → IfOk result (Blames listing was now)
  answer_blamed tells files part flow state target (Ok offer) comes = offer_blamed tells files part flow state target offer comes
  answer_blamed tells files part flow state target (Err end) comes = tt
