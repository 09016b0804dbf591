-- A stop of the landing has its cause in the landing.
use Rattle.std.proofs.Common.{◌≡◌, inl, inr, List, [], ◌∷◌, ℕ, Option, Some, None, refl, sym, subst}
use Rattle.std.specs.Prelude.{IfSome}
use Rattle.std.specs.Option.{option_or}
use Rattle.value_core.specs.declared.change.Tally.{Tally}
use Rattle.value_core.specs.declared.cursor.Cursor.{Cursor}
use Rattle.value_core.specs.declared.cursor.Cursor.TheVariants.{Files, At, Never}
use Rattle.value_core.specs.declared.cursor.FilePlace.{FilePlace}
use Rattle.value_core.specs.declared.shape.Shape.{Shape}
use Rattle.value_core.specs.Order.{Row}
use Rattle.value_core.specs.Tallies.{both_tallies}
use Rattle.table_versions.specs.Versions.{Versions}
use Rattle.landing_core.specs.declared.landing.LandingFile.{LandingFile}
use Rattle.landing_core.specs.declared.landing.Listed.{Listed}
use Rattle.landing_core.specs.Fresh.{shrunk}
use Rattle.plan_core.specs.declared.expectation.Expectation.{Expectation}
use Rattle.plan_core.specs.declared.flow.Origin.{Origin}
use Rattle.plan_core.specs.declared.flow.Origin.TheVariants as origin
use Rattle.plan_core.specs.declared.stop.Place.TheVariants.{Number}
use Rattle.plan_core.specs.declared.stop.Stop.{Stop}
use Rattle.row_expr.specs.Eval.{Overflow, ZeroDivisor, BadCast}
use Rattle.flow_model.specs.Causes.{Cause, Faults, Fails, stop_at}
use Rattle.flow_model.specs.Counts.{count_stop, past_limit, stop_by_total}
use Rattle.commit_payloads.specs.declared.take.Take.{Take}
use Rattle.state_model.specs.Dataset.{Dataset, State, dataset_of}
use Rattle.flow_news.specs.declared.offer.FolderListing.{FolderListing}
use Rattle.flow_news.specs.declared.offer.FolderListing.TheVariants as folder
use Rattle.flow_news.specs.Blames.{Blames, FoundBlames, IsBlamed}
use Rattle.flow_news.specs.Finds.{Comes, Finds, Follow, Found, Lost, OfFiles, OfFolder, OfListed, OfReads, OfSource, OfVersion, Stays}
use Rattle.flow_news.specs.Made.{made}

module _ (listing : FolderListing) (was now : ℕ) where
  -- ---- rows and counts never blame the landing

  abbrev pub NoneOrBlamed : Option Stop → Type 0
  NoneOrBlamed stop = IfSome stop (IsBlamed listing was now)

  pub first_blamed : (one other : Option Stop) → NoneOrBlamed one → NoneOrBlamed other → NoneOrBlamed (option_or one other)
  first_blamed None other a b = b
  first_blamed (Some why) other a b = a

  pub cause_blamed : (number : ℕ) (cause : Cause) → IsBlamed listing was now (stop_at (Number number) cause)
  cause_blamed number (Fails name) = tt
  cause_blamed number (Faults Overflow) = tt
  cause_blamed number (Faults ZeroDivisor) = tt
  cause_blamed number (Faults BadCast) = tt

  total_blamed : (name : List ℕ) (total : Option ℕ) (later : Option Stop) → NoneOrBlamed later → NoneOrBlamed (stop_by_total name total later)
  total_blamed name None later h = h
  total_blamed name (Some total) later h = tt

  pub counts_blamed : (xs : List Expectation) (kept more : List Tally) → NoneOrBlamed (count_stop xs kept more)
  counts_blamed [] kept more = tt
  counts_blamed (x ∷ xs) [] more = tt
  counts_blamed (x ∷ xs) (old ∷ kept) [] = tt
  counts_blamed (x ∷ xs) (old ∷ kept) (next ∷ more) = total_blamed x.name (past_limit (both_tallies old next)) (count_stop xs kept more) (counts_blamed xs kept more)

  pub made_blamed : (stop : Option Stop) (count : ℕ) (batch : Take) → NoneOrBlamed stop → Blames listing was now (made stop count batch)
  made_blamed None count batch h = tt
  made_blamed (Some why) count batch h = h

  -- ---- what is found

  is : (found other : Found) → found ≡ other → FoundBlames listing was now other → FoundBlames listing was now found
  is found other e h = subst (FoundBlames listing was now) (sym e) h

  module _ (found : Found) where
    follow_blamed : (old : Cursor) (rows : List Row) (behind : Cursor) → Follow old rows behind found → FoundBlames listing was now found
    follow_blamed old rows behind (inl idle) = is found Stays idle.1 tt
    follow_blamed old rows behind (inr comes) = is found (Comes rows behind) comes.1 tt

    version_blamed : (table : Versions) (version : ℕ) → OfVersion table version found → FoundBlames listing was now found
    version_blamed table version (inl lost) = is found Lost lost.1 tt
    version_blamed table version (inr comes) = follow_blamed _ _ _ comes.1

    source_blamed : (source : Option Dataset) (cursor : Cursor) → OfSource source cursor found → FoundBlames listing was now found
    source_blamed None cursor e = is found Lost e tt
    source_blamed (Some source) Never comes = follow_blamed _ _ _ comes
    source_blamed (Some source) (At version) comes = version_blamed source.table version comes
    source_blamed (Some source) (Files places) e = is found Lost e tt

    module _ (tells : Type 0) (files : List LandingFile) where
      reads_blamed : (shape : Shape) (dir : List ℕ) (list : List Listed) (places : List FilePlace) → OfReads tells was now files shape dir list places found → FoundBlames listing was now found
      reads_blamed shape dir list places (inl failed) = is found _ failed.0 (inr (refl, refl, failed.1))
      reads_blamed shape dir list places (inr (rows, behind, read, comes)) = follow_blamed _ _ _ comes

      listed_blamed : (shape : Shape) (dir : List ℕ) (list : List Listed) (places : List FilePlace) (short : Option Listed) → OfListed tells was now files shape dir list places short found → FoundBlames listing was now found
      listed_blamed shape dir list places (Some short) e = is found _ e tt
      listed_blamed shape dir list places None comes = reads_blamed shape dir list places comes

      folder_blamed : (shape : Shape) (dir : List ℕ) (given : FolderListing) (places : List FilePlace) → listing ≡ given → OfFolder tells was now files shape dir given places found → FoundBlames listing was now found
      folder_blamed shape dir folder.NoFolder places same never = absurd never
      folder_blamed shape dir (folder.Failed before after) places same e = is found _ e (inl same)
      folder_blamed shape dir (folder.Files list) places same comes = listed_blamed shape dir list places (shrunk places list) comes

      files_blamed : (shape : Shape) (dir : List ℕ) (cursor : Cursor) → OfFiles tells was now files shape dir listing cursor found → FoundBlames listing was now found
      files_blamed shape dir (Files places) (inl lost) = is found Lost lost.1 tt
      files_blamed shape dir (Files places) (inr comes) = folder_blamed shape dir listing places refl comes.1
      files_blamed shape dir (At version) e = is found Lost e tt
      files_blamed shape dir Never e = is found Lost e tt

      pub finds_blamed : (state : State) (from : Origin) (cursor : Cursor) → Finds tells was now files state listing cursor from found → FoundBlames listing was now found
      finds_blamed state (origin.Files dir shape) cursor comes = files_blamed shape dir cursor comes
      finds_blamed state (origin.Table name) cursor comes = source_blamed (dataset_of state name) cursor comes
