-- What a flow finds that stands where it has consumed its source: it goes on by it.
use Rattle.std.proofs.Common.{◌≡◌, inl, inr, ◌↔◌, List, ℕ, Option, Some, None, refl, sym, subst, arith}
use Rattle.std.specs.Prelude.{⊤, IsSomeAnd}
use Rattle.value_core.specs.declared.cursor.Cursor.{Cursor}
use Rattle.value_core.specs.declared.cursor.Cursor.TheVariants.{Files, At, Never}
use Rattle.value_core.specs.declared.cursor.FilePlace.{FilePlace}
use Rattle.value_core.specs.declared.shape.Shape.{Shape}
use Rattle.value_core.specs.Bags.{in_row_order}
use Rattle.value_core.specs.FilePlaces.{IsPlaces}
use Rattle.value_core.specs.Order.{Row}
use Rattle.net_changes.specs.Chains.{all_added}
use Rattle.table_versions.specs.Versions.{IsKept, changes_since, content_now, now_of}
use Rattle.landing_core.specs.declared.landing.LandingFile.{LandingFile}
use Rattle.landing_core.specs.declared.landing.Listed.{Listed}
use Rattle.landing_core.specs.Folders.{HoldsPresent}
use Rattle.landing_core.specs.Fresh.{reach, shrunk}
use Rattle.landing_core.specs.Names.{AreAscending}
use Rattle.landing_core.specs.Places.{AreAboveZero, placed_names}
use Rattle.landing_history.specs.Taken.{AreEnds, CanReadOn}
use Rattle.plan_core.specs.declared.flow.Origin.{Origin}
use Rattle.plan_core.specs.declared.flow.Origin.TheVariants as origin
use Rattle.state_model.specs.Dataset.{Dataset, State, dataset_of}
use Rattle.state_steps.specs.Consumed.{IsStreamed, StreamStands}
use Rattle.state_steps.specs.Steps.{AreBetween, GoesOn}
use Rattle.flow_news.specs.declared.offer.FolderListing.{FolderListing}
use Rattle.flow_news.specs.declared.offer.FolderListing.TheVariants as folder
use Rattle.flow_news.specs.Finds.{Comes, Finds, Follow, Found, Lost, OfFiles, OfFolder, OfListed, OfReads, OfSource, OfTable, OfVersion, Stays, Stops}
use Rattle.flow_news.specs.Goings.{IsGoing, IsThere}
use Rattle.flow_news.specs.News.{AreRead, IsListingFor, new_rows}
use Rattle.flow_news.proofs.PlaceLemmas.{moves_on}

module _ (ever : List LandingFile) (state : State) where
  is : (from : Origin) (old : Cursor) (found other : Found) → found ≡ other → IsGoing ever state from old other → IsGoing ever state from old found
  is from old found other e going = subst (IsGoing ever state from old) (sym e) going

  follow_goes : (from : Origin) (old behind : Cursor) (rows : List Row) (found : Found) → GoesOn ever state from old behind rows → Follow old rows behind found → IsGoing ever state from old found
  follow_goes from old behind rows found goes (inl idle) = is from old found Stays idle.1 tt
  follow_goes from old behind rows found goes (inr comes) = is from old found (Comes rows behind) comes.1 goes

  -- ---- a dataset

  module _ (name : List ℕ) (source : Dataset) (there : dataset_of state name ≡ Some source) where
    some_source : (P : Dataset → Type 0) → P source → IsSomeAnd (dataset_of state name) P
    some_source P p = subst (λ o. IsSomeAnd o P) (sym there) p

    first_goes : GoesOn ever state (origin.Table name) Never (At (now_of source.table)) (in_row_order (content_now source.table))
    first_goes = record { ends = some_source _ refl; not_below = some_source _ (omega arith); between = some_source _ (refl, refl) }

    version_goes : (version : ℕ) → IsKept source.table version → GoesOn ever state (origin.Table name) (At version) (At (now_of source.table)) (all_added (changes_since source.table version))
    version_goes version is_kept = record { ends = some_source _ refl; not_below = (is_kept.1, some_source _ (omega arith)); between = some_source _ (refl, refl) }

    of_version : (version : ℕ) (found : Found) → IsStreamed version source → OfVersion source.table version found → IsGoing ever state (origin.Table name) (At version) found
    of_version version found streamed (inl lost) = absurd (lost.0 streamed.0)
    of_version version found streamed (inr comes) = follow_goes (origin.Table name) (At version) _ _ found (version_goes version comes.0) comes.1

  source_kept : (name : List ℕ) (version : ℕ) (source : Dataset) → dataset_of state name ≡ Some source → StreamStands ever state (origin.Table name) (At version) → IsStreamed version source
  source_kept name version source there stands = subst (λ o. IsSomeAnd o (IsStreamed version)) there stands

  of_source : (name : List ℕ) (source : Option Dataset) (cursor : Cursor) (found : Found) → dataset_of state name ≡ source → StreamStands ever state (origin.Table name) cursor → IsThere state (origin.Table name)
      → OfSource source cursor found → IsGoing ever state (origin.Table name) cursor found
  of_source name None cursor found there stands has comes = absurd (subst (λ o. IsSomeAnd o (λ _. ⊤)) there has)
  of_source name (Some source) Never found there stands has comes = follow_goes (origin.Table name) Never _ _ found (first_goes name source there) comes
  of_source name (Some source) (At version) found there stands has comes = of_version name source there version found (source_kept name version source there stands) comes
  of_source name (Some source) (Files places) found there stands has comes = absurd stands

  -- ---- files

  module _ (tells : Type 0) (told : tells) (was now : ℕ) (files : List LandingFile) (held : HoldsPresent files ever)
      (one_form : (places : List FilePlace) → IsPlaces places ↔ (AreAscending (placed_names places) × AreAboveZero places))
      (keeps_ends : (dir : List ℕ) (present ever : List LandingFile) (places : List FilePlace) (listing : List Listed) → CanReadOn dir present ever places listing → AreEnds dir ever places → AreEnds dir ever (reach dir present places listing))
      (finds : (state : State) (shape : Shape) (dir : List ℕ) (present ever : List LandingFile) (places : List FilePlace) (listing : List Listed) → CanReadOn dir present ever places listing → AreAscending (placed_names places)
      → AreEnds dir ever places → AreBetween ever state (origin.Files dir shape) (Files places) (Files (reach dir present places listing)) (new_rows shape dir present listing places)) where
    module _ (shape : Shape) (dir : List ℕ) (places : List FilePlace) (stands : IsPlaces places × AreEnds dir ever places) where
      goes_files : (listing : List Listed) (rows : List Row) (behind : List FilePlace) → CanReadOn dir files ever places listing → AreRead tells shape dir files listing places rows behind
          → GoesOn ever state (origin.Files dir shape) (Files places) (Files behind) rows
      goes_files listing rows behind can read = record {
        ends = (read.form, subst (λ list. AreEnds dir ever list) (sym (read.reach_is told)) (keeps_ends dir files ever places listing can stands.1));
        not_below = moves_on places behind stands.0 read.later;
        between = subst (λ list. AreBetween ever state (origin.Files dir shape) (Files places) (Files behind) list) (sym (read.rows_are told))
            (subst (λ list. AreBetween ever state (origin.Files dir shape) (Files places) (Files list) (new_rows shape dir files listing places)) (sym (read.reach_is told))
            (finds state shape dir files ever places listing can ((one_form places).0 stands.0).0 stands.1));
      }

      of_reads : (listing : List Listed) (found : Found) → CanReadOn dir files ever places listing → OfReads tells was now files shape dir listing places found → IsGoing ever state (origin.Files dir shape) (Files places) found
      of_reads listing found can (inl failed) = is (origin.Files dir shape) (Files places) found _ failed.0 tt
      of_reads listing found can (inr (rows, behind, read, comes)) = follow_goes (origin.Files dir shape) (Files places) (Files behind) rows found (goes_files listing rows behind can read) comes

      of_listed : (listing : List Listed) (short : Option Listed) (found : Found) → shrunk places listing ≡ short → IsListingFor tells (origin.Files dir shape) files (folder.Files listing)
          → OfListed tells was now files shape dir listing places short found → IsGoing ever state (origin.Files dir shape) (Files places) found
      of_listed listing (Some short) found unshrunk listed halted = is (origin.Files dir shape) (Files places) found _ halted tt
      of_listed listing None found unshrunk listed comes = of_reads listing found (record { named = listed.0; there = listed.1 told; held = held; unshrunk = unshrunk }) comes

      of_folder : (listing : FolderListing) (found : Found) → IsListingFor tells (origin.Files dir shape) files listing → OfFolder tells was now files shape dir listing places found
          → IsGoing ever state (origin.Files dir shape) (Files places) found
      of_folder folder.NoFolder found listed never = absurd never
      of_folder (folder.Failed before after) found listed halted = is (origin.Files dir shape) (Files places) found _ halted tt
      of_folder (folder.Files listing) found listed comes = of_listed listing (shrunk places listing) found refl listed comes

    of_files : (shape : Shape) (dir : List ℕ) (listing : FolderListing) (cursor : Cursor) (found : Found) → StreamStands ever state (origin.Files dir shape) cursor
        → IsListingFor tells (origin.Files dir shape) files listing → OfFiles tells was now files shape dir listing cursor found → IsGoing ever state (origin.Files dir shape) cursor found
    of_files shape dir listing (Files places) found stands listed (inl lost) = absurd (lost.0 stands.0)
    of_files shape dir listing (Files places) found stands listed (inr comes) = of_folder shape dir places stands listing found listed comes.1
    of_files shape dir listing (At version) found stands listed lost = absurd stands
    of_files shape dir listing Never found stands listed lost = absurd stands

    pub finds_goes : (from : Origin) (listing : FolderListing) (cursor : Cursor) (found : Found) → StreamStands ever state from cursor → IsThere state from → IsListingFor tells from files listing
        → Finds tells was now files state listing cursor from found → IsGoing ever state from cursor found
    finds_goes (origin.Files dir shape) listing cursor found stands has listed comes = of_files shape dir listing cursor found stands listed comes
    finds_goes (origin.Table name) listing cursor found stands has listed comes = of_source name (dataset_of state name) cursor found refl stands has comes
