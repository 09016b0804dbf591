-- What a flow finds of a store that is ready for its plan: rows that fit the columns of its source, and it moves on.
use Rattle.std.proofs.Common.{◌≡◌, inl, inr, ℕ, Bool, true, false, ◌&&◌, if◌then◌else◌, List, Option, Some, None, refl, sym, ap, subst, arith}
use Rattle.std.specs.Prelude.{IsSomeAnd, nat_lt, option_and_then}
use Rattle.std.specs.List.{list_all}
use Rattle.std.proofs.lemmas.Bool.{and_from}
use Rattle.value_core.specs.declared.cursor.Cursor.{Cursor}
use Rattle.value_core.specs.declared.cursor.Cursor.TheVariants.{Files, At, Never}
use Rattle.value_core.specs.declared.cursor.FilePlace.{FilePlace}
use Rattle.value_core.specs.declared.schema.Column.{Column}
use Rattle.value_core.specs.declared.shape.Shape.{Shape}
use Rattle.value_core.specs.Bags.{in_row_order}
use Rattle.value_core.specs.FilePlaces.{IsPlaces}
use Rattle.value_core.specs.Order.{Row}
use Rattle.net_changes.specs.Chains.{all_added}
use Rattle.table_versions.specs.Versions.{IsKept, changes_since, content_now, now_of}
use Rattle.landing_core.specs.declared.landing.LandingFile.{LandingFile}
use Rattle.landing_core.specs.declared.landing.Listed.{Listed}
use Rattle.landing_core.specs.Fresh.{shrunk}
use Rattle.line_rows.specs.Lines.{keeps_text}
use Rattle.flow_kinds.proofs.FitTools.{all_in_order}
use Rattle.plan_core.specs.declared.flow.Origin.{Origin}
use Rattle.plan_core.specs.declared.flow.Origin.TheVariants as origin
use Rattle.plan_core.specs.declared.plan.Dataset.{Dataset as Part}
use Rattle.plan_core.specs.Sound.{dataset_named, flow_columns, is_append}
use Rattle.state_keeps.specs.Stored.{IsStored}
use Rattle.state_model.specs.Dataset.{Dataset, State, content, dataset_of}
use Rattle.state_model.specs.Follows.{FitsStored, all_fit, is_row_of}
use Rattle.state_steps.specs.Consumed.{IsStreamed}
use Rattle.state_steps.specs.Parts.{KeepsText, stored_origin}
use Rattle.state_steps.specs.Shapes.{is_shaped}
use Rattle.state_steps.proofs.Lookups.{some_same}
use Rattle.state_steps.proofs.RowShapes.{content_fits, since_fits}
use Rattle.store_fitness.specs.Fitness.{IsReady}
use Rattle.flow_news.specs.declared.offer.FolderListing.{FolderListing}
use Rattle.flow_news.specs.declared.offer.FolderListing.TheVariants as folder
use Rattle.flow_news.specs.Finds.{Comes, Finds, Follow, Found, Lost, OfFiles, OfFolder, OfListed, OfReads, OfSource, OfTable, OfVersion, Stays}
use Rattle.flow_news.specs.Goings.{AreNext, IsNext, IsPosition}
use Rattle.flow_news.proofs.PlaceLemmas.{moves_on}
use Rattle.flow_news.proofs.ReadyLemmas.{ReadyTable, ready_table, ready_there}

-- ---- the columns of a source

columns_by : (b : Bool) (source : Part) (columns : List Column) → (if b then Some source.columns else None) ≡ Some columns → source.columns ≡ columns
columns_by true source columns e = some_same source.columns columns e
columns_by false source columns e = cc

source_by : (plan : List Part) (level : ℕ) (name : List ℕ) (columns : List Column) (o : Option Part) → dataset_named plan name ≡ o
    → option_and_then (λ source. if nat_lt source.level level && is_append source.body then Some source.columns else None) o ≡ Some columns
    → (source : Part) × (dataset_named plan name ≡ Some source) × (source.columns ≡ columns)
source_by plan level name columns None is e = cc
source_by plan level name columns (Some source) is e = (source, is, columns_by (nat_lt source.level level && is_append source.body) source columns e)

-- a flow over a dataset reads the columns of the plan's dataset of that name
pub source_named : (plan : List Part) (level : ℕ) (name : List ℕ) (columns : List Column) → flow_columns plan level (origin.Table name) ≡ Some columns → (source : Part) × (dataset_named plan name ≡ Some source) × (source.columns ≡ columns)
source_named plan level name columns e = source_by plan level name columns (dataset_named plan name) refl e

-- ---- rows of a dataset

shaped : (state : State) (d : Dataset) → FitsStored state d → is_shaped d ≡ true
shaped state d fits = and_from (all_fit d.definition.columns d.table.rows) (list_all (λ change. all_fit d.definition.columns change.added) d.table.changes) fits.rows_fit fits.changes_fit

some_source : (P : Dataset → Type 0) (o : Option Dataset) (d : Dataset) → o ≡ Some d → P d → IsSomeAnd o P
some_source P o d e p = subst (λ w. IsSomeAnd w P) (sym e) p

module _ (plan : List Part) (state : State) (name : List ℕ) (source : Part) (d : Dataset) (there : dataset_of state name ≡ Some d) (ready : ReadyTable plan state source d) where
  in_columns : (rows : List Row) → all_fit d.definition.columns rows ≡ true → all_fit source.columns rows ≡ true
  in_columns rows fit = subst (λ columns. all_fit columns rows ≡ true) (ap (λ definition. definition.columns) ready.defined) fit

  first_next : AreNext state (origin.Table name) source.columns Never (At (now_of d.table)) (in_row_order (content_now d.table))
  first_next = record {
    moves = some_source _ (dataset_of state name) d there (omega arith);
    ends = some_source _ (dataset_of state name) d there refl;
    form = tt;
    fit =
        let all = content_fits d (shaped state d ready.fits) in in_columns (in_row_order (content_now d.table)) (all_in_order (is_row_of d.definition.columns) (content d) all);
  }

  version_next : (version : ℕ) → IsKept d.table version → AreNext state (origin.Table name) source.columns (At version) (At (now_of d.table)) (all_added (changes_since d.table version))
  version_next version is_kept = record {
    moves = (is_kept.1, some_source _ (dataset_of state name) d there (omega arith));
    ends = some_source _ (dataset_of state name) d there refl;
    form = tt;
    fit = in_columns (all_added (changes_since d.table version)) (since_fits d (shaped state d ready.fits) version);
  }

-- ---- what is found

module _ (state : State) (from : Origin) (columns : List Column) (old : Cursor) (found : Found) where
  is : (other : Found) → found ≡ other → IsNext state from columns old other → IsNext state from columns old found
  is other e next = subst (IsNext state from columns old) (sym e) next

  follow_next : (behind : Cursor) (rows : List Row) → AreNext state from columns old behind rows → Follow old rows behind found → IsNext state from columns old found
  follow_next behind rows next (inl idle) = is Stays idle.1 tt
  follow_next behind rows next (inr comes) = is (Comes rows behind) comes.1 next

-- of a dataset
module _ (plan : List Part) (state : State) (name : List ℕ) (source : Part) (d : Dataset) (there : dataset_of state name ≡ Some d) (ready : ReadyTable plan state source d) (found : Found) where
  of_version : (version : ℕ) → IsKept d.table version → OfVersion d.table version found → IsNext state (origin.Table name) source.columns (At version) found
  of_version version is_kept (inl lost) = absurd (lost.0 is_kept)
  of_version version is_kept (inr comes) = follow_next state (origin.Table name) source.columns (At version) found _ _ (version_next plan state name source d there ready version comes.0) comes.1

  streamed : (version : ℕ) → IsSomeAnd (dataset_of state name) (IsStreamed version) → IsKept d.table version
  streamed version fits = (subst (λ o. IsSomeAnd o (IsStreamed version)) there fits).0

  of_table : (old : Cursor) → IsPosition state (stored_origin (origin.Table name)) old → OfTable d.table old found → IsNext state (origin.Table name) source.columns old found
  of_table Never at comes = follow_next state (origin.Table name) source.columns Never found _ _ (first_next plan state name source d there ready) comes
  of_table (At version) at comes = of_version version (streamed version at.fits) comes
  of_table (Files places) at comes = absurd at.moved

  of_source : (o : Option Dataset) (old : Cursor) → o ≡ Some d → IsPosition state (stored_origin (origin.Table name)) old → OfSource o old found → IsNext state (origin.Table name) source.columns old found
  of_source None old e at comes = cc
  of_source (Some other) old e at comes = of_table old at (subst (λ w. OfTable w.table old found) (some_same other d e) comes)

-- of files
module _ (state : State) (tells : Type 0) (was now : ℕ) (files : List LandingFile) (shape : Shape) (dir : List ℕ) (keeps : keeps_text shape ≡ true) (found : Found) where
  of_reads : (listing : List Listed) (places : List FilePlace) → IsPlaces places → OfReads tells was now files shape dir listing places found → IsNext state (origin.Files dir shape) shape.columns (Files places) found
  of_reads listing places form (inl failed) = is state (origin.Files dir shape) shape.columns (Files places) found _ failed.0 tt
  of_reads listing places form (inr (rows, behind, are, comes)) =
      follow_next state (origin.Files dir shape) shape.columns (Files places) found (Files behind) rows (record { moves = moves_on places behind form are.later; ends = tt; form = are.form; fit = are.fit keeps }) comes

  of_listed : (listing : List Listed) (places : List FilePlace) (short : Option Listed) → IsPlaces places → OfListed tells was now files shape dir listing places short found
      → IsNext state (origin.Files dir shape) shape.columns (Files places) found
  of_listed listing places (Some short) form halted = is state (origin.Files dir shape) shape.columns (Files places) found _ halted tt
  of_listed listing places None form comes = of_reads listing places form comes

  of_folder : (listing : FolderListing) (places : List FilePlace) → IsPlaces places → OfFolder tells was now files shape dir listing places found → IsNext state (origin.Files dir shape) shape.columns (Files places) found
  of_folder folder.NoFolder places form never = absurd never
  of_folder (folder.Failed before after) places form halted = is state (origin.Files dir shape) shape.columns (Files places) found _ halted tt
  of_folder (folder.Files listing) places form comes = of_listed listing places (shrunk places listing) form comes

  of_files : (listing : FolderListing) (old : Cursor) → IsPosition state (stored_origin (origin.Files dir shape)) old → OfFiles tells was now files shape dir listing old found → IsNext state (origin.Files dir shape) shape.columns old found
  of_files listing (Files places) at (inl lost) = absurd (lost.0 at.form)
  of_files listing (Files places) at (inr comes) = of_folder listing places comes.0 comes.1
  of_files listing (At version) at comes = absurd at.moved
  of_files listing Never at comes = absurd at.moved

-- by what the flow reads
module _ (tells : Type 0) (was now : ℕ) (files : List LandingFile) (plan : List Part) (state : State) (level : ℕ) (listing : FolderListing) (old : Cursor) (found : Found) (ready : IsReady plan state) (stored : IsStored state) where
  in_source : (from : Origin) (columns source : List Column) → source ≡ columns → IsNext state from source old found → IsNext state from columns old found
  in_source from columns source e next = subst (λ w. IsNext state from w old found) e next

  pub found_next : (from : Origin) (columns : List Column) → flow_columns plan level from ≡ Some columns → KeepsText from → IsPosition state (stored_origin from) old → Finds tells was now files state listing old from found
      → IsNext state from columns old found
  found_next (origin.Files dir shape) columns reads keeps at comes =
      in_source (origin.Files dir shape) columns shape.columns (some_same shape.columns columns reads) (of_files state tells was now files shape dir keeps found listing old at comes)
  found_next (origin.Table name) columns reads keeps at comes =
      let source = source_named plan level name columns reads in
      let there = ready_there plan state ready stored name source.0 source.1 in
      in_source (origin.Table name) columns source.0.columns source.2
      (of_source plan state name source.0 there.0 there.1 (ready_table plan state ready stored name source.0 source.1 there.0 there.1) found (dataset_of state name) old there.1 at comes)
