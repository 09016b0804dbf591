-- The rows that a flow reads next of a store that is ready for its plan: they fit the columns of its source, and it moves on.
use Rattle.std.proofs.Common.{◌≡◌, inl, inr, ℕ, Bool, true, false, ◌&&◌, if◌then◌else◌, List, Option, Some, None, refl, sym, ap, subst, arith}
use Rattle.std.specs.Prelude.{IsSomeAnd, nat_lt, option_and_then}
use Rattle.std.specs.List.{list_all}
use Rattle.std.proofs.lemmas.Bool.{and_from}
use Rattle.value_core.specs.declared.change.Tally.{Tally}
use Rattle.value_core.specs.declared.cursor.Cursor.{Cursor}
use Rattle.value_core.specs.declared.cursor.Cursor.TheVariants.{Files, At, Never}
use Rattle.value_core.specs.declared.cursor.FilePlace.{FilePlace}
use Rattle.value_core.specs.declared.schema.Column.{Column}
use Rattle.value_core.specs.declared.shape.Shape.{Shape}
use Rattle.value_core.specs.Bags.{in_row_order}
use Rattle.value_core.specs.FilePlaces.{IsPlaces}
use Rattle.value_core.specs.Order.{Row}
use Rattle.net_changes.specs.Chains.{all_added}
use Rattle.table_versions.specs.Versions.{IsKept, changes_since, content_now, now_of}
use Rattle.landing_core.specs.declared.landing.LandingFile.{LandingFile}
use Rattle.landing_core.specs.declared.landing.Listed.{Listed}
use Rattle.landing_core.specs.Fresh.{shrunk}
use Rattle.line_rows.specs.Lines.{keeps_text}
use Rattle.flow_kinds.proofs.FitTools.{all_in_order}
use Rattle.plan_core.specs.declared.flow.AppendFlow.{AppendFlow}
use Rattle.plan_core.specs.declared.flow.Origin.{Origin}
use Rattle.plan_core.specs.declared.flow.Origin.TheVariants as origin
use Rattle.plan_core.specs.declared.plan.Dataset.{Dataset as Part}
use Rattle.plan_core.specs.Sound.{dataset_named, flow_columns, is_append}
use Rattle.commit_payloads.specs.declared.take.Take.{Take}
use Rattle.commit_payloads.specs.Forms.{IsProgress}
use Rattle.state_model.specs.Dataset.{Dataset, State, content, dataset_of}
use Rattle.state_model.specs.Follows.{FitsStored, MovesOn, all_fit, is_row_of}
use Rattle.state_steps.specs.Parts.{KeepsText, stored_origin}
use Rattle.state_steps.specs.Shapes.{is_shaped}
use Rattle.state_steps.proofs.Lookups.{some_same}
use Rattle.state_steps.proofs.RowShapes.{content_fits, since_fits}
use Rattle.store_fitness.specs.Fitness.{IsSourceNow}
use Rattle.flow_news.specs.declared.offer.FolderListing.{FolderListing}
use Rattle.flow_news.specs.declared.offer.FolderListing.TheVariants as folder
use Rattle.flow_news.specs.declared.offer.Offer.TheVariants.{Ready}
use Rattle.append_offers.specs.Offers.{Comes, OfFiles, OfFolder, OfListed, OfOrigin, OfReads, OfSource, OfTable, OfVersion, batch_of, batch_stop}
use Rattle.flow_news.proofs.CountLemmas.{made_ready}
use Rattle.flow_news.proofs.PlaceLemmas.{moves_on}
use Rattle.flow_news.proofs.ReadyLemmas.{ReadyTable}

-- rows of a source with these columns, and the position behind them
pub record AreNext (state : State) (from : Origin) (columns : List Column) (old behind : Cursor) (rows : List Row) : Type 0 where
  pub moves : MovesOn state (stored_origin from) old behind
  pub ends : IsSourceNow state (stored_origin from) behind
  pub form : IsProgress behind
  pub fit : all_fit columns rows ≡ true

-- such rows, of which a batch was made
pub record Made (state : State) (from : Origin) (columns : List Column) (part : Part) (flow : AppendFlow) (kept : List Tally) (old : Cursor) (batch : Take) : Type 0 where
  pub rows : List Row
  pub behind : Cursor
  pub are_next : AreNext state from columns old behind rows
  pub runs : batch_stop flow part.expectations kept rows ≡ None
  pub batch_is : batch ≡ batch_of part flow behind rows

-- ---- the columns of a source

columns_by : (b : Bool) (source : Part) (columns : List Column) → (if b then Some source.columns else None) ≡ Some columns → source.columns ≡ columns
columns_by true source columns e = some_same source.columns columns e
columns_by false source columns e = cc

source_by : (plan : List Part) (level : ℕ) (name : List ℕ) (columns : List Column) (o : Option Part) → dataset_named plan name ≡ o
    → option_and_then (λ source. if nat_lt source.level level && is_append source.body then Some source.columns else None) o ≡ Some columns
    → (source : Part) × (dataset_named plan name ≡ Some source) × (source.columns ≡ columns)
source_by plan level name columns None is e = cc
source_by plan level name columns (Some source) is e = (source, is, columns_by (nat_lt source.level level && is_append source.body) source columns e)

-- a flow over a dataset reads the columns of the plan's dataset of that name
pub source_named : (plan : List Part) (level : ℕ) (name : List ℕ) (columns : List Column) → flow_columns plan level (origin.Table name) ≡ Some columns → (source : Part) × (dataset_named plan name ≡ Some source) × (source.columns ≡ columns)
source_named plan level name columns e = source_by plan level name columns (dataset_named plan name) refl e

-- ---- rows of a dataset

shaped : (state : State) (d : Dataset) → FitsStored state d → is_shaped d ≡ true
shaped state d fits = and_from (all_fit d.definition.columns d.table.rows) (list_all (λ change. all_fit d.definition.columns change.added) d.table.changes) fits.rows_fit fits.changes_fit

some_source : (P : Dataset → Type 0) (o : Option Dataset) (d : Dataset) → o ≡ Some d → P d → IsSomeAnd o P
some_source P o d e p = subst (λ w. IsSomeAnd w P) (sym e) p

module _ (plan : List Part) (state : State) (name : List ℕ) (source : Part) (d : Dataset) (there : dataset_of state name ≡ Some d) (ready : ReadyTable plan state source d) where
  in_columns : (rows : List Row) → all_fit d.definition.columns rows ≡ true → all_fit source.columns rows ≡ true
  in_columns rows fit = subst (λ columns. all_fit columns rows ≡ true) (ap (λ definition. definition.columns) ready.defined) fit

  first_next : AreNext state (origin.Table name) source.columns Never (At (now_of d.table)) (in_row_order (content_now d.table))
  first_next = record {
    moves = some_source _ (dataset_of state name) d there (omega arith);
    ends = some_source _ (dataset_of state name) d there refl;
    form = tt;
    fit =
        let all = content_fits d (shaped state d ready.fits) in in_columns (in_row_order (content_now d.table)) (all_in_order (is_row_of d.definition.columns) (content d) all);
  }

  version_next : (version : ℕ) → IsKept d.table version → AreNext state (origin.Table name) source.columns (At version) (At (now_of d.table)) (all_added (changes_since d.table version))
  version_next version is_kept = record {
    moves = (is_kept.1, some_source _ (dataset_of state name) d there (omega arith));
    ends = some_source _ (dataset_of state name) d there refl;
    form = tt;
    fit = in_columns (all_added (changes_since d.table version)) (since_fits d (shaped state d ready.fits) version);
  }

-- ---- a batch of them

module _ (state : State) (part : Part) (flow : AppendFlow) (kept : List Tally) (read : ℕ) (batch : Take) where
  made_of : (from : Origin) (columns : List Column) (old behind : Cursor) (rows : List Row) → AreNext state from columns old behind rows → Comes part flow kept old rows behind (Ready read batch) → Made state from columns part flow kept old batch
  made_of from columns old behind rows next (inl idle) = let wrong = idle.1 in cc
  made_of from columns old behind rows next (inr comes) =
      let made = made_ready (batch_stop flow part.expectations kept rows) _ read (batch_of part flow behind rows) batch comes.1 in
      record { rows = rows; behind = behind; are_next = next; runs = made.0; batch_is = made.2 }

  -- of a dataset
  module _ (plan : List Part) (name : List ℕ) (source : Part) (d : Dataset) (there : dataset_of state name ≡ Some d) (ready : ReadyTable plan state source d) where
    version_made : (version : ℕ) → OfVersion part flow kept d.table version (Ready read batch) → Made state (origin.Table name) source.columns part flow kept (At version) batch
    version_made version (inl unfit) = let wrong = unfit.1 in cc
    version_made version (inr comes) = made_of (origin.Table name) source.columns (At version) _ _ (version_next plan state name source d there ready version comes.0) comes.1

    table_made : (old : Cursor) → OfTable part flow kept d.table old (Ready read batch) → Made state (origin.Table name) source.columns part flow kept old batch
    table_made Never comes = made_of (origin.Table name) source.columns Never _ _ (first_next plan state name source d there ready) comes
    table_made (At version) comes = version_made version comes
    table_made (Files places) unfit = cc

    source_made : (o : Option Dataset) (old : Cursor) → o ≡ Some d → OfSource part flow kept o old (Ready read batch) → Made state (origin.Table name) source.columns part flow kept old batch
    source_made None old is comes = cc
    source_made (Some other) old is comes = table_made old (subst (λ w. OfTable part flow kept w.table old (Ready read batch)) (some_same other d is) comes)

  -- of files
  module _ (tells : Type 0) (was now : ℕ) (files : List LandingFile) (shape : Shape) (dir : List ℕ) (keeps : keeps_text shape ≡ true) where
    reads_made : (listing : List Listed) (places : List FilePlace) → IsPlaces places → OfReads tells was now files part flow kept shape dir listing places (Ready read batch)
        → Made state (origin.Files dir shape) shape.columns part flow kept (Files places) batch
    reads_made listing places form (inl failed) = let wrong = failed.0 in cc
    reads_made listing places form (inr (rows, behind, are, comes)) =
        made_of (origin.Files dir shape) shape.columns (Files places) (Files behind) rows (record { moves = moves_on places behind form are.later; ends = tt; form = are.form; fit = are.fit keeps }) comes

    listed_made : (listing : List Listed) (places : List FilePlace) (short : Option Listed) → IsPlaces places → OfListed tells was now files part flow kept shape dir listing places short (Ready read batch)
        → Made state (origin.Files dir shape) shape.columns part flow kept (Files places) batch
    listed_made listing places (Some short) form halted = cc
    listed_made listing places None form comes = reads_made listing places form comes

    folder_made : (listing : FolderListing) (places : List FilePlace) → IsPlaces places → OfFolder tells was now files part flow kept shape dir listing places (Ready read batch)
        → Made state (origin.Files dir shape) shape.columns part flow kept (Files places) batch
    folder_made folder.NoFolder places form never = absurd never
    folder_made (folder.Failed before after) places form halted = cc
    folder_made (folder.Files listing) places form comes = listed_made listing places (shrunk places listing) form comes

    files_made : (listing : FolderListing) (old : Cursor) → OfFiles tells was now files part flow kept shape dir listing old (Ready read batch) → Made state (origin.Files dir shape) shape.columns part flow kept old batch
    files_made listing (Files places) (inl unfit) = let wrong = unfit.1 in cc
    files_made listing (Files places) (inr comes) = folder_made listing places comes.0 comes.1
    files_made listing (At version) unfit = cc
    files_made listing Never unfit = cc

  -- by what the flow reads
  module _ (tells : Type 0) (was now : ℕ) (files : List LandingFile) (plan : List Part) (level : ℕ) (listing : FolderListing) (old : Cursor) where
    in_source : (from : Origin) (columns source : List Column) → source ≡ columns → Made state from source part flow kept old batch → Made state from columns part flow kept old batch
    in_source from columns source is made = subst (λ w. Made state from w part flow kept old batch) is made

    pub origin_made : (from : Origin) (columns : List Column) → flow_columns plan level from ≡ Some columns → KeepsText from
        → ((name : List ℕ) (source : Part) → dataset_named plan name ≡ Some source → (d : Dataset) × (dataset_of state name ≡ Some d) × ReadyTable plan state source d)
        → OfOrigin tells was now files part flow kept state listing old from (Ready read batch) → Made state from columns part flow kept old batch
    origin_made (origin.Files dir shape) columns reads keeps ready comes =
        in_source (origin.Files dir shape) columns shape.columns (some_same shape.columns columns reads) (files_made tells was now files shape dir keeps listing old comes)
    origin_made (origin.Table name) columns reads keeps ready comes =
        let found = source_named plan level name columns reads in
        let source = ready name found.0 found.1 in
        in_source (origin.Table name) columns found.0.columns found.2 (source_made plan name found.0 source.0 source.1 source.2 (dataset_of state name) old source.1 comes)
