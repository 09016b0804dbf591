-- What an append flow of a streaming table comes to before the disk is called.
use Rattle.std.specs.Prelude.{◌≡◌, ◌≢◌, ◌⊎◌, ℕ, List, [], length, Option, Some, None}
use Rattle.std.specs.Option.{option_or}
use Rattle.disk_model.specs.Faults.{Rose}
use Rattle.value_core.specs.declared.change.Tally.{Tally}
use Rattle.value_core.specs.declared.cursor.Cursor.{Cursor}
use Rattle.value_core.specs.declared.cursor.Cursor.TheVariants.{Files, At, Never}
use Rattle.value_core.specs.declared.cursor.FilePlace.{FilePlace}
use Rattle.value_core.specs.declared.shape.Shape.{Shape}
use Rattle.value_core.specs.Bags.{in_row_order}
use Rattle.value_core.specs.Changes.{change_of}
use Rattle.value_core.specs.FilePlaces.{IsPlaces}
use Rattle.value_core.specs.Order.{Row}
use Rattle.net_changes.specs.Chains.{all_added}
use Rattle.table_versions.specs.Versions.{Versions, IsKept, changes_since, content_now, now_of}
use Rattle.landing_core.specs.declared.landing.LandingFile.{LandingFile}
use Rattle.landing_core.specs.declared.landing.Listed.{Listed}
use Rattle.landing_core.specs.Fresh.{shrunk}
use Rattle.landing_core.specs.Places.{place_of}
use Rattle.plan_core.specs.declared.expectation.Expectation.{Expectation}
use Rattle.plan_core.specs.declared.flow.AppendFlow.{AppendFlow}
use Rattle.plan_core.specs.declared.flow.Origin.{Origin}
use Rattle.plan_core.specs.declared.flow.Origin.TheVariants as origin
use Rattle.plan_core.specs.declared.plan.Dataset.{Dataset as Part}
use Rattle.plan_core.specs.declared.stop.Stop.{Stop}
use Rattle.plan_core.specs.declared.stop.Stop.TheVariants.{Shrunk, Landing}
use Rattle.flow_model.specs.Admission.{counts}
use Rattle.flow_model.specs.Append.{append_out, append_seen, append_stop}
use Rattle.flow_model.specs.Counts.{count_stop}
use Rattle.commit_payloads.specs.declared.take.Take.{Take}
use Rattle.state_model.specs.Dataset.{Dataset, State, cursor_of, dataset_of}
use Rattle.flow_news.specs.declared.offer.FolderListing.{FolderListing}
use Rattle.flow_news.specs.declared.offer.FolderListing.TheVariants as folder
use Rattle.flow_news.specs.declared.offer.Offer.{Offer}
use Rattle.flow_news.specs.declared.offer.Offer.TheVariants.{Halted, Idle, Unfit}
use Rattle.flow_news.specs.Finds as found
use Rattle.flow_news.specs.Finds.{Found, Stays, Stops, Lost}
use Rattle.flow_news.specs.Made.{made}
use Rattle.flow_news.specs.News.{AreRead}

-- ---- a batch of rows

-- what stops rows: the first row that has a stop, else the first expectation whose kept counts with the new ones pass 2^63 - 1
abbrev pub batch_stop : AppendFlow → List Expectation → List Tally → List Row → Option Stop
batch_stop flow xs kept rows = option_or (append_stop flow xs rows) (count_stop xs kept (counts xs (append_seen flow xs rows)))

-- the batch of a flow that adds these rows, and has these counts
abbrev pub batch_with : Part → AppendFlow → Cursor → List Row → List Tally → Take
batch_with dataset flow cursor added tallies =
    record { table = dataset.name; flow = flow.name; cursor = cursor; change = change_of [] added; counts = tallies; events = [] }

-- the batch that rows make: those that are kept, in row order, and the counts of all that were judged
abbrev pub batch_of : Part → AppendFlow → Cursor → List Row → Take
batch_of dataset flow cursor rows =
    batch_with dataset flow cursor (in_row_order (append_out flow dataset.expectations rows)) (counts dataset.expectations (append_seen flow dataset.expectations rows))

-- what rows come to, where this is the position behind them
abbrev pub batch_offer : Part → AppendFlow → List Tally → List Row → Cursor → Offer
batch_offer dataset flow kept rows behind = made (batch_stop flow dataset.expectations kept rows) (length rows) (batch_of dataset flow behind rows)

-- rows that follow on a position, and the position behind them: nothing is new exactly where the position stays
abbrev pub Comes : Part → AppendFlow → List Tally → Cursor → List Row → Cursor → Offer → Type 0
Comes dataset flow kept from rows behind offer = ((behind ≡ from) × (offer ≡ Idle)) ⊎ ((behind ≢ from) × (offer ≡ batch_offer dataset flow kept rows behind))

-- ---- a flow that reads a dataset with these versions

-- from a version that is kept: the rows that were added since
abbrev pub OfVersion : Part → AppendFlow → List Tally → Versions → ℕ → Offer → Type 0
OfVersion dataset flow kept table version offer =
    ((IsKept table version → ⊥) × (offer ≡ Unfit))
    ⊎ (IsKept table version × Comes dataset flow kept (At version) (all_added (changes_since table version)) (At (now_of table)) offer)

-- where it never read it: the whole content in row order
abbrev pub OfTable : Part → AppendFlow → List Tally → Versions → Cursor → Offer → Type 0
OfTable dataset flow kept table Never offer = Comes dataset flow kept Never (in_row_order (content_now table)) (At (now_of table)) offer
OfTable dataset flow kept table (At version) offer = OfVersion dataset flow kept table version offer
OfTable dataset flow kept table (Files places) offer = offer ≡ Unfit

-- a source that isn't there fits no flow
abbrev pub OfSource : Part → AppendFlow → List Tally → Option Dataset → Cursor → Offer → Type 0
OfSource dataset flow kept None cursor offer = offer ≡ Unfit
OfSource dataset flow kept (Some source) cursor offer = OfTable dataset flow kept source.table cursor offer

-- ---- a flow that reads files: where the landing tells, these are there, and its count of faults was and is now

module _ (tells : Type 0) (was now : ℕ) (files : List LandingFile) (dataset : Part) (flow : AppendFlow) (kept : List Tally) where
  -- a read failed, and the landing's count rose; or rows were read
  abbrev pub OfReads : Shape → List ℕ → List Listed → List FilePlace → Offer → Type 0
  OfReads shape dir listing places offer =
      ((offer ≡ Halted (Landing was now)) × Rose was now)
      ⊎ ((rows : List Row) × (behind : List FilePlace) × AreRead tells shape dir files listing places rows behind × Comes dataset flow kept (Files places) rows (Files behind) offer)

  -- the first file that is listed shorter than its place halts the flow
  abbrev pub OfListed : Shape → List ℕ → List Listed → List FilePlace → Option Listed → Offer → Type 0
  OfListed shape dir listing places (Some short) offer = offer ≡ Halted (Shrunk short.file (place_of places short.file) short.size)
  OfListed shape dir listing places None offer = OfReads shape dir listing places offer

  -- so does a listing that failed; there is always one
  abbrev pub OfFolder : Shape → List ℕ → FolderListing → List FilePlace → Offer → Type 0
  OfFolder shape dir folder.NoFolder places offer = ⊥
  OfFolder shape dir (folder.Failed before after) places offer = offer ≡ Halted (Landing before after)
  OfFolder shape dir (folder.Files listing) places offer = OfListed shape dir listing places (shrunk places listing) offer

  -- a position in files has ascending names, and places above 0
  abbrev pub OfFiles : Shape → List ℕ → FolderListing → Cursor → Offer → Type 0
  OfFiles shape dir listing (Files places) offer = ((IsPlaces places → ⊥) × (offer ≡ Unfit)) ⊎ (IsPlaces places × OfFolder shape dir listing places offer)
  OfFiles shape dir listing (At version) offer = offer ≡ Unfit
  OfFiles shape dir listing Never offer = offer ≡ Unfit

  -- by what the flow reads
  abbrev pub OfOrigin : State → FolderListing → Cursor → Origin → Offer → Type 0
  OfOrigin state listing cursor (origin.Files dir shape) offer = OfFiles shape dir listing cursor offer
  OfOrigin state listing cursor (origin.Table name) offer = OfSource dataset flow kept (dataset_of state name) cursor offer

-- ---- a flow, by where the store has it

module _ (tells : Type 0) (was now : ℕ) (files : List LandingFile) (dataset : Part) (flow : AppendFlow) (state : State) (listing : FolderListing) where
  -- a flow that the store doesn't have fits none
  abbrev pub OfCursor : List Tally → Option Cursor → Offer → Type 0
  OfCursor kept None offer = offer ≡ Unfit
  OfCursor kept (Some cursor) offer = OfOrigin tells was now files dataset flow kept state listing cursor flow.origin offer

  -- What the flow comes to: by how far the store's dataset of its name has read by it, and by the counts that are kept there.
  abbrev pub IsOffer : Option Dataset → Offer → Type 0
  IsOffer None offer = offer ≡ Unfit
  IsOffer (Some target) offer = OfCursor target.counts (cursor_of target flow.name) offer

-- ---- a flow by its news

-- what a flow comes to by what it found
abbrev pub offer_of : Part → AppendFlow → List Tally → Found → Offer
offer_of dataset flow kept Stays = Idle
offer_of dataset flow kept (found.Comes rows behind) = batch_offer dataset flow kept rows behind
offer_of dataset flow kept (Stops why) = Halted why
offer_of dataset flow kept Lost = Unfit
