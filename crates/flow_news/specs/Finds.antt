-- What a flow finds that goes on from a position.
use Rattle.std.specs.Prelude.{◌≡◌, ◌≢◌, ◌⊎◌, ℕ, List, Option, Some, None}
use Rattle.disk_model.specs.Faults.{Rose}
use Rattle.value_core.specs.declared.cursor.Cursor.{Cursor}
use Rattle.value_core.specs.declared.cursor.Cursor.TheVariants.{Files, At, Never}
use Rattle.value_core.specs.declared.cursor.FilePlace.{FilePlace}
use Rattle.value_core.specs.declared.shape.Shape.{Shape}
use Rattle.value_core.specs.Bags.{in_row_order}
use Rattle.value_core.specs.FilePlaces.{IsPlaces}
use Rattle.value_core.specs.Order.{Row}
use Rattle.net_changes.specs.Chains.{all_added}
use Rattle.table_versions.specs.Versions.{Versions, IsKept, changes_since, content_now, now_of}
use Rattle.landing_core.specs.declared.landing.LandingFile.{LandingFile}
use Rattle.landing_core.specs.declared.landing.Listed.{Listed}
use Rattle.landing_core.specs.Fresh.{shrunk}
use Rattle.landing_core.specs.Places.{place_of}
use Rattle.plan_core.specs.declared.flow.Origin.{Origin}
use Rattle.plan_core.specs.declared.flow.Origin.TheVariants as origin
use Rattle.plan_core.specs.declared.stop.Stop.{Stop}
use Rattle.plan_core.specs.declared.stop.Stop.TheVariants.{Shrunk, Landing}
use Rattle.state_model.specs.Dataset.{Dataset, State, dataset_of}
use Rattle.flow_news.specs.declared.news.News.{News}
use Rattle.flow_news.specs.declared.news.News.TheVariants as news
use Rattle.flow_news.specs.declared.news.NewRows.{NewRows}
use Rattle.flow_news.specs.declared.news.NewRows.TheVariants as given
use Rattle.flow_news.specs.declared.offer.FolderListing.{FolderListing}
use Rattle.flow_news.specs.declared.offer.FolderListing.TheVariants as folder
use Rattle.flow_news.specs.News.{AreRead, rows_read}

-- the position stays; rows follow on it, and this is the position behind them; the landing stops the flow; or it can't go on
pub data Found : Type 0 where
  Stays : Found
  Comes : List Row → Cursor → Found
  Stops : Stop → Found
  Lost : Found

-- the rows of lines that were read, by what the flow reads, or rows of a table
abbrev pub rows_given : Origin → NewRows → List Row
rows_given from (given.Lines fresh) = rows_read from fresh
rows_given from (given.Rows rows) = rows

-- what news say in values alone
abbrev pub found_of : Origin → News → Found
found_of from news.Idle = Stays
found_of from (news.Halted why) = Stops why
found_of from (news.Come rows behind) = Comes (rows_given from rows) behind
found_of from news.Unfit = Lost

-- rows that follow on a position, and the position behind them: nothing is new exactly where the position stays
abbrev pub Follow : Cursor → List Row → Cursor → Found → Type 0
Follow old rows behind found = ((behind ≡ old) × (found ≡ Stays)) ⊎ ((behind ≢ old) × (found ≡ Comes rows behind))

-- ---- of a dataset with these versions

-- from a version that is kept: the rows that were added since
abbrev pub OfVersion : Versions → ℕ → Found → Type 0
OfVersion table version found =
    ((IsKept table version → ⊥) × (found ≡ Lost)) ⊎ (IsKept table version × Follow (At version) (all_added (changes_since table version)) (At (now_of table)) found)

-- where it was never read: the whole content in row order
abbrev pub OfTable : Versions → Cursor → Found → Type 0
OfTable table Never found = Follow Never (in_row_order (content_now table)) (At (now_of table)) found
OfTable table (At version) found = OfVersion table version found
OfTable table (Files places) found = found ≡ Lost

-- a source that isn't there fits no flow
abbrev pub OfSource : Option Dataset → Cursor → Found → Type 0
OfSource None cursor found = found ≡ Lost
OfSource (Some source) cursor found = OfTable source.table cursor found

-- ---- of files: where the landing tells, these are there, and its count of faults was and is now

module _ (tells : Type 0) (was now : ℕ) (files : List LandingFile) where
  -- a read failed, and the landing's count rose; or rows were read
  abbrev pub OfReads : Shape → List ℕ → List Listed → List FilePlace → Found → Type 0
  OfReads shape dir listing places found =
      ((found ≡ Stops (Landing was now)) × Rose was now)
      ⊎ ((rows : List Row) × (behind : List FilePlace) × AreRead tells shape dir files listing places rows behind × Follow (Files places) rows (Files behind) found)

  -- the first file that is listed shorter than its place stops the flow
  abbrev pub OfListed : Shape → List ℕ → List Listed → List FilePlace → Option Listed → Found → Type 0
  OfListed shape dir listing places (Some short) found = found ≡ Stops (Shrunk short.file (place_of places short.file) short.size)
  OfListed shape dir listing places None found = OfReads shape dir listing places found

  -- so does a listing that failed; there is always one
  abbrev pub OfFolder : Shape → List ℕ → FolderListing → List FilePlace → Found → Type 0
  OfFolder shape dir folder.NoFolder places found = ⊥
  OfFolder shape dir (folder.Failed before after) places found = found ≡ Stops (Landing before after)
  OfFolder shape dir (folder.Files listing) places found = OfListed shape dir listing places (shrunk places listing) found

  -- a position in files has ascending names, and places above 0
  abbrev pub OfFiles : Shape → List ℕ → FolderListing → Cursor → Found → Type 0
  OfFiles shape dir listing (Files places) found = ((IsPlaces places → ⊥) × (found ≡ Lost)) ⊎ (IsPlaces places × OfFolder shape dir listing places found)
  OfFiles shape dir listing (At version) found = found ≡ Lost
  OfFiles shape dir listing Never found = found ≡ Lost

  -- What a flow over this origin finds from a position on.
  abbrev pub Finds : State → FolderListing → Cursor → Origin → Found → Type 0
  Finds state listing cursor (origin.Files dir shape) found = OfFiles shape dir listing cursor found
  Finds state listing cursor (origin.Table name) found = OfSource (dataset_of state name) cursor found

-- the same of news
abbrev pub IsNews : Type 0 → ℕ → ℕ → List LandingFile → State → FolderListing → Cursor → Origin → News → Type 0
IsNews tells was now files state listing cursor from news = Finds tells was now files state listing cursor from (found_of from news)
