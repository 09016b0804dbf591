-- What a flow reads next.
use Rattle.std.specs.Prelude.{◌≡◌, ⊤, ℕ, true, List, [], map, Option, Some, None}
use Rattle.value_core.specs.declared.cursor.FilePlace.{FilePlace}
use Rattle.value_core.specs.declared.shape.Shape.{Shape}
use Rattle.value_core.specs.FilePlaces.{IsPlaces}
use Rattle.value_core.specs.Order.{Row}
use Rattle.net_changes.specs.Chains.{all_added}
use Rattle.table_versions.specs.Versions.{Versions, IsKept, changes_since}
use Rattle.landing_core.specs.declared.fresh.Fresh.{Fresh}
use Rattle.landing_core.specs.declared.landing.LandingFile.{LandingFile}
use Rattle.landing_core.specs.declared.landing.Listed.{Listed}
use Rattle.landing_core.specs.Folders.{AreThere, listed_names}
use Rattle.landing_core.specs.Fresh.{heads_of, new_lines, reach}
use Rattle.landing_core.specs.Names.{AreAscending}
use Rattle.landing_core.specs.Places.{NoneFalls}
use Rattle.landing_history.specs.Taken.{with_heads}
use Rattle.line_rows.specs.Lines.{keeps_text}
use Rattle.plan_core.specs.declared.flow.Origin.{Origin}
use Rattle.plan_core.specs.declared.flow.Origin.TheVariants as origin
use Rattle.row_flow.specs.Rows.{line_row}
use Rattle.state_model.specs.Follows.{all_fit}
use Rattle.state_steps.specs.Consumed.{row_of_line}
use Rattle.flow_news.specs.declared.offer.FolderListing.{FolderListing}
use Rattle.flow_news.specs.declared.offer.FolderListing.TheVariants as folder

-- ---- of files

-- a folder was listed so: names ascend, and where the landing tells, each listed file is there with its listed size or more
abbrev pub IsListing : Type 0 → List ℕ → List LandingFile → FolderListing → Type 0
IsListing tells dir files (folder.Files listing) = AreAscending (listed_names listing) × (tells → AreThere dir files listing)
IsListing tells dir files (folder.Failed before after) = ⊤
IsListing tells dir files folder.NoFolder = ⊥

-- the same of the folder of an origin, if it is one
abbrev pub IsListingFor : Type 0 → Origin → List LandingFile → FolderListing → Type 0
IsListingFor tells (origin.Files dir shape) files listing = IsListing tells dir files listing
IsListingFor tells (origin.Table name) files listing = ⊤

-- the rows of the lines of a folder that are new behind these places: files in the order of the listing, and lines in order
abbrev pub new_rows : Shape → List ℕ → List LandingFile → List Listed → List FilePlace → List Row
new_rows shape dir files listing places =
    map (row_of_line shape) (with_heads (heads_of shape.format shape.header dir files listing) (new_lines shape.format shape.header dir files places 0 listing))

-- Rows that were read of listed files behind these places, and the places behind the rows: whatever the landing tells, these
-- are places again of which none fell, and the rows fit the columns, where a rescued column is a STRING; where it tells, the
-- rows are all new ones up to the reach of the listing.
pub record AreRead (tells : Type 0) (shape : Shape) (dir : List ℕ) (files : List LandingFile) (listing : List Listed) (places : List FilePlace) (rows : List Row) (behind : List FilePlace) : Type 0 where
  pub rows_are : tells → rows ≡ new_rows shape dir files listing places
  pub reach_is : tells → behind ≡ reach dir files places listing
  pub form : IsPlaces behind
  pub later : NoneFalls places behind
  pub fit : keeps_text shape ≡ true → all_fit shape.columns rows ≡ true

-- the rows of lines that were read, by the shape of an origin's files
abbrev pub rows_read : Origin → Fresh → List Row
rows_read (origin.Files dir shape) fresh = map (line_row shape fresh.heads) fresh.lines
rows_read (origin.Table name) fresh = []

-- ---- of a dataset

-- the rows that were added after a version, change by change; none where the version isn't kept
abbrev pub AreSince : Versions → ℕ → Option (List Row) → Type 0
AreSince table version None = IsKept table version → ⊥
AreSince table version (Some rows) = IsKept table version × (rows ≡ all_added (changes_since table version))
