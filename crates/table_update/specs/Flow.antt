-- What the flow of a table finds in its folder, and how it may end.
use Rattle.std.specs.Prelude.{◌≡◌, ◌≢◌, ℕ, ◌+◌, ◌<◌, ◌≤◌, ◌^◌, List, [], ◌∷◌, ◌++◌, length, Option, Some, None}
use Rattle.value_core.specs.declared.cursor.FilePlace.{FilePlace}
use Rattle.landing_core.specs.declared.landing.LandingFile.{LandingFile}
use Rattle.landing_core.specs.declared.landing.Listed.{Listed}
use Rattle.landing_core.specs.Folders.{listing_of}
use Rattle.landing_core.specs.Fresh as fresh
use Rattle.landing_core.specs.Places.{place_of}
use Rattle.landing_history.specs.Taken.{LandedLine, with_heads}
use Rattle.commit_records.specs.declared.payload.Payload.{Payload}
use Rattle.commit_records.specs.Payloads.{spelled_payload}
use Rattle.store_state.specs.State.{Dataset, version_of}
use Rattle.table_update.specs.declared.end.UpdateEnd.{UpdateEnd}
use Rattle.table_update.specs.declared.end.UpdateEnd.TheVariants.{Full, VersionFull, CommitFailed, LandingFailed, Shrunk, Current, Completed, Memory}
use Rattle.table_update.specs.declared.table.AppendTable.{AppendTable}
use Rattle.table_update.specs.Table.{take_of}

-- ---- what is new

-- what the table's folder lists
abbrev pub listing : AppendTable → List LandingFile → List Listed
listing table files = listing_of table.folder files

-- the first listed file that is shorter than how far it was read
abbrev pub shrunk : AppendTable → List LandingFile → List FilePlace → Option Listed
shrunk table files places = fresh.shrunk places (listing table files)

-- the lines between these places and the reach of the listing, each under the head of its file
abbrev pub lines : AppendTable → List LandingFile → List FilePlace → List LandedLine
lines table files places =
    with_heads (fresh.heads_of table.shape.format table.shape.header table.folder files (listing table files))
    (fresh.new_lines table.shape.format table.shape.header table.folder files places 0 (listing table files))

-- how far the listed files are read then
abbrev pub reach : AppendTable → List LandingFile → List FilePlace → List FilePlace
reach table files places = fresh.reach table.folder files places (listing table files)

-- the payload by which the table takes what is new
abbrev pub batch : AppendTable → List LandingFile → List FilePlace → Payload
batch table files places = take_of table (lines table files places) (reach table files places)

-- no listed file is shorter than how far it was read, and there is more to read
pub record HasNews (table : AppendTable) (files : List LandingFile) (places : List FilePlace) : Type 0 where
  pub none_shrank : shrunk table files places ≡ None
  pub moves : reach table files places ≢ places

-- ---- room

-- the place of the closed gate behind a payload's record, where the record's gate is at this place
abbrev pub behind : ℕ → Payload → ℕ
behind at payload = at + 9 + length (spelled_payload payload)

-- a file of so much room takes the record and the closed gate behind it
abbrev pub HasRoom : ℕ → ℕ → Payload → Type 0
HasRoom room at payload = behind at payload + 1 ≤ room

-- it doesn't: with them it would end past its room
abbrev pub IsPastRoom : ℕ → ℕ → Payload → ℕ → ℕ → Type 0
IsPastRoom room at payload end limit = (room < end) × (end ≡ behind at payload + 1) × (limit ≡ room)

-- ---- how the flow ends

-- a version is left for the table
abbrev pub HasVersion : Dataset → Type 0
HasVersion dataset = version_of dataset < 2 ^ 62

-- there is something new, and it can be committed
pub record MayTake (table : AppendTable) (files : List LandingFile) (room at : ℕ) (dataset : Dataset) (places : List FilePlace) : Type 0 where
  pub news : HasNews table files places
  pub version : HasVersion dataset
  pub room_for : HasRoom room at (batch table files places)

-- the ends where there is nothing to take: nothing is new, or that couldn't be read
abbrev pub FindsNone : AppendTable → List LandingFile → List FilePlace → UpdateEnd → Type 0
FindsNone table files places LandingFailed = Unit {0}
FindsNone table files places (Shrunk file cursor size) =
    (shrunk table files places ≡ Some (record { file = file; size = size })) × (cursor ≡ place_of places file)
FindsNone table files places Current = (shrunk table files places ≡ None) × (reach table files places ≡ places)
FindsNone table files places Memory = Unit {0}
FindsNone table files places end = ⊥

-- the ends before a commit of what is new is tried
abbrev pub Stops : AppendTable → List LandingFile → ℕ → ℕ → Dataset → List FilePlace → UpdateEnd → Type 0
Stops table files room at dataset places (Full end limit) =
    HasNews table files places × HasVersion dataset × IsPastRoom room at (batch table files places) end limit
Stops table files room at dataset places (VersionFull name) = HasNews table files places × (name ≡ table.name) × (2 ^ 62 ≤ version_of dataset)
Stops table files room at dataset places end = FindsNone table files places end

-- the end tells how many lines were taken, and the version that the table has with them
abbrev pub CountsLines : AppendTable → List LandingFile → Dataset → List FilePlace → ℕ → ℕ → Type 0
CountsLines table files dataset places read version = (read ≡ length (lines table files places)) × (version ≡ version_of dataset + 1)

-- How the flow ends, from the state in which its table and places are these and `before` was acknowledged: which payloads
-- were acknowledged then, and which were tried.
abbrev pub FlowEnds : AppendTable → List LandingFile → ℕ → ℕ → Dataset → List FilePlace → List Payload → List Payload → List Payload → UpdateEnd → Type 0
FlowEnds table files room at dataset places before acked tried (Completed read version) =
    MayTake table files room at dataset places × CountsLines table files dataset places read version
    × (acked ≡ before ++ batch table files places ∷ []) × (tried ≡ before ++ batch table files places ∷ [])
FlowEnds table files room at dataset places before acked tried CommitFailed =
    MayTake table files room at dataset places × (acked ≡ before) × (tried ≡ before ++ batch table files places ∷ [])
FlowEnds table files room at dataset places before acked tried end = Stops table files room at dataset places end × (acked ≡ before) × (tried ≡ before)
