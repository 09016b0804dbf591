-- The current rows of a change feed, kept as stamps key by key.
use Rattle.std.specs.Prelude.{◌≡◌, ◌+◌, List, [], ◌∷◌, ℕ, Bool, true, ◌||◌, if◌then◌else◌, fold, filter_map, Option, Some, None, unwrap_or}
use Rattle.std.specs.BTreeMap.{is_at}
use Rattle.std.specs.Map.{lookup, values_of}
use Rattle.value_core.specs.declared.event.Event.{Event}
use Rattle.value_core.specs.Bags.{count_of}
use Rattle.value_core.specs.EventOrder.{is_truncate}
use Rattle.value_core.specs.Order.{Row, row_order, same_row}
use Rattle.cdc_scd1.specs.Stamps.{Cell, Stamps, no_event, row_told, stamped, unset}
use Rattle.cdc_arrivals.specs.Arrivals.{AreOfOwnMoments, HaveWidth, heard}

-- what contracts see of current rows: whether IGNORE NULL UPDATES holds, the greatest sequence of a truncate, and for each
-- key the stamps of its own events
pub record Keeping : Type 0 where
  pub ignore_null : Bool
  pub truncated : Option Row
  pub keys : List (Row × Stamps)

abbrev pub keeping : Bool → Option Row → List (Row × Stamps) → Keeping
keeping ignore_null truncated keys = record { ignore_null = ignore_null; truncated = truncated; keys = keys }

-- by this rule, no event yet
abbrev pub nothing_kept : Bool → Keeping
nothing_kept ignore_null = record { ignore_null = ignore_null; truncated = None; keys = [] }

-- the stamps of a key's own events, beside the greatest truncate
abbrev pub under : Option Row → Stamps → Stamps
under truncated stamps = record { truncated = truncated; deleted = stamps.deleted; upserted = stamps.upserted; cells = stamps.cells }

-- the stamps of a key's own events; a key that has none was never set
abbrev pub own_stamps : Row → List (Row × Stamps) → Stamps
own_stamps key keys = unwrap_or (lookup (is_at (row_order key)) keys) no_event

-- the stamps of a key
abbrev pub stamps_at : Row → Keeping → Stamps
stamps_at key kept = under kept.truncated (own_stamps key kept.keys)

-- what is kept is what these events leave, in whatever order they came: for each key the stamps of its events and of all truncates
abbrev pub Keeps : Keeping → List Event → Type 0
Keeps kept events = (key : Row) → stamps_at key kept ≡ fold (stamped kept.ignore_null) no_event (heard key events)

-- no two events of a key, and no two truncates, are of one sequence, and all upserts are of one width
pub record HaveOwnMoments (events : List Event) : Type 0 where
  pub wide : ℕ
  pub widths : HaveWidth wide events
  pub apart : (key : Row) → AreOfOwnMoments (heard key events)

-- a truncate has no key
abbrev pub AreKeyless : List Event → Type 0
AreKeyless [] = Unit {0}
AreKeyless (event ∷ events) = (is_truncate event ≡ true → event.key ≡ []) × AreKeyless events

-- ---- one step

-- the rows that stamps tell beside the greatest truncate
abbrev pub rows_under : Option Row → List Stamps → List Row
rows_under truncated states = filter_map (λ stamps. row_told (under truncated stamps)) states

-- the rows of what is kept, in the order of their keys
abbrev pub rows_kept : Keeping → List Row
rows_kept kept = rows_under kept.truncated (values_of kept.keys)

-- a key has these stamps now, and the others have what they had
abbrev pub SetsKey : Row → Stamps → List (Row × Stamps) → List (Row × Stamps) → Type 0
SetsKey key stamps old new = (other : Row) → own_stamps other new ≡ (if same_row key other then stamps else own_stamps other old)

-- one event more: the stamps of its key have it, and after a truncate those of all keys
abbrev pub Takes : Event → Keeping → Keeping → Type 0
Takes event old new = (key : Row) → stamps_at key new ≡ (if is_truncate event || same_row event.key key then stamped old.ignore_null (stamps_at key old) event else stamps_at key old)

-- with these rows gone and those there, the old rows are the new ones
abbrev pub IsBalanced : List Row → List Row → List Row → List Row → Type 0
IsBalanced old new removed added = (row : Row) → count_of row removed + count_of row new ≡ count_of row added + count_of row old

-- an option as a list of one or none
abbrev pub only : {A : Type 0} → Option A → List A
only None = []
only (Some x) = x ∷ []

-- the first cell, if there is one
abbrev pub first_cell : List Cell → Cell
first_cell [] = unset
first_cell (cell ∷ cells) = cell

-- the cells behind the first
abbrev pub later_cells : List Cell → List Cell
later_cells [] = []
later_cells (cell ∷ cells) = cells
