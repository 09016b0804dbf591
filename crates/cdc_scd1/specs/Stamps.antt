-- The current row of a key, told by the greatest sequences of its events and by a stamp a column.
use Rattle.std.specs.Prelude.{◌≡◌, List, [], ◌∷◌, Bool, true, false, not, ◌&&◌, if◌then◌else◌, map, Option, Some, None}
use Rattle.std.specs.declared.cmp.Ordering.TheVariants.{Less}
use Rattle.std.specs.Ordering.{is_gt}
use Rattle.value_core.specs.declared.event.Event.{Event}
use Rattle.value_core.specs.declared.event.EventKind.{EventKind}
use Rattle.value_core.specs.declared.event.EventKind.TheVariants.{Upsert, Delete, Truncate}
use Rattle.value_core.specs.declared.value.Value.{Value}
use Rattle.value_core.specs.declared.value.Value.TheVariants.{Null}
use Rattle.value_core.specs.Order.{Row, row_order, is_null}

-- the value of a column, and the sequence of the upsert that set it, if one did
pub record Cell : Type 0 where
  pub value : Value
  pub stamp : Option Row

-- the greatest sequences of the events of a key and of all truncates, kind by kind, and the key's columns
pub record Stamps : Type 0 where
  pub truncated : Option Row
  pub deleted : Option Row
  pub upserted : Option Row
  pub cells : List Cell

abbrev pub no_event : Stamps
no_event = record { truncated = None; deleted = None; upserted = None; cells = [] }

-- a sequence is above the known one, if there is one
abbrev pub is_later : Option Row → Row → Bool
is_later None sequence = true
is_later (Some known) sequence = is_gt (row_order sequence known)

-- a sequence isn't below the known one, if there is one
abbrev pub isnt_before : Option Row → Row → Bool
isnt_before None sequence = true
isnt_before (Some known) sequence = not (is_gt (row_order known sequence))

-- the greater of the known sequence and this one
abbrev pub latest : Option Row → Row → Option Row
latest known sequence = if is_later known sequence then Some sequence else known

-- a column that an upsert sets, unless a later one did, or it is NULL and NULL is ignored
abbrev pub cell_after : Bool → Row → Value → Cell → Cell
cell_after ignore_null sequence value cell =
    if ignore_null && is_null value then cell else (if is_later cell.stamp sequence then record { value = value; stamp = Some sequence } else cell)

abbrev pub unset : Cell
unset = record { value = Null; stamp = None }

abbrev pub cells_after : Bool → Row → List Value → List Cell → List Cell
cells_after ignore_null sequence [] cells = []
cells_after ignore_null sequence (value ∷ values) [] = cell_after ignore_null sequence value unset ∷ cells_after ignore_null sequence values []
cells_after ignore_null sequence (value ∷ values) (cell ∷ cells) = cell_after ignore_null sequence value cell ∷ cells_after ignore_null sequence values cells

abbrev pub stamped_by : Bool → Stamps → Event → EventKind → Stamps
stamped_by ignore_null stamps event Truncate = record { truncated = latest stamps.truncated event.sequence; deleted = stamps.deleted; upserted = stamps.upserted; cells = stamps.cells }
stamped_by ignore_null stamps event Delete = record { truncated = stamps.truncated; deleted = latest stamps.deleted event.sequence; upserted = stamps.upserted; cells = stamps.cells }
stamped_by ignore_null stamps event Upsert =
    record {
      truncated = stamps.truncated;
      deleted = stamps.deleted;
      upserted = latest stamps.upserted event.sequence;
      cells = cells_after ignore_null event.sequence event.columns stamps.cells;
    }

-- the stamps with one event more
abbrev pub stamped : Bool → Stamps → Event → Stamps
stamped ignore_null stamps event = stamped_by ignore_null stamps event event.kind

-- what was set at a sequence is there still: no delete is at or above it, and no truncate above it
abbrev pub outlives : Option Row → Option Row → Option Row → Bool
outlives deleted truncated None = false
outlives deleted truncated (Some sequence) = is_later deleted sequence && isnt_before truncated sequence

abbrev pub shown : Option Row → Option Row → Cell → Value
shown deleted truncated cell = if outlives deleted truncated cell.stamp then cell.value else Null

-- the row that stamps tell, if its latest upsert is there still
abbrev pub row_told : Stamps → Option Row
row_told stamps = if outlives stamps.deleted stamps.truncated stamps.upserted then Some (map (shown stamps.deleted stamps.truncated) stamps.cells) else None

-- ---- histories in their order

-- a sequence is below another, or for a truncate before an event of the key not above it
abbrev pub IsBeforeBy : EventKind → EventKind → Row → Row → Type 0
IsBeforeBy Truncate Upsert first second = is_gt (row_order first second) ≡ false
IsBeforeBy Truncate Delete first second = is_gt (row_order first second) ≡ false
IsBeforeBy Truncate Truncate first second = row_order first second ≡ Less
IsBeforeBy Upsert kind first second = row_order first second ≡ Less
IsBeforeBy Delete kind first second = row_order first second ≡ Less

abbrev pub AllBehind : Event → List Event → Type 0
AllBehind first [] = Unit {0}
AllBehind first (second ∷ later) = IsBeforeBy first.kind second.kind first.sequence second.sequence × AllBehind first later

-- each event stands behind those before it
abbrev pub AreInTurn : List Event → Type 0
AreInTurn [] = Unit {0}
AreInTurn (event ∷ later) = AllBehind event later × AreInTurn later
