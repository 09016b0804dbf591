-- How values are spelled in bytes.
use Rattle.std.specs.Prelude.{ℕ, List, [], ◌∷◌, ◌++◌, length, true, false}
use Rattle.std.specs.Int.{w32, w64, to_be_bytes, cast_unsigned}
use Rattle.std.specs.List.{flat_map}
use Rattle.value_core.specs.declared.value.Value.{Value}
use Rattle.value_core.specs.declared.value.Value.TheVariants.{Null, Bool as Truth, Int, Big, Str}
use Rattle.value_core.specs.declared.value.Kind.{Kind}
use Rattle.value_core.specs.declared.value.Kind.TheVariants as kind
use Rattle.value_core.specs.declared.schema.Column.{Column}
use Rattle.value_core.specs.declared.event.Event.{Event}
use Rattle.value_core.specs.declared.event.EventKind.{EventKind}
use Rattle.value_core.specs.declared.event.EventKind.TheVariants.{Upsert, Delete, Truncate}
use Rattle.value_core.specs.declared.change.Change.{Change}
use Rattle.value_core.specs.declared.change.Tally.{Tally}
use Rattle.value_core.specs.declared.cursor.FilePlace.{FilePlace}
use Rattle.value_core.specs.declared.cursor.Cursor.{Cursor}
use Rattle.value_core.specs.declared.cursor.Cursor.TheVariants.{Files, At, Never}
use Rattle.value_core.specs.Order.{Row}

abbrev pub spelled_byte : ℕ → List ℕ
spelled_byte byte = byte ∷ []

-- a number is 8 bytes, the highest first
unfoldable pub spelled_number : ℕ → List ℕ
spelled_number n = to_be_bytes w64 n

-- half as many, for an INT
unfoldable pub spelled_half : ℕ → List ℕ
spelled_half n = to_be_bytes w32 n

-- a text is the number of its bytes, and these bytes
abbrev pub spelled_text : List ℕ → List ℕ
spelled_text text = spelled_number (length text) ++ text

-- a list is the number of its items, and the items
abbrev pub spelled_list : {A : Type 0} → (A → List ℕ) → List A → List ℕ
spelled_list spelled items = spelled_number (length items) ++ flat_map spelled items

-- a value is a byte for its kind, and what it holds; numbers in two's complement
abbrev pub spelled_value : Value → List ℕ
spelled_value Null = 0 ∷ []
spelled_value (Truth false) = 1 ∷ []
spelled_value (Truth true) = 2 ∷ []
spelled_value (Int n) = 3 ∷ spelled_half (cast_unsigned w32 n)
spelled_value (Big n) = 4 ∷ spelled_number (cast_unsigned w64 n)
spelled_value (Str text) = 5 ∷ spelled_text text

abbrev pub spelled_row : Row → List ℕ
spelled_row = spelled_list spelled_value

abbrev pub spelled_rows : List Row → List ℕ
spelled_rows = spelled_list spelled_row

-- ---- what commits carry beside rows

abbrev pub event_kind_byte : EventKind → ℕ
event_kind_byte Upsert = 1
event_kind_byte Delete = 2
event_kind_byte Truncate = 3

abbrev pub spelled_event_kind : EventKind → List ℕ
spelled_event_kind kind = event_kind_byte kind ∷ []

abbrev pub spelled_event : Event → List ℕ
spelled_event event = spelled_event_kind event.kind ++ spelled_row event.sequence ++ spelled_row event.key ++ spelled_row event.columns

abbrev pub kind_byte : Kind → ℕ
kind_byte kind.Bool = 1
kind_byte kind.Int = 2
kind_byte kind.Big = 3
kind_byte kind.Str = 4

abbrev pub spelled_kind : Kind → List ℕ
spelled_kind kind = kind_byte kind ∷ []

abbrev pub spelled_column : Column → List ℕ
spelled_column column = spelled_text column.name ++ spelled_kind column.kind

abbrev pub spelled_place : FilePlace → List ℕ
spelled_place known = spelled_text known.file ++ spelled_number known.place

abbrev pub spelled_cursor : Cursor → List ℕ
spelled_cursor (Files places) = 0 ∷ spelled_list spelled_place places
spelled_cursor (At version) = 1 ∷ spelled_number version
spelled_cursor Never = 2 ∷ []

abbrev pub spelled_change : Change → List ℕ
spelled_change change = spelled_rows change.removed ++ spelled_rows change.added

abbrev pub spelled_tally : Tally → List ℕ
spelled_tally count = spelled_number count.passed ++ spelled_number count.failed
