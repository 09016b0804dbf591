-- Which values a type may hold: numbers have so many bits, and texts are UTF-8.
use Rattle.std.specs.Prelude.{◌≡◌, ℕ, ◌<◌, ◌^◌, List, length, true, ⊤, FitsSigned}
use Rattle.std.specs.Int.{w32, w64}
use Rattle.std.specs.List.{AllByRecursion}
use Rattle.std.specs.Str.{is_utf8}
use Rattle.value_core.specs.declared.value.Value.{Value}
use Rattle.value_core.specs.declared.value.Value.TheVariants.{Null, Bool as Truth, Int, Big, Str}
use Rattle.value_core.specs.declared.schema.Column.{Column}
use Rattle.value_core.specs.declared.event.Event.{Event}
use Rattle.value_core.specs.declared.change.Change.{Change}
use Rattle.value_core.specs.declared.change.Tally.{Tally}
use Rattle.value_core.specs.declared.cursor.FilePlace.{FilePlace}
use Rattle.value_core.specs.declared.cursor.Cursor.{Cursor}
use Rattle.value_core.specs.declared.cursor.Cursor.TheVariants.{Files, At, Never}
use Rattle.value_core.specs.Order.{Row}

abbrev pub IsByte : ℕ → Type 0
IsByte byte = byte < 256

abbrev pub IsNumber : ℕ → Type 0
IsNumber n = n < 2 ^ 64

abbrev pub IsText : List ℕ → Type 0
IsText text = IsNumber (length text) × (is_utf8 text ≡ true)

abbrev pub IsList : {A : Type 0} → (A → Type 0) → List A → Type 0
IsList Is items = IsNumber (length items) × AllByRecursion Is items

abbrev pub IsValue : Value → Type 0
IsValue Null = ⊤
IsValue (Truth b) = ⊤
IsValue (Int n) = FitsSigned w32 n
IsValue (Big n) = FitsSigned w64 n
IsValue (Str text) = IsText text

abbrev pub IsRow : Row → Type 0
IsRow = IsList IsValue

abbrev pub AreRows : List Row → Type 0
AreRows = IsList IsRow

abbrev pub IsEvent : Event → Type 0
IsEvent event = ((⊤ × IsRow event.sequence) × IsRow event.key) × IsRow event.columns

abbrev pub IsColumn : Column → Type 0
IsColumn column = IsText column.name × ⊤

abbrev pub IsPlace : FilePlace → Type 0
IsPlace known = IsText known.file × IsNumber known.place

abbrev pub IsCursor : Cursor → Type 0
IsCursor (Files places) = IsList IsPlace places
IsCursor (At version) = IsNumber version
IsCursor Never = ⊤

abbrev pub IsChange : Change → Type 0
IsChange change = AreRows change.removed × AreRows change.added

abbrev pub IsTally : Tally → Type 0
IsTally count = IsNumber count.passed × IsNumber count.failed
