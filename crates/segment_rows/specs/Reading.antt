-- Reading bytes from the front.
use Rattle.std.specs.Prelude.{◌≡◌, ℕ, zero, suc, List, [], ◌∷◌, length, take, drop, ◌≤◌, true, false, nat_lt, if◌then◌else◌, ◌==◌, Option, Some, None}
use Rattle.std.specs.Int.{Width, w32, w64, byte_len, from_be_bytes, cast_signed}
use Rattle.std.specs.Str.{is_utf8}
use Rattle.value_core.specs.declared.value.Value.{Value}
use Rattle.value_core.specs.declared.value.Value.TheVariants.{Null, Bool as Truth, Int, Big, Str}
use Rattle.value_core.specs.declared.value.Kind.{Kind}
use Rattle.value_core.specs.declared.value.Kind.TheVariants as kind
use Rattle.value_core.specs.declared.schema.Column.{Column}
use Rattle.value_core.specs.declared.event.Event.{Event}
use Rattle.value_core.specs.declared.event.EventKind.{EventKind}
use Rattle.value_core.specs.declared.event.EventKind.TheVariants.{Upsert, Delete, Truncate}
use Rattle.value_core.specs.declared.change.Change.{Change}
use Rattle.value_core.specs.declared.change.Tally.{Tally}
use Rattle.value_core.specs.declared.cursor.FilePlace.{FilePlace}
use Rattle.value_core.specs.declared.cursor.Cursor.{Cursor}
use Rattle.value_core.specs.declared.cursor.Cursor.TheVariants.{Files, At, Never}
use Rattle.value_core.specs.Order.{Row}

infixl 10 ◌>>=◌
abbrev pub ◌>>=◌ : {A B : Type 0} → Option A → (A → Option B) → Option B
(Some x) >>= f = f x
None >>= f = None

-- What a call that reads at a place found: the value that begins there and the place behind it, or nothing.
abbrev pub Reads : {A : Type 0} → (List ℕ → Option (A × List ℕ)) → List ℕ → ℕ → Option (A × ℕ) → Type 0
Reads reading bytes at None = reading (drop at bytes) ≡ None
Reads reading bytes at (Some found) = (at ≤ found.1) × (found.1 ≤ length bytes) × (reading (drop at bytes) ≡ Some (found.0, drop found.1 bytes))

-- ---- a reading gives a value and the bytes behind it, or nothing

-- the bytes of a width, as a number
unfoldable pub wide_at : Width → List ℕ → Option (ℕ × List ℕ)
wide_at w bytes = if nat_lt (length bytes) (byte_len w) then None else Some (from_be_bytes w (take (byte_len w) bytes), drop (byte_len w) bytes)

abbrev pub number_at : List ℕ → Option (ℕ × List ℕ)
number_at = wide_at w64

abbrev pub half_at : List ℕ → Option (ℕ × List ℕ)
half_at = wide_at w32

unfoldable pub text_at : List ℕ → Option (List ℕ × List ℕ)
text_at bytes = do
  n ← number_at bytes
  if nat_lt (length n.1) n.0 then None else (if is_utf8 (take n.0 n.1) then Some (take n.0 n.1, drop n.0 n.1) else None)

-- so many items, one after the other
unfoldable pub items_at : {A : Type 0} → (List ℕ → Option (A × List ℕ)) → ℕ → List ℕ → Option (List A × List ℕ)
items_at one zero bytes = Some ([], bytes)
items_at one (suc n) bytes = do
  first ← one bytes
  others ← items_at one n first.1
  Some (first.0 ∷ others.0, others.1)

unfoldable pub list_at : {A : Type 0} → (List ℕ → Option (A × List ℕ)) → List ℕ → Option (List A × List ℕ)
list_at one bytes = do
  n ← number_at bytes
  items_at one n.0 n.1

-- two fields, one after the other
abbrev pub both_at : {A B : Type 0} → (List ℕ → Option (A × List ℕ)) → (List ℕ → Option (B × List ℕ)) → List ℕ → Option ((A × B) × List ℕ)
both_at first second bytes = do
  a ← first bytes
  b ← second a.1
  Some ((a.0, b.0), b.1)

-- what is made of the parts that were read
abbrev pub made_at : {A B : Type 0} → (A → B) → (List ℕ → Option (A × List ℕ)) → List ℕ → Option (B × List ℕ)
made_at make reading bytes = do
  a ← reading bytes
  Some (make a.0, a.1)

-- one byte
unfoldable pub byte_at : List ℕ → Option (ℕ × List ℕ)
byte_at [] = None
byte_at (byte ∷ rest) = Some (byte, rest)

-- what a byte stands for
unfoldable pub coded_at : {A : Type 0} → (ℕ → Option A) → List ℕ → Option (A × List ℕ)
coded_at meaning bytes = do
  byte ← byte_at bytes
  a ← meaning byte.0
  Some (a, byte.1)

-- a byte that says how to read on
unfoldable pub tagged_at : {A : Type 0} → (ℕ → List ℕ → Option (A × List ℕ)) → List ℕ → Option (A × List ℕ)
tagged_at by bytes = do
  tag ← byte_at bytes
  by tag.0 tag.1

abbrev pub value_by : ℕ → List ℕ → Option (Value × List ℕ)
value_by tag rest =
    if tag == 0 then Some (Null, rest)
    else (if tag == 1 then Some (Truth false, rest)
    else (if tag == 2 then Some (Truth true, rest)
    else (if tag == 3 then made_at (λ n. Int (cast_signed w32 n)) half_at rest
    else (if tag == 4 then made_at (λ n. Big (cast_signed w64 n)) number_at rest
    else (if tag == 5 then made_at Str text_at rest else None)))))

abbrev pub value_at : List ℕ → Option (Value × List ℕ)
value_at = tagged_at value_by

abbrev pub row_at : List ℕ → Option (Row × List ℕ)
row_at = list_at value_at

abbrev pub rows_at : List ℕ → Option (List Row × List ℕ)
rows_at = list_at row_at

-- ---- what commits carry beside rows

abbrev pub event_kind_of : ℕ → Option EventKind
event_kind_of byte = if byte == 1 then Some Upsert else (if byte == 2 then Some Delete else (if byte == 3 then Some Truncate else None))

abbrev pub event_at : List ℕ → Option (Event × List ℕ)
event_at = made_at (λ parts. record { kind = parts.0.0.0; sequence = parts.0.0.1; key = parts.0.1; columns = parts.1 })
    (both_at (both_at (both_at (coded_at event_kind_of) row_at) row_at) row_at)

abbrev pub kind_of : ℕ → Option Kind
kind_of byte = if byte == 1 then Some kind.Bool else (if byte == 2 then Some kind.Int else (if byte == 3 then Some kind.Big else (if byte == 4 then Some kind.Str else None)))

abbrev pub column_at : List ℕ → Option (Column × List ℕ)
column_at = made_at (λ parts. record { name = parts.0; kind = parts.1 }) (both_at text_at (coded_at kind_of))

abbrev pub place_at : List ℕ → Option (FilePlace × List ℕ)
place_at = made_at (λ parts. record { file = parts.0; place = parts.1 }) (both_at text_at number_at)

abbrev pub cursor_by : ℕ → List ℕ → Option (Cursor × List ℕ)
cursor_by tag rest =
    if tag == 0 then made_at Files (list_at place_at) rest
    else (if tag == 1 then made_at At number_at rest
    else (if tag == 2 then Some (Never, rest) else None))

abbrev pub cursor_at : List ℕ → Option (Cursor × List ℕ)
cursor_at = tagged_at cursor_by

abbrev pub change_at : List ℕ → Option (Change × List ℕ)
change_at = made_at (λ parts. record { removed = parts.0; added = parts.1 }) (both_at rows_at rows_at)

abbrev pub tally_at : List ℕ → Option (Tally × List ℕ)
tally_at = made_at (λ parts. record { passed = parts.0; failed = parts.1 }) (both_at number_at number_at)
