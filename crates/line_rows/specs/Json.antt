-- What a JSON line gives (RFC 8259, as `serde_json` reads it).
use Rattle.std.specs.Prelude.{List, ℕ, ℤ, codes, map, bytes_eq, Bool, false, not, ◌&&◌, ◌||◌, if◌then◌else◌, Option, Some, None, is_some, option_map, option_and_then}
use Rattle.std.specs.Fmt.{signed_decimal}
use Rattle.std.specs.List.{list_any}
use Rattle.std.specs.Option.{option_map_or}
use Rattle.std.specs.Str.{is_utf8}
use Rattle.serde_json.specs.Data.{Data, null, boolean, number, string, array, object, Members, no_members, member}
use Rattle.serde_json.specs.Find.{get, as_null, as_bool, as_number, as_object, as_i64}
use Rattle.serde_json.specs.Read.{read}
use Rattle.value_core.specs.Fits.{is_int}
use Rattle.value_core.specs.declared.schema.Column.{Column}
use Rattle.value_core.specs.declared.value.Kind.{Kind}
use Rattle.value_core.specs.declared.value.Kind.TheVariants as kind
use Rattle.value_core.specs.declared.value.Value.{Value}
use Rattle.value_core.specs.declared.value.Value.TheVariants.{Null, Bool as Truth, Int, Big, Str}
use Rattle.line_rows.specs.Readings.{reading_of, malformed}
use Rattle.line_rows.specs.declared.reading.Reading.{Reading}

abbrev pub is_null : Data → Bool
is_null json = is_some (as_null json)

-- a number that `as_i64` gives: it has no fraction and no exponent, isn't `-0`, and 64 bits hold it
abbrev pub whole : Data → Option ℤ
whole json = option_and_then as_i64 (as_number json)

-- such a number that 32 bits hold
abbrev pub int_in : Option ℤ → Option ℤ
int_in found = option_and_then (λ n. if is_int n then Some n else None) found

-- the text of a string, the decimal digits of a whole number, or the word of a boolean
abbrev pub text_of : Data → Option (List ℕ)
text_of null = None
text_of (boolean b) = Some (if b then codes "true" else codes "false")
text_of (number n) = option_map signed_decimal (as_i64 n)
text_of (string text) = Some text
text_of (array _) = None
text_of (object _) = None

-- what a column of a kind takes from a value other than null
abbrev pub kind_value : Kind → Data → Option Value
kind_value kind.Bool json = option_map Truth (as_bool json)
kind_value kind.Int json = option_map Int (int_in (whole json))
kind_value kind.Big json = option_map Big (whole json)
kind_value kind.Str json = option_map Str (text_of json)

-- what a column of a kind takes from a value; none where it refuses it
abbrev pub json_value : Kind → Data → Option Value
json_value kind json = if is_null json then Some Null else kind_value kind json

-- what a column takes from an object: its member's value, and NULL where there is no such member
abbrev pub json_member : Data → Column → Option Value
json_member json column = option_map_or (json_value column.kind) (get column.name json) (Some Null)

-- a column has this name, byte for byte
abbrev pub is_named : List Column → List ℕ → Bool
is_named columns name = list_any (λ column. bytes_eq column.name name) columns

-- a member other than null that no column names
abbrev pub is_stray : List Column → List ℕ × Data → Bool
is_stray columns found = not (is_null found.1) && not (is_named columns found.0)

abbrev pub has_stray : List Column → Members → Bool
has_stray columns no_members = false
has_stray columns (member name json more) = is_stray columns (name, json) || has_stray columns more

-- the members of an object
abbrev pub has_stray_member : List Column → Data → Bool
has_stray_member columns json = option_map_or (has_stray columns) (as_object json) false

abbrev pub object_reading : List Column → Data → Reading
object_reading columns json = reading_of (map (json_member json) columns) (has_stray_member columns json)

-- a value that is an object
abbrev pub if_object : Data → Option Data
if_object json = if is_some (as_object json) then Some json else None

-- the object that a line is, where it is one
abbrev pub object_of : List ℕ → Option Data
object_of line = if is_utf8 line then option_and_then if_object (read line) else None

-- the reading of a line: one that is no object is malformed
abbrev pub json_reading : List Column → List ℕ → Reading
json_reading columns line = option_map_or (object_reading columns) (object_of line) (malformed columns)
