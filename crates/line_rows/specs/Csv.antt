-- What a CSV line gives (RFC 4180, as `csv` reads it).
use Rattle.std.specs.Prelude.{List, [], ℕ, ◌==◌, length, map, position, bytes_eq, slice_index, Bool, false, not, ◌&&◌, ◌||◌, if◌then◌else◌, Option, Some, None, option_map, option_and_then, unwrap_or}
use Rattle.std.specs.List.{list_any, enumerate_from}
use Rattle.std.specs.Option.{option_map_or}
use Rattle.std.specs.Str.{is_utf8}
use Rattle.csv.specs.Machine.{next_record}
use Rattle.csv.specs.Reading.{default_config}
use Rattle.csv.specs.Records.{field_at}
use Rattle.csv.specs.declared.parser.Config.{Config}
use Rattle.csv.specs.declared.parser.State.TheVariants.{StartRecord}
use Rattle.value_core.specs.Casts.{cast_text}
use Rattle.value_core.specs.declared.schema.Column.{Column}
use Rattle.value_core.specs.declared.value.Kind.{Kind}
use Rattle.value_core.specs.declared.value.Value.{Value}
use Rattle.value_core.specs.declared.value.Value.TheVariants.{Null}
use Rattle.line_rows.specs.Readings.{reading_of, malformed}
use Rattle.line_rows.specs.declared.csv_line.Source.{Source}
use Rattle.line_rows.specs.declared.reading.Reading.{Reading}

-- ---- the fields of a line

-- how lines are read: with the separator, fields in double quotes, and two of these for one inside them
abbrev pub settings : ℕ → Config
settings sep = record default_config { delimiter = sep }

-- a line begins with a byte order mark (U+FEFF in UTF-8)
abbrev pub has_mark : List ℕ → Bool
has_mark line = slice_index line 0 == 239 && slice_index line 1 == 187 && slice_index line 2 == 191

-- a line that isn't UTF-8, holds a CR or begins with a byte order mark
abbrev pub is_malformed : List ℕ → Bool
is_malformed line = not (is_utf8 line) || list_any (λ b. b == 13) line || has_mark line

-- a line that has bytes, and no quote and no LF among them
abbrev pub is_plain : List ℕ → Bool
is_plain line = not (length line == 0) && not (list_any (λ b. b == 34) line) && not (list_any (λ b. b == 10) line)

-- the fields of the record that stands first in a line, and no field where none does
abbrev pub fields_read : ℕ → List ℕ → List (List ℕ)
fields_read sep line = option_map_or (λ read. read.0) (next_record (settings sep) StartRecord [] [] line) []

-- the fields of a line that isn't malformed
abbrev pub fields_in : ℕ → List ℕ → Option (List (List ℕ))
fields_in sep line = if is_malformed line then None else Some (fields_read sep line)

-- ---- which field is which column's

-- the names in a header, if there is one; a malformed header has none
abbrev pub header_of : ℕ → Option (List ℕ) → Option (List (List ℕ))
header_of sep head = option_map (λ line. unwrap_or (fields_in sep line) []) head

-- a field that may be missing is this name, byte for byte
abbrev pub is_name : List ℕ → Option (List ℕ) → Bool
is_name name field = option_map_or (λ text. bytes_eq text name) field false

-- the place of a column's field: with a header the first one with the column's name, byte for byte, without one the column's own
abbrev pub place_of : Option (List (List ℕ)) → ℕ → List ℕ → Option ℕ
place_of None own name = Some own
place_of (Some header) own name = position (λ field. bytes_eq field name) header

-- where a column finds its field, and what it takes
abbrev pub source_of : Option (List (List ℕ)) → ℕ × Column → Source
source_of header column = record { kind = column.1.kind; place = place_of header column.0 column.1.name }

abbrev pub sources_of : Option (List (List ℕ)) → List Column → List Source
sources_of header columns = map (source_of header) (enumerate_from 0 columns)

-- ---- what the columns take

-- what CAST gives for a text; a field that is no text, as only a separator that isn't ASCII can make it, is refused
abbrev pub text_value : Kind → List ℕ → Option Value
text_value kind field = if is_utf8 field then cast_text kind field else None

-- what a column of a kind takes from a field: NULL from an empty one
abbrev pub field_value : Kind → List ℕ → Option Value
field_value kind field = if length field == 0 then Some Null else text_value kind field

-- what a column takes from a record: NULL where the field is missing
abbrev pub csv_field : List (List ℕ) → Source → Option Value
csv_field fields source = option_map_or (field_value source.kind) (option_and_then (field_at fields) source.place) (Some Null)

-- a column takes the field at a place
abbrev pub takes : ℕ → Source → Bool
takes place source = option_map_or (λ own. own == place) source.place false

abbrev pub is_taken : List Source → ℕ → Bool
is_taken sources place = list_any (takes place) sources

-- a field that isn't empty and that no column takes
abbrev pub is_stray : List Source → ℕ × List ℕ → Bool
is_stray sources field = not (length field.1 == 0) && not (is_taken sources field.0)

-- the same of a field that may be missing
abbrev pub is_stray_at : List Source → ℕ → Option (List ℕ) → Bool
is_stray_at sources place field = option_map_or (λ text. is_stray sources (place, text)) field false

-- a record has such a field
abbrev pub has_stray_field : List Source → List (List ℕ) → Bool
has_stray_field sources fields = list_any (is_stray sources) (enumerate_from 0 fields)

-- how many fields a record should have: as many as the header, without one as many as there are columns
abbrev pub width_of : Option (List (List ℕ)) → List Column → ℕ
width_of header columns = option_map_or length header (length columns)

-- a record has more or fewer fields than it should have, or one that no column takes
abbrev pub is_unfit : Option (List (List ℕ)) → List Column → List Source → List (List ℕ) → Bool
is_unfit header columns sources fields = not (length fields == width_of header columns) || has_stray_field sources fields

abbrev pub record_reading : List Column → Option (List (List ℕ)) → List (List ℕ) → Reading
record_reading columns header fields =
    let sources = sources_of header columns in
    reading_of (map (csv_field fields) sources) (is_unfit header columns sources fields)

-- the reading of a line, under the header line if there is one
abbrev pub csv_reading : ℕ → List Column → Option (List ℕ) → List ℕ → Reading
csv_reading sep columns head line = option_map_or (record_reading columns (header_of sep head)) (fields_in sep line) (malformed columns)
