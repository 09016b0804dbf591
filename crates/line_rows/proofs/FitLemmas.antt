-- Each row has one value a column, NULL or of its kind.
use Rattle.std.proofs.Common.{◌≡◌, ℕ, zero, suc, ◌+◌, ◌-◌, List, [], ◌∷◌, ◌++◌, map, take, length, Bool, true, false, not, ◌&&◌, ◌==◌, cond, Option, Some, None, refl, ap, subst, inl, inr, arith}
use Rattle.std.specs.Cmp.{first_so, second_so}
use Rattle.std.proofs.lemmas.Bool.{cases_Bool}
use Rattle.std.specs.Prelude.{unwrap_or, option_map, option_and_then}
use Rattle.std.specs.List.{enumerate_from}
use Rattle.std.specs.Option.{option_map_or}
use Rattle.std.specs.Str.{is_utf8}
use Rattle.serde_json.specs.Data.{Data}
use Rattle.serde_json.specs.Find.{get, as_bool}
use Rattle.csv.specs.Records.{field_at}
use Rattle.value_core.specs.Casts.{cast_text, trimmed, boolean_of, number_in}
use Rattle.value_core.specs.Fits.{is_int, is_big, value_fits, row_fits}
use Rattle.value_core.specs.Order.{Row}
use Rattle.value_core.specs.declared.cursor.Format.{Format}
use Rattle.value_core.specs.declared.cursor.Format.TheVariants as format
use Rattle.value_core.specs.declared.schema.Column.{Column}
use Rattle.value_core.specs.declared.shape.Shape.{Shape}
use Rattle.value_core.specs.declared.value.Kind.{Kind}
use Rattle.value_core.specs.declared.value.Kind.TheVariants as kind
use Rattle.value_core.specs.declared.value.Value.{Value}
use Rattle.value_core.specs.declared.value.Value.TheVariants.{Null, Bool as Truth, Int, Big, Str}
use Rattle.line_rows.specs.declared.csv_line.Source.{Source}
use Rattle.line_rows.specs.declared.reading.Reading.{Reading}
use Rattle.line_rows.specs.Csv as csv
use Rattle.line_rows.specs.Json as json
use Rattle.line_rows.specs.Lines.{columns_of, has_rescued, rescued_value, reading_of_line, row_of, kinds_of, is_text_kind, ends_in_text, keeps_text}
use Rattle.line_rows.specs.Readings.{malformed}

-- ---- one value

null_fits : (k : Kind) → value_fits k Null ≡ true
null_fits kind.Bool = refl
null_fits kind.Int = refl
null_fits kind.Big = refl
null_fits kind.Str = refl

-- each value that `make` makes is of the kind
option_fits : {A : Type 0} (k : Kind) (make : A → Value) → ((a : A) → value_fits k (make a) ≡ true) → (found : Option A) → value_fits k (unwrap_or (option_map make found) Null) ≡ true
option_fits k make fits None = null_fits k
option_fits k make fits (Some a) = fits a

choice_fits : (k : Kind) (test : Bool) (a b : Option Value) → value_fits k (unwrap_or a Null) ≡ true → value_fits k (unwrap_or b Null) ≡ true
    → value_fits k (unwrap_or (cond test a b) Null) ≡ true
choice_fits k true a b a_fits b_fits = a_fits
choice_fits k false a b a_fits b_fits = b_fits

-- what is taken of what was found fits, and so does the NULL where nothing was
found_fits : {A : Type 0} (k : Kind) (taken : A → Option Value) → ((a : A) → value_fits k (unwrap_or (taken a) Null) ≡ true) → (found : Option A)
    → value_fits k (unwrap_or (option_map_or taken found (Some Null)) Null) ≡ true
found_fits k taken fits None = null_fits k
found_fits k taken fits (Some a) = fits a

cast_fits : (k : Kind) (text : List ℕ) → value_fits k (unwrap_or (cast_text k text) Null) ≡ true
cast_fits kind.Str text = refl
cast_fits kind.Bool text = option_fits kind.Bool Truth (λ b. refl) (boolean_of (trimmed text))
cast_fits kind.Int text = option_fits kind.Int Int (λ n. refl) (number_in is_int (trimmed text))
cast_fits kind.Big text = option_fits kind.Big Big (λ n. refl) (number_in is_big (trimmed text))

kind_fits : (k : Kind) (value : Data) → value_fits k (unwrap_or (json.kind_value k value) Null) ≡ true
kind_fits kind.Bool value = option_fits kind.Bool Truth (λ b. refl) (as_bool value)
kind_fits kind.Int value = option_fits kind.Int Int (λ n. refl) (json.int_in (json.whole value))
kind_fits kind.Big value = option_fits kind.Big Big (λ n. refl) (json.whole value)
kind_fits kind.Str value = option_fits kind.Str Str (λ text. refl) (json.text_of value)

json_fits : (k : Kind) (value : Data) → value_fits k (unwrap_or (json.json_value k value) Null) ≡ true
json_fits k value = choice_fits k (json.is_null value) (Some Null) (json.kind_value k value) (null_fits k) (kind_fits k value)

member_fits : (found : Data) (column : Column) → value_fits column.kind (unwrap_or (json.json_member found column) Null) ≡ true
member_fits found column = found_fits column.kind (json.json_value column.kind) (json_fits column.kind) (get column.name found)

text_fits : (k : Kind) (field : List ℕ) → value_fits k (unwrap_or (csv.text_value k field) Null) ≡ true
text_fits k field = choice_fits k (is_utf8 field) (cast_text k field) None (cast_fits k field) (null_fits k)

field_fits : (k : Kind) (field : List ℕ) → value_fits k (unwrap_or (csv.field_value k field) Null) ≡ true
field_fits k field = choice_fits k (length field == 0) (Some Null) (csv.text_value k field) (null_fits k) (text_fits k field)

source_fits : (fields : List (List ℕ)) (source : Source) → value_fits source.kind (unwrap_or (csv.csv_field fields source) Null) ≡ true
source_fits fields source = found_fits source.kind (csv.field_value source.kind) (field_fits source.kind) (option_and_then (field_at fields) source.place)

-- ---- the values of a reading

taken_fit : {X : Type 0} (kind_of : X → Kind) (taken : X → Option Value) → ((x : X) → value_fits (kind_of x) (unwrap_or (taken x) Null) ≡ true) → (xs : List X)
    → row_fits (map kind_of xs) (map (λ value. unwrap_or value Null) (map taken xs)) ≡ true
taken_fit kind_of taken fits [] = refl
taken_fit kind_of taken fits (x ∷ xs) = rw (fits x) (taken_fit kind_of taken fits xs)

malformed_fits : (columns : List Column) → row_fits (kinds_of columns) (map (λ column. Null) columns) ≡ true
malformed_fits [] = refl
malformed_fits (column ∷ columns) = rw (null_fits column.kind) (malformed_fits columns)

reading_fits : {A : Type 0} (columns : List Column) (reading : A → Reading) → ((a : A) → row_fits (kinds_of columns) (reading a).values ≡ true) → (found : Option A)
    → row_fits (kinds_of columns) (option_map_or reading found (malformed columns)).values ≡ true
reading_fits columns reading fits None = malformed_fits columns
reading_fits columns reading fits (Some a) = fits a

json_reading_fits : (columns : List Column) (line : List ℕ) → row_fits (kinds_of columns) (json.json_reading columns line).values ≡ true
json_reading_fits columns line =
    reading_fits columns (json.object_reading columns) (λ found. taken_fit (λ (column : Column). column.kind) (json.json_member found) (member_fits found) columns) (json.object_of line)

-- a source is of its column's kind
source_kinds : (header : Option (List (List ℕ))) (n : ℕ) (columns : List Column)
    → map (λ (source : Source). source.kind) (map (csv.source_of header) (enumerate_from n columns)) ≡ kinds_of columns
source_kinds header n [] = refl
source_kinds header n (column ∷ columns) = ap (λ kinds. column.kind ∷ kinds) (source_kinds header (n + 1) columns)

record_fits : (columns : List Column) (header : Option (List (List ℕ))) (fields : List (List ℕ)) → row_fits (kinds_of columns) (csv.record_reading columns header fields).values ≡ true
record_fits columns header fields =
    let values = map (λ value. unwrap_or value Null) (map (csv.csv_field fields) (csv.sources_of header columns)) in
    subst (λ kinds. row_fits kinds values ≡ true) (source_kinds header 0 columns)
    (taken_fit (λ (source : Source). source.kind) (csv.csv_field fields) (source_fits fields) (csv.sources_of header columns))

csv_reading_fits : (sep : ℕ) (columns : List Column) (head : Option (List ℕ)) (line : List ℕ) → row_fits (kinds_of columns) (csv.csv_reading sep columns head line).values ≡ true
csv_reading_fits sep columns head line =
    reading_fits columns (csv.record_reading columns (csv.header_of sep head)) (record_fits columns (csv.header_of sep head)) (csv.fields_in sep line)

line_fits : (shape : Shape) (head : Option (List ℕ)) (line : List ℕ) (f : Format) → row_fits (kinds_of (columns_of shape)) (reading_of_line shape head line f).values ≡ true
line_fits shape head line format.Json = json_reading_fits (columns_of shape) line
line_fits shape head line format.Csv = csv_reading_fits shape.sep (columns_of shape) head line

-- ---- the rescued column

text_kind : (k : Kind) (last : Value) → is_text_kind k ≡ true → value_fits kind.Str last ≡ true → value_fits k last ≡ true
text_kind kind.Str last is_text fits = fits
text_kind kind.Bool last is_text fits = cc
text_kind kind.Int last is_text fits = cc
text_kind kind.Big last is_text fits = cc

last_fits : (n : ℕ) (columns : List Column) (values : Row) (last : Value) → length columns ≡ suc n → ends_in_text columns ≡ true → value_fits kind.Str last ≡ true
    → row_fits (kinds_of (take n columns)) values ≡ true → row_fits (kinds_of columns) (values ++ last ∷ []) ≡ true
last_fits n [] values last len is_text fits others = absurd (omega (arith, len))
last_fits zero (c ∷ []) [] last len is_text fits others = rw (text_kind c.kind last is_text fits) refl
last_fits zero (c ∷ []) (v ∷ vs) last len is_text fits others = cc
last_fits zero (c ∷ d ∷ cs) values last len is_text fits others = absurd (omega (arith, len))
last_fits (suc n) (c ∷ []) values last len is_text fits others = absurd (omega (arith, len))
last_fits (suc n) (c ∷ d ∷ cs) [] last len is_text fits others = cc
last_fits (suc n) (c ∷ d ∷ cs) (v ∷ vs) last len is_text fits others =
    let first = first_so (value_fits c.kind v) (row_fits (kinds_of (take n (d ∷ cs))) vs) others in
    let second = second_so (value_fits c.kind v) (row_fits (kinds_of (take n (d ∷ cs))) vs) others in
    rw (first, last_fits n (d ∷ cs) vs last (omega (arith, len)) is_text fits second) refl

rescued_fits : (line : List ℕ) (is_rescued : Bool) → value_fits kind.Str (rescued_value line is_rescued) ≡ true
rescued_fits line true = refl
rescued_fits line false = refl

one_more : (n : ℕ) → (n == 0) ≡ false → n ≡ suc (n - 1)
one_more zero some = cc
one_more (suc n) some = omega arith

some_columns : (rescued none : Bool) → (rescued && not none) ≡ true → none ≡ false
some_columns true true is = cc
some_columns true false is = refl
some_columns false none is = cc

pub row_fits_columns : (shape : Shape) (head : Option (List ℕ)) (line : List ℕ) → keeps_text shape ≡ true → row_fits (kinds_of shape.columns) (row_of shape head line) ≡ true
row_fits_columns shape head line keeps =
    let others = line_fits shape head line shape.format in
    let reading = reading_of_line shape head line shape.format in
    elim (cases_Bool (has_rescued shape)) [
      | inl is ↦
          let some : (length shape.columns == 0) ≡ false = some_columns shape.rescued (length shape.columns == 0) is in
          let text : ends_in_text shape.columns ≡ true = rw is at keeps in
          let all_others : row_fits (kinds_of (take (length shape.columns - 1) shape.columns)) reading.values ≡ true = rw is at others in
          rw is (last_fits (length shape.columns - 1) shape.columns reading.values (rescued_value line reading.is_rescued) (one_more (length shape.columns) some) text (rescued_fits line reading.is_rescued) all_others)
      | inr isnt ↦ rw isnt (rw isnt at others)
    ]
