-- The fields of a record.
use Rattle.std.proofs.Common.{◌≡◌, ℕ, zero, suc, ◌+◌, ◌<◌, List, [], ◌∷◌, drop, length, Bool, true, false, ◌||◌, Option, Some, None, refl, arith}
use Rattle.std.specs.Prelude.{bytes_eq, position, not, ◌==◌}
use Rattle.std.specs.List.{position_from, list_any, enumerate_from}
use Rattle.std.specs.Option.{option_map_or}
use Rattle.std.specs.Str.{is_utf8}
use Rattle.std.proofs.lemmas.Iterator.Adapters.{position_from-zero}
use Rattle.csv.specs.Machine.{Read, next_record}
use Rattle.csv.specs.Reading.{NextIs, ReadsNext, strip_bom}
use Rattle.csv.specs.Records.{field_at}
use Rattle.csv.specs.declared.parser.Config.{Config}
use Rattle.csv.specs.declared.parser.State.{State}
use Rattle.csv.specs.declared.parser.State.TheVariants.{StartRecord}
use Rattle.line_rows.specs.Csv.{has_mark, is_malformed, is_name, is_stray, is_stray_at}
use Rattle.line_rows.specs.declared.csv_line.Source.{Source}

-- the field at a place is the first of those from there on
field-here : (fields : List (List ℕ)) (i : ℕ) → i < length fields → (x : List ℕ) × (field_at fields i ≡ Some x) × (drop i fields ≡ x ∷ drop (i + 1) fields)
unfolding field_at
field-here [] i lt = absurd (omega arith)
field-here (f ∷ fs) zero lt = (f, refl, refl)
field-here (f ∷ fs) (suc i) lt =
    let step : suc i + 1 ≡ suc (i + 1) = omega arith in
    rw step (field-here fs i (omega arith))

-- ---- names in a header

pub place_start : (name : List ℕ) (fields : List (List ℕ)) → position (λ field. bytes_eq field name) fields ≡ position_from (λ field. bytes_eq field name) 0 fields
place_start name fields = position_from-zero (λ field. bytes_eq field name) fields

pub place_more : (name : List ℕ) (fields : List (List ℕ)) (i : ℕ) → i < length fields → is_name name (field_at fields i) ≡ false
    → position_from (λ field. bytes_eq field name) i (drop i fields) ≡ position_from (λ field. bytes_eq field name) (i + 1) (drop (i + 1) fields)
place_more name fields i lt other =
    let (x, is, rest) = field-here fields i lt in
    let not_x : bytes_eq x name ≡ false = rw is at other in
    rw (rest, not_x) refl

pub place_found : (name : List ℕ) (fields : List (List ℕ)) (i : ℕ) → i < length fields → is_name name (field_at fields i) ≡ true
    → position_from (λ field. bytes_eq field name) i (drop i fields) ≡ Some i
place_found name fields i lt same =
    let (x, is, rest) = field-here fields i lt in
    let is_x : bytes_eq x name ≡ true = rw is at same in
    rw (rest, is_x) refl

-- ---- fields that no column takes

pub stray_more : (sources : List Source) (fields : List (List ℕ)) (i : ℕ) → i < length fields → is_stray_at sources i (field_at fields i) ≡ false
    → list_any (is_stray sources) (enumerate_from i (drop i fields)) ≡ list_any (is_stray sources) (enumerate_from (i + 1) (drop (i + 1) fields))
stray_more sources fields i lt fine =
    let (x, is, rest) = field-here fields i lt in
    let x_fine : is_stray sources (i, x) ≡ false = rw is at fine in
    rw (rest, x_fine) refl

pub stray_found : (sources : List Source) (fields : List (List ℕ)) (i : ℕ) → i < length fields → is_stray_at sources i (field_at fields i) ≡ true
    → list_any (is_stray sources) (enumerate_from i (drop i fields)) ≡ true
stray_found sources fields i lt stray =
    let (x, is, rest) = field-here fields i lt in
    let x_stray : is_stray sources (i, x) ≡ true = rw is at stray in
    rw (rest, x_stray) refl

-- ---- the record of a line

unmarked : (line : List ℕ) → has_mark line ≡ false → strip_bom line ≡ line
unfolding strip_bom
unmarked [] none = refl
unmarked (a ∷ []) none = refl
unmarked (a ∷ b ∷ []) none = refl
unmarked (a ∷ b ∷ c ∷ rest) none = rw none refl

last_of_three : (a b c : Bool) → (a || b || c) ≡ false → c ≡ false
last_of_three true b c e = cc
last_of_three false true c e = cc
last_of_three false false c e = e

-- a line that isn't malformed begins with no byte order mark
pub no_mark : (line : List ℕ) → is_malformed line ≡ false → strip_bom line ≡ line
no_mark line sound = unmarked line (last_of_three (not (is_utf8 line)) (list_any (λ b. b == 13) line) (has_mark line) sound)

next-found : (next : Option Read) (found : Bool) (fields : List (List ℕ)) (s : State) (rest : List ℕ) → NextIs next found fields s rest → found ≡ true → fields ≡ option_map_or (λ read. read.0) next []
next-found None found fields s rest is yes_found = let impossible : false ≡ true = rw is at yes_found in cc
next-found (Some read) found fields s rest is yes_found = is.1

next-none : (next : Option Read) (found : Bool) (fields : List (List ℕ)) (s : State) (rest : List ℕ) → NextIs next found fields s rest → found ≡ false → [] ≡ option_map_or (λ read. read.0) next []
next-none None found fields s rest is none_found = refl
next-none (Some read) found fields s rest is none_found = let impossible : true ≡ false = rw is.0 at none_found in cc

pub record-found : (settings : Config) (line : List ℕ) (after : Option (List ℕ)) (found : Bool) (fields : List (List ℕ)) (s : State)
    → ReadsNext settings StartRecord (Some line) after found fields s → found ≡ true → fields ≡ option_map_or (λ read. read.0) (next_record settings StartRecord [] [] line) []
record-found settings line None found fields s reads is = absurd reads
record-found settings line (Some rest) found fields s reads is = next-found (next_record settings StartRecord [] [] line) found fields s rest reads is

pub record-none : (settings : Config) (line : List ℕ) (after : Option (List ℕ)) (found : Bool) (fields : List (List ℕ)) (s : State)
    → ReadsNext settings StartRecord (Some line) after found fields s → found ≡ false → [] ≡ option_map_or (λ read. read.0) (next_record settings StartRecord [] [] line) []
record-none settings line None found fields s reads is = absurd reads
record-none settings line (Some rest) found fields s reads is = next-none (next_record settings StartRecord [] [] line) found fields s rest reads is
