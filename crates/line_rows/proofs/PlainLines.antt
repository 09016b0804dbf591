-- A line without a quote reads as its pieces between separators.
use Rattle.std.proofs.Common.{◌≡◌, ◌∙◌, ℕ, ◌<◌, List, [], ◌∷◌, ◌++◌, Bool, true, false, ◌&&◌, ◌||◌, Option, Some, refl, sym, ap, arith, length}
use Rattle.std.specs.Prelude.{not, ◌==◌}
use Rattle.std.specs.List.{list_any, onto_first, slice_split}
use Rattle.std.specs.Option.{option_map_or}
use Rattle.std.specs.Str.{is_utf8}
use Rattle.std.proofs.lemmas.List.{append-nil, append_assoc}
use Rattle.std.proofs.lemmas.List.Splits.{length-slice_split}
use Rattle.csv.specs.Machine.{Read, next_record, step}
use Rattle.csv.specs.declared.parser.State.TheVariants.{StartRecord, StartField, InField}
use Rattle.line_rows.specs.Csv.{fields_read, has_mark, is_malformed, is_plain, settings}

-- ---- bytes that are neither a quote nor the end of a line

abbrev Lacks : ℕ → List ℕ → Type 0
Lacks byte x = list_any (λ b. b == byte) x ≡ false

record Plain (x : List ℕ) : Type 0 where
  no_quote : Lacks 34 x
  no_feed : Lacks 10 x
  no_return : Lacks 13 x

left_false : (a b : Bool) → (a || b) ≡ false → a ≡ false
left_false false b e = refl
left_false true b e = cc

right_false : (a b : Bool) → (a || b) ≡ false → b ≡ false
right_false false b e = e
right_false true b e = cc

plain_tail : (c : ℕ) (x : List ℕ) → Plain (c ∷ x) → Plain x
plain_tail c x plain = record {
  no_quote = right_false (c == 34) (list_any (λ b. b == 34) x) plain.no_quote;
  no_feed = right_false (c == 10) (list_any (λ b. b == 10) x) plain.no_feed;
  no_return = right_false (c == 13) (list_any (λ b. b == 13) x) plain.no_return;
}

-- ---- each of them does at the start of a field and of a record what it does in a field

field_step : (sep c : ℕ) (x : List ℕ) → Plain (c ∷ x) → step (settings sep) StartField c ≡ step (settings sep) InField c
field_step sep c x plain = rw (left_false (c == 34) (list_any (λ b. b == 34) x) plain.no_quote) refl

record_step : (sep c : ℕ) (x : List ℕ) → Plain (c ∷ x) → step (settings sep) StartRecord c ≡ step (settings sep) InField c
record_step sep c x plain =
    rw (left_false (c == 34) (list_any (λ b. b == 34) x) plain.no_quote, left_false (c == 10) (list_any (λ b. b == 10) x) plain.no_feed, left_false (c == 13) (list_any (λ b. b == 13) x) plain.no_return) refl

-- ---- so a line is cut at each separator

-- pieces, the first of them behind the bytes of the field at hand
abbrev behind : List ℕ → List (List ℕ) → List (List ℕ)
behind field [] = field ∷ []
behind field (part ∷ parts) = (field ++ part) ∷ parts

behind_none : (parts : List (List ℕ)) → 0 < length parts → behind [] parts ≡ parts
behind_none [] some = absurd (omega arith)
behind_none (part ∷ parts) some = refl

behind_more : (field : List ℕ) (c : ℕ) (parts : List (List ℕ)) → 0 < length parts → behind (field ++ (c ∷ [])) parts ≡ behind field (onto_first c parts)
behind_more field c [] some = absurd (omega arith)
behind_more field c (part ∷ parts) some = ap (λ first. first ∷ parts) (append_assoc field (c ∷ []) part)

-- what is read where the fields are these
abbrev Gives : Option Read → List (List ℕ) → Type 0
Gives next fields = next ≡ Some (fields, StartRecord, [])

started : (sep : ℕ) (fields : List (List ℕ)) (field x : List ℕ) → Plain x → next_record (settings sep) StartField fields field x ≡ next_record (settings sep) InField fields field x
unfolding next_record
started sep fields field [] plain = refl
started sep fields field (c ∷ x) plain = rw (field_step sep c x plain) refl

pieces_some : (sep : ℕ) (x : List ℕ) → 0 < length (slice_split (λ b. b == sep) x)
pieces_some sep x = omega (arith, length-slice_split (λ b. b == sep) x)

-- a byte that is or isn't the separator, where the bytes behind it are cut so
piece : (sep : ℕ) (fields : List (List ℕ)) (field : List ℕ) (c : ℕ) (x : List ℕ) → Plain (c ∷ x)
    → ((fields : List (List ℕ)) (field : List ℕ) → Gives (next_record (settings sep) InField fields field x) (fields ++ behind field (slice_split (λ b. b == sep) x)))
    → (hit : Bool) → (c == sep) ≡ hit → Gives (next_record (settings sep) InField fields field (c ∷ x)) (fields ++ behind field (slice_split (λ b. b == sep) (c ∷ x)))
unfolding next_record
piece sep fields field c x plain rest true is = rw is (
    started sep (fields ++ (field ∷ [])) [] x (plain_tail c x plain)
    ∙ rest (fields ++ (field ∷ [])) []
    ∙ ap (λ all. Some (all, StartRecord, [])) (
    append_assoc fields (field ∷ []) (behind [] (slice_split (λ b. b == sep) x))
    ∙ ap (λ parts. fields ++ (field ∷ parts)) (behind_none (slice_split (λ b. b == sep) x) (pieces_some sep x))
    ∙ ap (λ first. fields ++ (first ∷ slice_split (λ b. b == sep) x)) (sym (append-nil field))))
piece sep fields field c x plain rest false is = rw (is, left_false (c == 10) (list_any (λ b. b == 10) x) plain.no_feed, left_false (c == 13) (list_any (λ b. b == 13) x) plain.no_return) (
    rest fields (field ++ (c ∷ []))
    ∙ ap (λ parts. Some (fields ++ parts, StartRecord, [])) (behind_more field c (slice_split (λ b. b == sep) x) (pieces_some sep x)))

pieces : (sep : ℕ) (fields : List (List ℕ)) (field x : List ℕ) → Plain x
    → Gives (next_record (settings sep) InField fields field x) (fields ++ behind field (slice_split (λ b. b == sep) x))
unfolding next_record
pieces sep fields field [] plain = ap (λ last. Some (fields ++ (last ∷ []), StartRecord, [])) (sym (append-nil field))
pieces sep fields field (c ∷ x) plain = piece sep fields field c x plain (λ fields field. pieces sep fields field x (plain_tail c x plain)) (c == sep) refl

record_pieces : (sep : ℕ) (x : List ℕ) → 0 < length x → Plain x → Gives (next_record (settings sep) StartRecord [] [] x) (slice_split (λ b. b == sep) x)
unfolding next_record
record_pieces sep [] some plain = absurd (omega arith)
record_pieces sep (c ∷ x) some plain = rw (record_step sep c x plain) (
    pieces sep [] [] (c ∷ x) plain
    ∙ ap (λ all. Some (all, StartRecord, [])) (behind_none (slice_split (λ b. b == sep) (c ∷ x)) (pieces_some sep (c ∷ x))))

-- ---- in the words of lines

not_true : (a : Bool) → not a ≡ true → a ≡ false
not_true false e = refl
not_true true e = cc

left_true : (a b : Bool) → (a && b) ≡ true → a ≡ true
left_true true b e = refl
left_true false b e = cc

right_true : (a b : Bool) → (a && b) ≡ true → b ≡ true
right_true true b e = e
right_true false b e = cc

some_bytes : (line : List ℕ) → not (length line == 0) ≡ true → 0 < length line
some_bytes [] e = cc
some_bytes (c ∷ line) e = omega arith

-- the fields of a line without a quote are its pieces
pub plain_line : (sep : ℕ) (line : List ℕ) → is_malformed line ≡ false → is_plain line ≡ true → slice_split (λ b. b == sep) line ≡ fields_read sep line
plain_line sep line sound plain =
    let held : list_any (λ b. b == 34) line ≡ false = not_true _ (right_true (not (length line == 0)) _ (left_true (not (length line == 0) && not (list_any (λ b. b == 34) line)) _ plain)) in
    let fed : list_any (λ b. b == 10) line ≡ false = not_true _ (right_true (not (length line == 0) && not (list_any (λ b. b == 34) line)) _ plain) in
    let some : not (length line == 0) ≡ true = left_true _ _ (left_true (not (length line == 0) && not (list_any (λ b. b == 34) line)) _ plain) in
    let returned : list_any (λ b. b == 13) line ≡ false = right_false (not (is_utf8 line)) _ (left_false (not (is_utf8 line) || list_any (λ b. b == 13) line) (has_mark line) sound) in
    let facts : Plain line = record { no_quote = held; no_feed = fed; no_return = returned } in
    sym (ap (λ next. option_map_or (λ read. read.0) next []) (record_pieces sep line (some_bytes line some) facts))
