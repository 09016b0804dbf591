-- The reading of what commits carry beside rows is exact.
use Rattle.std.proofs.Common.{◌≡◌, ℕ, List, [], ◌∷◌, ◌++◌, Some, refl, sym, ap, subst, ◌∙◌, inl, inr}
use Rattle.std.specs.Prelude.{⊤}
use Rattle.value_core.specs.declared.value.Kind.{Kind}
use Rattle.value_core.specs.declared.value.Kind.TheVariants as kind
use Rattle.value_core.specs.declared.schema.Column.{Column}
use Rattle.value_core.specs.declared.event.Event.{Event}
use Rattle.value_core.specs.declared.event.EventKind.{EventKind}
use Rattle.value_core.specs.declared.event.EventKind.TheVariants.{Upsert, Delete, Truncate}
use Rattle.value_core.specs.declared.change.Change.{Change}
use Rattle.value_core.specs.declared.change.Tally.{Tally}
use Rattle.value_core.specs.declared.cursor.FilePlace.{FilePlace}
use Rattle.value_core.specs.declared.cursor.Cursor.{Cursor}
use Rattle.value_core.specs.declared.cursor.Cursor.TheVariants.{Files, At, Never}
use Rattle.segment_rows.specs.Exact.{IsBytes, IsExact}
use Rattle.segment_rows.specs.FieldLaws.{bind_some, some_is, number_exact, text_exact, list_exact, both_exact, made_exact, coded_exact, byte_taken, byte_again, tag_case, part_taken, IsBytes-behind}
use Rattle.segment_rows.specs.Ranges.{IsEvent, IsColumn, IsPlace, IsCursor, IsChange, IsTally}
use Rattle.segment_rows.specs.Reading.{byte_at, coded_at, tagged_at, event_kind_of, event_at, kind_of, column_at, place_at, cursor_by, cursor_at, change_at, tally_at}
use Rattle.segment_rows.specs.Spelling.{event_kind_byte, spelled_event_kind, spelled_event, kind_byte, spelled_kind, spelled_column, spelled_place, spelled_cursor, spelled_change, spelled_tally}
use Rattle.segment_rows.specs.ValueLaws.{row_exact, rows_exact}

event_kind_forth : (kind : EventKind) → event_kind_of (event_kind_byte kind) ≡ Some kind
event_kind_forth Upsert = refl
event_kind_forth Delete = refl
event_kind_forth Truncate = refl

event_kind_back : (byte : ℕ) (kind : EventKind) → event_kind_of byte ≡ Some kind → byte ≡ event_kind_byte kind
event_kind_back byte kind e =
    elim (tag_case byte 1 _ _ kind e) [
      | inl h ↦ h.0 ∙ ap event_kind_byte (some_is _ _ h.1)
      | inr e1 ↦
          elim (tag_case byte 2 _ _ kind e1) [
            | inl h ↦ h.0 ∙ ap event_kind_byte (some_is _ _ h.1)
            | inr e2 ↦
                elim (tag_case byte 3 _ _ kind e2) [ inl h ↦ h.0 ∙ ap event_kind_byte (some_is _ _ h.1) | inr e3 ↦ absurd cc ]
          ]
    ]

pub event_kind_exact : IsExact spelled_event_kind (λ kind. ⊤) (coded_at event_kind_of)
event_kind_exact = coded_exact event_kind_byte event_kind_of event_kind_forth event_kind_back

pub event_exact : IsExact spelled_event IsEvent event_at
event_exact = made_exact (λ parts. record { kind = parts.0.0.0; sequence = parts.0.0.1; key = parts.0.1; columns = parts.1 }) (λ (event : Event). (((event.kind, event.sequence), event.key), event.columns))
    (λ parts. refl) (λ event. refl) (both_exact (both_exact (both_exact event_kind_exact row_exact) row_exact) row_exact)

kind_forth : (kind : Kind) → kind_of (kind_byte kind) ≡ Some kind
kind_forth kind.Bool = refl
kind_forth kind.Int = refl
kind_forth kind.Big = refl
kind_forth kind.Str = refl

kind_back : (byte : ℕ) (kind : Kind) → kind_of byte ≡ Some kind → byte ≡ kind_byte kind
kind_back byte kind e =
    elim (tag_case byte 1 _ _ kind e) [
      | inl h ↦ h.0 ∙ ap kind_byte (some_is _ _ h.1)
      | inr e1 ↦
          elim (tag_case byte 2 _ _ kind e1) [
            | inl h ↦ h.0 ∙ ap kind_byte (some_is _ _ h.1)
            | inr e2 ↦
                elim (tag_case byte 3 _ _ kind e2) [
                  | inl h ↦ h.0 ∙ ap kind_byte (some_is _ _ h.1)
                  | inr e3 ↦
                      elim (tag_case byte 4 _ _ kind e3) [ inl h ↦ h.0 ∙ ap kind_byte (some_is _ _ h.1) | inr e4 ↦ absurd cc ]
                ]
          ]
    ]

pub kind_exact : IsExact spelled_kind (λ kind. ⊤) (coded_at kind_of)
kind_exact = coded_exact kind_byte kind_of kind_forth kind_back

pub column_exact : IsExact spelled_column IsColumn column_at
column_exact = made_exact (λ parts. record { name = parts.0; kind = parts.1 }) (λ (column : Column). (column.name, column.kind)) (λ parts. refl) (λ column. refl) (both_exact text_exact kind_exact)

pub place_exact : IsExact spelled_place IsPlace place_at
place_exact = made_exact (λ parts. record { file = parts.0; place = parts.1 }) (λ (known : FilePlace). (known.file, known.place)) (λ parts. refl) (λ known. refl) (both_exact text_exact number_exact)

pub change_exact : IsExact spelled_change IsChange change_at
change_exact = made_exact (λ parts. record { removed = parts.0; added = parts.1 }) (λ (change : Change). (change.removed, change.added)) (λ parts. refl) (λ change. refl) (both_exact rows_exact rows_exact)

pub tally_exact : IsExact spelled_tally IsTally tally_at
tally_exact = made_exact (λ parts. record { passed = parts.0; failed = parts.1 }) (λ (count : Tally). (count.passed, count.failed)) (λ parts. refl) (λ count. refl) (both_exact number_exact number_exact)

-- ---- cursors

abbrev Parts : List ℕ → Cursor × List ℕ → Type 0
Parts bytes found = IsCursor found.0 × (bytes ≡ spelled_cursor found.0 ++ found.1)

cursor_parts : (tag : ℕ) (rest : List ℕ) (found : Cursor × List ℕ) → IsBytes rest → cursor_by tag rest ≡ Some found → Parts (tag ∷ rest) found
cursor_parts tag rest found are e =
    elim (tag_case tag 0 _ _ found e) [
      | inl h ↦
          let p = part_taken (list_exact place_exact) Files rest found are h.1 in
          subst (λ (x : Cursor). Parts (tag ∷ rest) (x, found.1)) p.2 (p.1, ap (λ (t : ℕ). t ∷ rest) h.0 ∙ ap (λ (s : List ℕ). 0 ∷ s) p.3)
      | inr e1 ↦ elim (tag_case tag 1 _ _ found e1) [
        | inl h ↦
            let p = part_taken number_exact At rest found are h.1 in
            subst (λ (x : Cursor). Parts (tag ∷ rest) (x, found.1)) p.2 (p.1, ap (λ (t : ℕ). t ∷ rest) h.0 ∙ ap (λ (s : List ℕ). 1 ∷ s) p.3)
        | inr e2 ↦ elim (tag_case tag 2 _ _ found e2) [
          | inl h ↦ subst (Parts (tag ∷ rest)) (some_is _ _ h.1) (tt, ap (λ (t : ℕ). t ∷ rest) h.0)
          | inr e3 ↦ absurd cc
        ]
      ]
    ]

cursor_taken : (bytes : List ℕ) (found : Cursor × List ℕ) → IsBytes bytes → cursor_at bytes ≡ Some found → Parts bytes found
unfolding tagged_at
cursor_taken bytes found are e =
    let b = bind_some (byte_at bytes) (λ tag. cursor_by tag.0 tag.1) found e in
    let front = byte_taken bytes b.0 b.1 in
    subst (λ (x : List ℕ). Parts x found) (sym front) (cursor_parts b.0.0 b.0.1 found (IsBytes-behind (b.0.0 ∷ []) b.0.1 bytes are front) b.2)

cursor_again : (cursor : Cursor) (rest : List ℕ) → IsCursor cursor → cursor_at (spelled_cursor cursor ++ rest) ≡ Some (cursor, rest)
unfolding tagged_at
cursor_again (Files places) rest is = rw (byte_again, (list_exact place_exact).again places rest is) refl
cursor_again (At version) rest is = rw (byte_again, number_exact.again version rest is) refl
cursor_again Never rest is = rw byte_again refl

pub cursor_exact : IsExact spelled_cursor IsCursor cursor_at
cursor_exact = record { taken = cursor_taken; again = cursor_again }
