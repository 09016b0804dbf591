-- The reading of values, rows and events is exact.
use Rattle.std.proofs.Common.{◌≡◌, ℕ, ℤ, ◌^◌, ◌<◌, true, false, List, [], ◌∷◌, ◌++◌, Some, refl, sym, ap, subst, ◌∙◌, inl, inr}
use Rattle.std.specs.Prelude.{FitsSigned}
use Rattle.std.specs.Int.{Width, w32, w64, cast_signed, cast_unsigned}
use mir.Val.{bits}
use Rattle.std.proofs.lemmas.Int.{to_z-of_z, of_z-to_z}
use Rattle.std.proofs.Math.Facts.{Fits-of_z, sfits_to_z}
use Rattle.value_core.specs.declared.value.Value.{Value}
use Rattle.value_core.specs.declared.value.Value.TheVariants.{Null, Bool as Truth, Int, Big, Str}
use Rattle.segment_rows.specs.Exact.{IsBytes, IsExact}
use Rattle.segment_rows.specs.FieldLaws.{bind_some, some_is, number_exact, half_exact, text_exact, list_exact, byte_taken, byte_again, tag_case, part_taken, IsBytes-behind}
use Rattle.segment_rows.specs.Ranges.{IsValue, IsRow, AreRows}
use Rattle.segment_rows.specs.Reading.{half_at, number_at, text_at, made_at, byte_at, tagged_at, value_by, value_at, row_at, rows_at}
use Rattle.segment_rows.specs.Spelling.{spelled_half, spelled_number, spelled_value, spelled_row, spelled_rows}

in_signed : (w : Width) (n : ℕ) → n < 2 ^ bits w → FitsSigned w (cast_signed w n)
in_signed w n lt = sfits_to_z {w = w} {n = n} (record { fits = lt })

in_unsigned : (w : Width) (z : ℤ) → FitsSigned w z → cast_unsigned w z < 2 ^ bits w
in_unsigned w z is = (Fits-of_z {w = w} {z = z} is).fits

-- a value and what stands behind it
abbrev Parts : List ℕ → Value × List ℕ → Type 0
Parts bytes found = IsValue found.0 × (bytes ≡ spelled_value found.0 ++ found.1)

at_once : (tag k : ℕ) (value : Value) (rest : List ℕ) (found : Value × List ℕ) → IsValue value → spelled_value value ≡ k ∷ [] → (tag ≡ k) × (Some (value, rest) ≡ Some found) → Parts (tag ∷ rest) found
at_once tag k value rest found is spelled h = subst (Parts (tag ∷ rest)) (some_is _ _ h.1) (is, ap (λ (t : ℕ). t ∷ rest) h.0 ∙ ap (λ (s : List ℕ). s ++ rest) (sym spelled))

int_parts : (tag : ℕ) (rest : List ℕ) (found : Value × List ℕ) → IsBytes rest → (tag ≡ 3) × (made_at (λ n. Int (cast_signed w32 n)) half_at rest ≡ Some found) → Parts (tag ∷ rest) found
int_parts tag rest found are h =
    let p = part_taken half_exact (λ (n : ℕ). Int (cast_signed w32 n)) rest found are h.1 in
    let back : cast_unsigned w32 (cast_signed w32 p.0) ≡ p.0 = of_z-to_z w32 p.0 p.1 in
    let made : Parts (tag ∷ rest) (Int (cast_signed w32 p.0), found.1) = (in_signed w32 p.0 p.1, ap (λ (t : ℕ). t ∷ rest) h.0 ∙ ap (λ (s : List ℕ). 3 ∷ s) (p.3 ∙ ap (λ (n : ℕ). spelled_half n ++ found.1) (sym back))) in
    subst (λ (x : Value). Parts (tag ∷ rest) (x, found.1)) p.2 made

big_parts : (tag : ℕ) (rest : List ℕ) (found : Value × List ℕ) → IsBytes rest → (tag ≡ 4) × (made_at (λ n. Big (cast_signed w64 n)) number_at rest ≡ Some found) → Parts (tag ∷ rest) found
big_parts tag rest found are h =
    let p = part_taken number_exact (λ (n : ℕ). Big (cast_signed w64 n)) rest found are h.1 in
    let back : cast_unsigned w64 (cast_signed w64 p.0) ≡ p.0 = of_z-to_z w64 p.0 p.1 in
    let made : Parts (tag ∷ rest) (Big (cast_signed w64 p.0), found.1) = (in_signed w64 p.0 p.1, ap (λ (t : ℕ). t ∷ rest) h.0 ∙ ap (λ (s : List ℕ). 4 ∷ s) (p.3 ∙ ap (λ (n : ℕ). spelled_number n ++ found.1) (sym back))) in
    subst (λ (x : Value). Parts (tag ∷ rest) (x, found.1)) p.2 made

text_parts : (tag : ℕ) (rest : List ℕ) (found : Value × List ℕ) → IsBytes rest → (tag ≡ 5) × (made_at Str text_at rest ≡ Some found) → Parts (tag ∷ rest) found
text_parts tag rest found are h =
    let p = part_taken text_exact Str rest found are h.1 in
    let made : Parts (tag ∷ rest) (Str p.0, found.1) = (p.1, ap (λ (t : ℕ). t ∷ rest) h.0 ∙ ap (λ (s : List ℕ). 5 ∷ s) p.3) in
    subst (λ (x : Value). Parts (tag ∷ rest) (x, found.1)) p.2 made

value_parts : (tag : ℕ) (rest : List ℕ) (found : Value × List ℕ) → IsBytes rest → value_by tag rest ≡ Some found → Parts (tag ∷ rest) found
value_parts tag rest found are e =
    elim (tag_case tag 0 _ _ found e) [
      | inl h ↦ at_once tag 0 Null rest found tt refl h
      | inr e1 ↦
          elim (tag_case tag 1 _ _ found e1) [
            | inl h ↦ at_once tag 1 (Truth false) rest found tt refl h
            | inr e2 ↦
                elim (tag_case tag 2 _ _ found e2) [
                  | inl h ↦ at_once tag 2 (Truth true) rest found tt refl h
                  | inr e3 ↦
                      elim (tag_case tag 3 _ _ found e3) [
                        | inl h ↦ int_parts tag rest found are h
                        | inr e4 ↦
                            elim (tag_case tag 4 _ _ found e4) [
                              | inl h ↦ big_parts tag rest found are h
                              | inr e5 ↦
                                  elim (tag_case tag 5 _ _ found e5) [ inl h ↦ text_parts tag rest found are h | inr e6 ↦ absurd cc ]
                            ]
                      ]
                ]
          ]
    ]

value_taken : (bytes : List ℕ) (found : Value × List ℕ) → IsBytes bytes → value_at bytes ≡ Some found → Parts bytes found
unfolding tagged_at
value_taken bytes found are e =
    let b = bind_some (byte_at bytes) (λ tag. value_by tag.0 tag.1) found e in
    let front = byte_taken bytes b.0 b.1 in
    subst (λ (x : List ℕ). Parts x found) (sym front) (value_parts b.0.0 b.0.1 found (IsBytes-behind (b.0.0 ∷ []) b.0.1 bytes are front) b.2)

value_again : (value : Value) (rest : List ℕ) → IsValue value → value_at (spelled_value value ++ rest) ≡ Some (value, rest)
unfolding tagged_at
value_again Null rest is = rw byte_again refl
value_again (Truth false) rest is = rw byte_again refl
value_again (Truth true) rest is = rw byte_again refl
value_again (Int n) rest is = rw (byte_again, half_exact.again (cast_unsigned w32 n) rest (in_unsigned w32 n is), to_z-of_z w32 n is) refl
value_again (Big n) rest is = rw (byte_again, number_exact.again (cast_unsigned w64 n) rest (in_unsigned w64 n is), to_z-of_z w64 n is) refl
value_again (Str text) rest is = rw (byte_again, text_exact.again text rest is) refl

pub value_exact : IsExact spelled_value IsValue value_at
value_exact = record { taken = value_taken; again = value_again }

pub row_exact : IsExact spelled_row IsRow row_at
row_exact = list_exact value_exact

pub rows_exact : IsExact spelled_rows AreRows rows_at
rows_exact = list_exact row_exact
