-- The rows of one file: which head they have, and which of them one reading adds.
use Rattle.std.proofs.Common.{◌≡◌, ℕ, zero, suc, ◌+◌, ◌-◌, ◌≤◌, List, [], ◌∷◌, ◌++◌, length, get_or, take, drop, Bool, true, false, cond, eqb, refl, sym, ap, ◌∙◌, Option, Some, None, flat_map, get_or-take, get_or-drop, take-take, length-take, arith}
use Rattle.std.specs.Prelude.{slice_range}
use Rattle.std.proofs.lemmas.List.{take-append-drop, drop-take}
use Rattle.std.proofs.lemmas.List.Concat.{flat_map-append}
use Rattle.value_core.specs.declared.cursor.Format.{Format}
use Rattle.value_core.specs.declared.cursor.Format.TheVariants.{Json, Csv}
use Rattle.landing_core.specs.Lines.{CompleteLine, complete_len, first_filled, head_of, is_blank, lines_from, text_of}
use Rattle.landing_history.specs.Taken.{LandedLine, landed_line, taken_of}
use Rattle.landing_history.proofs.LineCuts.{EndsAt, complete_ends, complete_short, line_at, lines_between, lines_cut}

-- ---- a line that isn't blank, or none

blank_by : (format : Format) (head : Option CompleteLine) (line : CompleteLine) (lines : List CompleteLine) (test : Bool) → is_blank format (text_of line) ≡ test → cond test (first_filled format lines) (Some line) ≡ None → (first_filled format lines ≡ None → flat_map (landed_line format head) lines ≡ []) → flat_map (landed_line format head) (line ∷ lines) ≡ []
blank_by format head line lines true is none behind = rw is (behind none)
blank_by format head line lines false is none behind = absurd (let never : ⊥ = cc in never)

pub no_rows : (format : Format) (head : Option CompleteLine) (lines : List CompleteLine) → first_filled format lines ≡ None → flat_map (landed_line format head) lines ≡ []
no_rows format head [] none = refl
no_rows format head (line ∷ lines) none = blank_by format head line lines (is_blank format (text_of line)) refl none (no_rows format head lines)

none_by : (test : Bool) (line : CompleteLine) (x y : Option CompleteLine) → (x ≡ None → y ≡ None) → cond test x (Some line) ≡ None → y ≡ None
none_by true line x y behind none = behind none
none_by false line x y behind none = absurd (let never : ⊥ = cc in never)

pub none_behind : (format : Format) (front back : List CompleteLine) → first_filled format (front ++ back) ≡ None → first_filled format back ≡ None
none_behind format [] back none = none
none_behind format (line ∷ front) back none = none_by (is_blank format (text_of line)) line (first_filled format (front ++ back)) (first_filled format back) (none_behind format front back) none

none_before_by : (test : Bool) (line : CompleteLine) (x y : Option CompleteLine) → (x ≡ None → y ≡ None) → cond test x (Some line) ≡ None → cond test y (Some line) ≡ None
none_before_by true line x y behind none = behind none
none_before_by false line x y behind none = none

pub none_before : (format : Format) (front back : List CompleteLine) → first_filled format (front ++ back) ≡ None → first_filled format front ≡ None
none_before format [] back none = refl
none_before format (line ∷ front) back none = none_before_by (is_blank format (text_of line)) line (first_filled format (front ++ back)) (first_filled format front) (none_before format front back) none

-- ---- the first line that isn't blank stays the first one as the file grows

blank_kept : (test : Bool) (x y : Option CompleteLine) (line first : CompleteLine) → (x ≡ Some first → y ≡ Some first) → cond test x (Some line) ≡ Some first → cond test y (Some line) ≡ Some first
blank_kept true x y line first behind is = behind is
blank_kept false x y line first behind is = is

kept_by : (format : Format) (first : CompleteLine) (test : Bool) (line : CompleteLine) (a b c d : List CompleteLine) → (first_filled format a ≡ Some first → first_filled format b ≡ Some first) → (first_filled format c ≡ Some first → first_filled format d ≡ Some first) → first_filled format (cond test (line ∷ a) c) ≡ Some first → first_filled format (cond test (line ∷ b) d) ≡ Some first
kept_by format first true line a b c d ended going is = blank_kept (is_blank format (text_of line)) (first_filled format a) (first_filled format b) line first ended is
kept_by format first false line a b c d ended going is = going is

first_kept : (format : Format) (first : CompleteLine) (start : ℕ) (begun front behind : List ℕ) → first_filled format (lines_from start begun front) ≡ Some first → first_filled format (lines_from start begun (front ++ behind)) ≡ Some first
first_kept format first start begun [] behind is = absurd (let never : ⊥ = cc in never)
first_kept format first start begun (b ∷ front) behind is =
    kept_by format first (eqb b 10) (line_at start begun) (lines_from (start + length begun + 1) [] front) (lines_from (start + length begun + 1) [] (front ++ behind)) (lines_from start (begun ++ b ∷ []) front) (lines_from start (begun ++ b ∷ []) (front ++ behind)) (first_kept format first (start + length begun + 1) [] front behind) (first_kept format first start (begun ++ b ∷ []) front behind) is

same_by : (bytes : List ℕ) (size : ℕ) (lines : List CompleteLine) (found : Option CompleteLine) → first_filled Csv (lines_from 0 [] (take size bytes)) ≡ found → (found ≡ None → first_filled Csv lines ≡ None) → flat_map (landed_line Csv (first_filled Csv (lines_from 0 [] bytes))) lines ≡ flat_map (landed_line Csv found) lines
same_by bytes size lines None is blank = no_rows Csv (first_filled Csv (lines_from 0 [] bytes)) lines (blank refl) ∙ sym (no_rows Csv None lines (blank refl))
same_by bytes size lines (Some first) is blank =
    let kept : first_filled Csv (lines_from 0 [] (take size bytes ++ drop size bytes)) ≡ Some first = first_kept Csv first 0 [] (take size bytes) (drop size bytes) is in
    let all : first_filled Csv (lines_from 0 [] bytes) ≡ Some first = ap (λ bs. first_filled Csv (lines_from 0 [] bs)) (sym (take-append-drop size bytes)) ∙ kept in
    ap (λ head. flat_map (landed_line Csv head) lines) all

-- lines of a file's front are the same rows by the head of the front and by that of the whole file
pub same_rows : (format : Format) (header : Bool) (bytes : List ℕ) (size : ℕ) (lines : List CompleteLine) → ((format : Format) → first_filled format (lines_from 0 [] (take size bytes)) ≡ None → first_filled format lines ≡ None) → flat_map (landed_line format (head_of format header bytes)) lines ≡ flat_map (landed_line format (head_of format header (take size bytes))) lines
same_rows Json header bytes size lines blank = refl
same_rows Csv false bytes size lines blank = refl
same_rows Csv true bytes size lines blank = same_by bytes size lines (first_filled Csv (lines_from 0 [] (take size bytes))) refl (blank Csv)

-- ---- what a reading between a place and a size adds

-- the rows that a reading finds
abbrev pub read_of : Format → Bool → List ℕ → ℕ → ℕ → List LandedLine
read_of format header bytes place size = flat_map (landed_line format (head_of format header (take size bytes))) (lines_from place [] (slice_range bytes place size))

abbrev pub end_of : List ℕ → ℕ → ℕ → ℕ
end_of bytes place size = place + complete_len (slice_range bytes place size)

between_short : (bytes : List ℕ) (place size : ℕ) → complete_len (slice_range bytes place size) ≤ size - place
between_short bytes place size = omega (arith, complete_short (slice_range bytes place size), length-take (size - place) (drop place bytes))

cut_between : (bytes : List ℕ) (place size : ℕ) → lines_from place [] (slice_range bytes place (end_of bytes place size)) ≡ lines_from place [] (slice_range bytes place size)
cut_between bytes place size =
    let new = slice_range bytes place size in
    let long : place + complete_len new - place ≡ complete_len new = omega arith in
    let short : complete_len new ≤ size - place = between_short bytes place size in
    let front : take (complete_len new) new ≡ take (complete_len new) (drop place bytes) = take-take (complete_len new) (size - place) (drop place bytes) short in
    ap (λ n. lines_from place [] (take n (drop place bytes))) long ∙ ap (lines_from place []) (sym front) ∙ sym (lines_cut new place [])

pub file_adds : (format : Format) (header : Bool) (bytes : List ℕ) (place size : ℕ) → EndsAt bytes place → place ≤ size → taken_of format header bytes (end_of bytes place size) ≡ taken_of format header bytes place ++ read_of format header bytes place size
file_adds format header bytes place size ends later =
    let rows = flat_map (landed_line format (head_of format header bytes)) in
    let new = lines_from place [] (slice_range bytes place size) in
    let before = lines_from 0 [] (take place bytes) in
    let reached : lines_from 0 [] (take (end_of bytes place size) bytes) ≡ before ++ new = lines_between bytes place (end_of bytes place size) ends (omega arith) ∙ ap (λ lines. before ++ lines) (cut_between bytes place size) in
    let listed : lines_from 0 [] (take size bytes) ≡ before ++ new = lines_between bytes place size ends later in
    let same : rows new ≡ read_of format header bytes place size = same_rows format header bytes size new (λ f none. none_behind f before new (rw listed at none)) in
    ap rows reached ∙ flat_map-append (landed_line format (head_of format header bytes)) before new ∙ ap (λ found. rows before ++ found) same

-- ---- where a reading ends, a line ends

ends_by : (bytes : List ℕ) (place size n : ℕ) → n ≤ size - place → EndsAt bytes place → EndsAt (slice_range bytes place size) n → EndsAt bytes (place + n)
ends_by bytes place size zero short ends last above =
    let same : place + 0 ≡ place = omega arith in
    rw same (ends (omega arith))
ends_by bytes place size (suc n) short ends last above =
    let back : suc n - 1 ≡ n = omega arith in
    let here : place + suc n - 1 ≡ place + n = omega arith in
    let is : get_or (slice_range bytes place size) n 0 ≡ 10 = rw back at (last (omega arith)) in
    rw here (sym (get_or-drop place bytes n 0) ∙ sym (get_or-take (size - place) (drop place bytes) n 0 (omega arith)) ∙ is)

pub end_ends : (bytes : List ℕ) (place size : ℕ) → EndsAt bytes place → EndsAt bytes (end_of bytes place size)
end_ends bytes place size ends = ends_by bytes place size (complete_len (slice_range bytes place size)) (between_short bytes place size) ends (complete_ends (slice_range bytes place size))

-- ---- bytes that begin alike

pub front_range : (bytes : List ℕ) (place size : ℕ) → place ≤ size → slice_range bytes place size ≡ drop place (take size bytes)
front_range bytes place size later =
    let total : place + (size - place) ≡ size = omega arith in
    sym (drop-take place (size - place) bytes) ∙ ap (λ n. drop place (take n bytes)) total
