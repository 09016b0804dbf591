-- What a reading finds in its listed files, in the words of files that have their bytes for ever.
use Rattle.std.proofs.Common.{◌≡◌, ℕ, ◌+◌, ◌≤◌, List, [], ◌∷◌, ◌++◌, length, length-append, get_or, take, drop, map, Bool, true, false, cond, ◌||◌, refl, sym, ap, ◌∙◌, append_assoc, flat_map, Option, arith}
use Rattle.std.specs.Prelude.{slice_range, slice_index_or}
use Rattle.std.proofs.lemmas.List.{append_cancel_left, get_or_at, map-append}
use Rattle.std.proofs.lemmas.List.Concat.{flat_map-append}
use Rattle.value_core.specs.declared.cursor.Format.{Format}
use Rattle.value_core.specs.declared.cursor.FilePlace.{FilePlace}
use Rattle.landing_core.specs.declared.landing.LandingFile.{LandingFile}
use Rattle.landing_core.specs.declared.landing.Listed.{Listed}
use Rattle.landing_core.specs.declared.lines.FreshLine.{FreshLine}
use Rattle.landing_core.specs.Folders.{HoldsPresent, bytes_of, has_file, is_at}
use Rattle.landing_core.specs.Fresh.{head_in, heads_of, new_bytes, new_lines, new_rows, reach_of}
use Rattle.landing_core.specs.Lines.{CompleteLine, head_of, head_place, head_text, is_blank, is_head, lines_from, row_line, text_of}
use Rattle.landing_core.specs.Places.{place_of}
use Rattle.landing_history.specs.Taken.{AreEnds, LandedLine, landed_line, taken_of, with_heads}
use Rattle.landing_history.proofs.LineCuts.{EndsAt, lines_between}
use Rattle.landing_history.proofs.FileLemmas.{end_of, file_adds, front_range, read_of}
use Rattle.landing_history.proofs.PlaceWalks.{entry}
use Rattle.landing_history.proofs.ReadingLemmas.{found_in, place_ends, reach_is}
use Rattle.rows_between.specs.Between.{between_of, rows_behind}

-- ---- rows of one file

pub comes_behind : (format : Format) (header : Bool) (bytes : List ℕ) (from to : ℕ) → EndsAt bytes from → from ≤ to → taken_of format header bytes to ≡ taken_of format header bytes from ++ between_of format header bytes from to
comes_behind format header bytes from to ends later =
    let rows = flat_map (landed_line format (head_of format header bytes)) in
    ap rows (lines_between bytes from to ends later) ∙ flat_map-append (landed_line format (head_of format header bytes)) (lines_from 0 [] (take from bytes)) (lines_from from [] (slice_range bytes from to))

-- what is read between a place and a size are the rows from the place to the end of the last complete line
read_between : (format : Format) (header : Bool) (bytes : List ℕ) (place size : ℕ) → EndsAt bytes place → place ≤ size → between_of format header bytes place (end_of bytes place size) ≡ read_of format header bytes place size
read_between format header bytes place size ends later =
    append_cancel_left (taken_of format header bytes place) (between_of format header bytes place (end_of bytes place size)) (read_of format header bytes place size)
    (sym (comes_behind format header bytes place (end_of bytes place size) ends (omega arith)) ∙ file_adds format header bytes place size ends later)

-- ---- the bytes that are read are the first ones that the file ever had

missing : (dir name : List ℕ) (files : List LandingFile) → has_file dir name files ≡ false → bytes_of dir name files ≡ []
missing dir name [] none = refl
missing dir name (file ∷ files) none = by (is_at dir name file) none (missing dir name files)
  where
    by : (test : Bool) → (test || has_file dir name files) ≡ false → (has_file dir name files ≡ false → bytes_of dir name files ≡ []) → cond test file.bytes (bytes_of dir name files) ≡ []
    by true none behind = absurd (let never : ⊥ = cc in never)
    by false none behind = behind none

same_by : (dir name : List ℕ) (present ever : List LandingFile) (size : ℕ) (test : Bool) → has_file dir name present ≡ test → HoldsPresent present ever → size ≤ length (bytes_of dir name present) → take size (bytes_of dir name present) ≡ take size (bytes_of dir name ever)
same_by dir name present ever size true is held within = ap (take size) (sym (held dir name is).1)
same_by dir name present ever size false is held within =
    let none : bytes_of dir name present ≡ [] = missing dir name present is in
    let zeroth : size ≡ 0 = omega (arith, ap length none) in
    rw zeroth refl

same_front : (dir name : List ℕ) (present ever : List LandingFile) (size : ℕ) → HoldsPresent present ever → size ≤ length (bytes_of dir name present) → take size (bytes_of dir name present) ≡ take size (bytes_of dir name ever)
same_front dir name present ever size = same_by dir name present ever size (has_file dir name present) refl

same_range : (dir name : List ℕ) (present ever : List LandingFile) (place size : ℕ) → HoldsPresent present ever → size ≤ length (bytes_of dir name present) → place ≤ size → slice_range (bytes_of dir name present) place size ≡ slice_range (bytes_of dir name ever) place size
same_range dir name present ever place size held within later =
    front_range (bytes_of dir name present) place size later ∙ ap (drop place) (same_front dir name present ever size held within) ∙ sym (front_range (bytes_of dir name ever) place size later)

found_is : (format : Format) (header : Bool) (dir : List ℕ) (present ever : List LandingFile) (places : List FilePlace) (listed : Listed) → HoldsPresent present ever → listed.size ≤ length (bytes_of dir listed.file present) → place_of places listed.file ≤ listed.size
    → found_in format header dir present places listed ≡ read_of format header (bytes_of dir listed.file ever) (place_of places listed.file) listed.size
found_is format header dir present ever places listed held within later =
    let place = place_of places listed.file in
    let front : take listed.size (bytes_of dir listed.file present) ≡ take listed.size (bytes_of dir listed.file ever) = same_front dir listed.file present ever listed.size held within in
    let range : slice_range (bytes_of dir listed.file present) place listed.size ≡ slice_range (bytes_of dir listed.file ever) place listed.size = same_range dir listed.file present ever place listed.size held within later in
    λ i. flat_map (landed_line format (head_of format header (front i))) (lines_from place [] (range i))

-- ---- one listed file

pub listed_between : (format : Format) (header : Bool) (dir : List ℕ) (present ever : List LandingFile) (places : List FilePlace) (listed : Listed) → HoldsPresent present ever → listed.size ≤ length (bytes_of dir listed.file present) → place_of places listed.file ≤ listed.size → AreEnds dir ever places
    → rows_behind format header dir ever places (entry listed.file (reach_of dir present places listed)) ≡ found_in format header dir present places listed
listed_between format header dir present ever places listed held within later ends =
    let bytes = bytes_of dir listed.file ever in
    let place = place_of places listed.file in
    ap (between_of format header bytes place) (reach_is dir present ever places listed held within later)
    ∙ read_between format header bytes place listed.size (place_ends dir listed.file ever places ends) later
    ∙ sym (found_is format header dir present ever places listed held within later)

-- ---- the lines of a reading beside their heads

abbrev landed : List (List ℕ) → FreshLine → LandedLine
landed heads line = record { head = slice_index_or heads line.file []; text = line.line }

beside : (format : Format) (head : Option CompleteLine) (heads : List (List ℕ)) (number : ℕ) (lines : List CompleteLine) → get_or heads number [] ≡ head_text head → map (landed heads) (flat_map (row_line format (head_place head) number) lines) ≡ flat_map (landed_line format head) lines
beside format head heads number [] is = refl
beside format head heads number (line ∷ lines) is =
    by (is_blank format (text_of line) || is_head (head_place head) line) (beside format head heads number lines is)
  where
    by : (test : Bool) → map (landed heads) (flat_map (row_line format (head_place head) number) lines) ≡ flat_map (landed_line format head) lines → map (landed heads) (cond test [] (record { file = number; line = text_of line } ∷ []) ++ flat_map (row_line format (head_place head) number) lines) ≡ cond test [] (record { head = head_text head; text = text_of line } ∷ []) ++ flat_map (landed_line format head) lines
    by true behind = behind
    by false behind = λ i. record { head = is i; text = text_of line } ∷ behind i

beside_all : (format : Format) (header : Bool) (dir : List ℕ) (present : List LandingFile) (places : List FilePlace) (heads front : List (List ℕ)) (number : ℕ) (listing : List Listed) → heads ≡ front ++ heads_of format header dir present listing → length front ≡ number
    → with_heads heads (new_lines format header dir present places number listing) ≡ flat_map (found_in format header dir present places) listing
beside_all format header dir present places heads front number [] is long = refl
beside_all format header dir present places heads front number (listed ∷ more) is long =
    let head = head_in format header dir present listed in
    let behind = heads_of format header dir present more in
    let at : get_or heads number [] ≡ head_text head = ap (λ hs. get_or hs number []) is ∙ get_or_at front (head_text head) behind [] number long in
    let split : heads ≡ (front ++ head_text head ∷ []) ++ behind = is ∙ sym (append_assoc front (head_text head ∷ []) behind) in
    let longer : length (front ++ head_text head ∷ []) ≡ number + 1 = omega (arith, length-append front (head_text head ∷ [])) in
    let first : map (landed heads) (new_rows format header dir present places number listed) ≡ found_in format header dir present places listed = beside format head heads number (lines_from (place_of places listed.file) [] (new_bytes dir present places listed)) at in
    let later = beside_all format header dir present places heads (front ++ head_text head ∷ []) (number + 1) more split longer in
    map-append (landed heads) (new_rows format header dir present places number listed) (new_lines format header dir present places (number + 1) more) ∙ (λ i. first i ++ later i)

pub lines_found : (format : Format) (header : Bool) (dir : List ℕ) (present : List LandingFile) (places : List FilePlace) (listing : List Listed) → with_heads (heads_of format header dir present listing) (new_lines format header dir present places 0 listing) ≡ flat_map (found_in format header dir present places) listing
lines_found format header dir present places listing = beside_all format header dir present places (heads_of format header dir present listing) [] 0 listing refl refl
