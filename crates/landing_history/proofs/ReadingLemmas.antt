-- What one reading of a folder adds to what was taken, file by file.
use Rattle.std.proofs.Common.{◌≡◌, ℕ, ◌+◌, ◌-◌, ◌<◌, ◌≤◌, List, [], ◌∷◌, ◌++◌, length, length-append, get_or, take, drop, map, Bool, true, false, cond, eqb, nat_lt, ◌||◌, refl, sym, ap, ◌∙◌, subst, append_assoc, append-nil, flat_map, Option, Some, None, IsPermutation, Ordering, Less, Equal, Greater, nat_cmp, bytes_eq, arith}
use Rattle.std.specs.Ordering.{match_ordering}
use Rattle.std.specs.Prelude.{slice_range, slice_index_or}
use Rattle.std.specs.Cmp.Lexicographic.{slice_cmp}
use Rattle.std.proofs.lemmas.Bool.Decides.{nat_tests}
use Rattle.std.proofs.lemmas.List.{get_or_at, map-append}
use Rattle.std.proofs.lemmas.List.Sorted.{IsPermutation-refl, IsPermutation-append_left, IsPermutation-trans}
use Rattle.std.proofs.lemmas.Slice.Eq.{bytes_eq-Decides}
use Rattle.value_core.specs.declared.cursor.Format.{Format}
use Rattle.value_core.specs.declared.cursor.FilePlace.{FilePlace}
use Rattle.landing_core.specs.declared.landing.LandingFile.{LandingFile}
use Rattle.landing_core.specs.declared.landing.Listed.{Listed}
use Rattle.landing_core.specs.declared.lines.FreshLine.{FreshLine}
use Rattle.landing_core.specs.Folders.{AreThere, HoldsPresent, bytes_of, has_file, is_at, listed_names}
use Rattle.landing_core.specs.Fresh.{head_in, heads_of, new_bytes, new_lines, new_rows, reach, reach_from, reach_of, shrunk}
use Rattle.landing_core.specs.Lines.{CompleteLine, complete_len, head_of, head_place, head_text, is_blank, is_head, lines_from, row_line, text_of}
use Rattle.landing_core.specs.Names.{AreAscending, IsBefore}
use Rattle.landing_core.specs.Places.{moved, place_of, placed, placed_names}
use Rattle.landing_core.proofs.PlaceLawLemmas.{moved_ascending}
use Rattle.landing_history.specs.Taken.{AreEnds, CanReadOn, IsLineEnd, LandedLine, landed_line, taken, taken_of, with_heads}
use Rattle.landing_history.proofs.LineCuts.{EndsAt}
use Rattle.landing_history.proofs.FileLemmas.{end_ends, end_of, file_adds, front_range, read_of}
use Rattle.landing_history.proofs.PlaceWalks.{apart_below, entry, move_adds, move_keeps}

-- ---- the bytes that are read are the first ones that the file ever had

missing : (dir name : List ℕ) (files : List LandingFile) → has_file dir name files ≡ false → bytes_of dir name files ≡ []
missing dir name [] none = refl
missing dir name (file ∷ files) none = by (is_at dir name file) none (missing dir name files)
  where
    by : (test : Bool) → (test || has_file dir name files) ≡ false → (has_file dir name files ≡ false → bytes_of dir name files ≡ []) → cond test file.bytes (bytes_of dir name files) ≡ []
    by true none behind = absurd (let never : ⊥ = cc in never)
    by false none behind = behind none

same_by : (dir name : List ℕ) (present ever : List LandingFile) (size : ℕ) (test : Bool) → has_file dir name present ≡ test → HoldsPresent present ever → size ≤ length (bytes_of dir name present) → take size (bytes_of dir name present) ≡ take size (bytes_of dir name ever)
same_by dir name present ever size true is held within = ap (take size) (sym (held dir name is).1)
same_by dir name present ever size false is held within =
    let none : bytes_of dir name present ≡ [] = missing dir name present is in
    let zeroth : size ≡ 0 = omega (arith, ap length none) in
    rw zeroth refl

same_front : (dir name : List ℕ) (present ever : List LandingFile) (size : ℕ) → HoldsPresent present ever → size ≤ length (bytes_of dir name present) → take size (bytes_of dir name present) ≡ take size (bytes_of dir name ever)
same_front dir name present ever size = same_by dir name present ever size (has_file dir name present) refl

same_range : (dir name : List ℕ) (present ever : List LandingFile) (place size : ℕ) → HoldsPresent present ever → size ≤ length (bytes_of dir name present) → place ≤ size → slice_range (bytes_of dir name present) place size ≡ slice_range (bytes_of dir name ever) place size
same_range dir name present ever place size held within later =
    front_range (bytes_of dir name present) place size later ∙ ap (drop place) (same_front dir name present ever size held within) ∙ sym (front_range (bytes_of dir name ever) place size later)

-- ---- the place of a file is the end of one of its lines

ends_by : (dir file : List ℕ) (ever : List LandingFile) (known : FilePlace) (place : ℕ) (test : Bool) → bytes_eq known.file file ≡ test → IsLineEnd (bytes_of dir known.file ever) known.place → EndsAt (bytes_of dir file ever) place → EndsAt (bytes_of dir file ever) (cond test known.place place)
ends_by dir file ever known place true is here behind =
    let same : known.file ≡ file = (bytes_eq-Decides known.file file).0 is in
    λ above. subst (λ name. get_or (bytes_of dir name ever) (known.place - 1) 0 ≡ 10) same here.1
ends_by dir file ever known place false is here behind = behind

pub place_ends : (dir file : List ℕ) (ever : List LandingFile) (places : List FilePlace) → AreEnds dir ever places → EndsAt (bytes_of dir file ever) (place_of places file)
place_ends dir file ever [] ends = λ above. absurd (let never : ⊥ = omega arith in never)
place_ends dir file ever (known ∷ more) ends = ends_by dir file ever known (place_of more file) (bytes_eq known.file file) refl ends.0 (place_ends dir file ever more ends.1)

-- ---- a place that is put keeps all places at ends

put_ends_by : (dir file : List ℕ) (ever : List LandingFile) (place : ℕ) (known : FilePlace) (more : List FilePlace) (o : Ordering) → IsLineEnd (bytes_of dir file ever) place → AreEnds dir ever (known ∷ more) → AreEnds dir ever (placed file place more) → AreEnds dir ever (match_ordering o (entry file place ∷ known ∷ more) (entry file place ∷ more) (known ∷ placed file place more))
put_ends_by dir file ever place known more Less here were later = (here, were)
put_ends_by dir file ever place known more Equal here were later = (here, were.1)
put_ends_by dir file ever place known more Greater here were later = (were.0, later)

put_ends : (dir file : List ℕ) (ever : List LandingFile) (place : ℕ) (places : List FilePlace) → IsLineEnd (bytes_of dir file ever) place → AreEnds dir ever places → AreEnds dir ever (placed file place places)
put_ends dir file ever place [] here were = (here, tt)
put_ends dir file ever place (known ∷ more) here were = put_ends_by dir file ever place known more (slice_cmp nat_cmp file known.file) here were (put_ends dir file ever place more here were.1)

move_ends_by : (dir file : List ℕ) (ever : List LandingFile) (place : ℕ) (places : List FilePlace) (test : Bool) → eqb place 0 ≡ test → EndsAt (bytes_of dir file ever) place → AreEnds dir ever places → AreEnds dir ever (cond test places (placed file place places))
move_ends_by dir file ever place places true is here were = were
move_ends_by dir file ever place places false is here were =
    let above : 0 < place = grind (arith, nat_tests) in
    put_ends dir file ever place places (above, here above) were

move_ends : (dir file : List ℕ) (ever : List LandingFile) (place : ℕ) (places : List FilePlace) → EndsAt (bytes_of dir file ever) place → AreEnds dir ever places → AreEnds dir ever (moved file place places)
move_ends dir file ever place places = move_ends_by dir file ever place places (eqb place 0) refl

-- ---- one listed file that isn't shorter than its place

unshrunk_by : (listed : Listed) (place : ℕ) (rest : Option Listed) (test : Bool) → nat_lt listed.size place ≡ test → cond test (Some listed) rest ≡ None → (place ≤ listed.size) × (rest ≡ None)
unshrunk_by listed place rest true is none = absurd (let never : ⊥ = cc in never)
unshrunk_by listed place rest false is none = (grind (arith, nat_tests), none)

pub unshrunk_first : (places : List FilePlace) (listed : Listed) (more : List Listed) → shrunk places (listed ∷ more) ≡ None → (place_of places listed.file ≤ listed.size) × (shrunk places more ≡ None)
unshrunk_first places listed more none = unshrunk_by listed (place_of places listed.file) (shrunk places more) (nat_lt listed.size (place_of places listed.file)) refl none

-- what is read of a listed file, in the words of one file that has these bytes for ever
pub reach_is : (dir : List ℕ) (present ever : List LandingFile) (places : List FilePlace) (listed : Listed) → HoldsPresent present ever → listed.size ≤ length (bytes_of dir listed.file present) → place_of places listed.file ≤ listed.size → reach_of dir present places listed ≡ end_of (bytes_of dir listed.file ever) (place_of places listed.file) listed.size
reach_is dir present ever places listed held within later =
    ap (λ bs. place_of places listed.file + complete_len bs) (same_range dir listed.file present ever (place_of places listed.file) listed.size held within later)

reach_ends : (dir : List ℕ) (present ever : List LandingFile) (places : List FilePlace) (listed : Listed) → HoldsPresent present ever → listed.size ≤ length (bytes_of dir listed.file present) → place_of places listed.file ≤ listed.size → AreEnds dir ever places → EndsAt (bytes_of dir listed.file ever) (reach_of dir present places listed)
reach_ends dir present ever places listed held within later ends =
    subst (EndsAt (bytes_of dir listed.file ever)) (sym (reach_is dir present ever places listed held within later)) (end_ends (bytes_of dir listed.file ever) (place_of places listed.file) listed.size (place_ends dir listed.file ever places ends))

ends_from : (dir : List ℕ) (present ever : List LandingFile) (places so_far : List FilePlace) (listing : List Listed) → HoldsPresent present ever → AreThere dir present listing → shrunk places listing ≡ None → AreEnds dir ever places → AreEnds dir ever so_far → AreEnds dir ever (reach_from dir present places so_far listing)
ends_from dir present ever places so_far [] held there none ends were = were
ends_from dir present ever places so_far (listed ∷ more) held there none ends were =
    let first = unshrunk_first places listed more none in
    ends_from dir present ever places (moved listed.file (reach_of dir present places listed) so_far) more held there.1 first.1 ends (move_ends dir listed.file ever (reach_of dir present places listed) so_far (reach_ends dir present ever places listed held there.0 first.0 ends) were)

pub reach_at_ends : (dir : List ℕ) (present ever : List LandingFile) (places : List FilePlace) (listing : List Listed) → CanReadOn dir present ever places listing → AreEnds dir ever places → AreEnds dir ever (reach dir present places listing)
reach_at_ends dir present ever places listing can ends = ends_from dir present ever places places listing can.held can.there can.unshrunk ends ends

-- ---- the rows that a reading finds in one listed file

abbrev pub found_in : Format → Bool → List ℕ → List LandingFile → List FilePlace → Listed → List LandedLine
found_in format header dir present places listed = flat_map (landed_line format (head_in format header dir present listed)) (lines_from (place_of places listed.file) [] (new_bytes dir present places listed))

found_is : (format : Format) (header : Bool) (dir : List ℕ) (present ever : List LandingFile) (places : List FilePlace) (listed : Listed) → HoldsPresent present ever → listed.size ≤ length (bytes_of dir listed.file present) → place_of places listed.file ≤ listed.size → found_in format header dir present places listed ≡ read_of format header (bytes_of dir listed.file ever) (place_of places listed.file) listed.size
found_is format header dir present ever places listed held within later =
    let place = place_of places listed.file in
    let front : take listed.size (bytes_of dir listed.file present) ≡ take listed.size (bytes_of dir listed.file ever) = same_front dir listed.file present ever listed.size held within in
    let range : slice_range (bytes_of dir listed.file present) place listed.size ≡ slice_range (bytes_of dir listed.file ever) place listed.size = same_range dir listed.file present ever place listed.size held within later in
    λ i. flat_map (landed_line format (head_of format header (front i))) (lines_from place [] (range i))

-- the rows of a folder, as a function of one file's place
abbrev pub rows_at : Format → Bool → List ℕ → List LandingFile → FilePlace → List LandedLine
rows_at format header dir ever known = taken_of format header (bytes_of dir known.file ever) known.place

abbrev Adds : Format → Bool → List ℕ → List LandingFile → List LandingFile → List FilePlace → Listed → Type 0
Adds format header dir present ever places listed =
    rows_at format header dir ever (entry listed.file (reach_of dir present places listed)) ≡ rows_at format header dir ever (entry listed.file (place_of places listed.file)) ++ found_in format header dir present places listed

listed_adds : (format : Format) (header : Bool) (dir : List ℕ) (present ever : List LandingFile) (places : List FilePlace) (listed : Listed) → HoldsPresent present ever → listed.size ≤ length (bytes_of dir listed.file present) → place_of places listed.file ≤ listed.size → AreEnds dir ever places → Adds format header dir present ever places listed
listed_adds format header dir present ever places listed held within later ends =
    let bytes = bytes_of dir listed.file ever in
    let place = place_of places listed.file in
    ap (taken_of format header bytes) (reach_is dir present ever places listed held within later) ∙ file_adds format header bytes place listed.size (place_ends dir listed.file ever places ends) later ∙ ap (λ found. taken_of format header bytes place ++ found) (sym (found_is format header dir present ever places listed held within later))

-- ---- all listed files

-- the places so far are those of before at the files that are still to be read
abbrev pub Waits : List FilePlace → List FilePlace → List Listed → Type 0
Waits places so_far [] = Unit {0}
Waits places so_far (listed ∷ more) = (place_of so_far listed.file ≡ place_of places listed.file) × Waits places so_far more

pub waits_at_first : (places : List FilePlace) (listing : List Listed) → Waits places places listing
waits_at_first places [] = tt
waits_at_first places (listed ∷ more) = (refl, waits_at_first places more)

pub before_more : (file name : List ℕ) (more : List Listed) → slice_cmp nat_cmp file name ≡ Less → IsBefore name (listed_names more) → IsBefore file (listed_names more)
before_more file name [] less first = tt
before_more file name (next ∷ more) less first = Rattle.std.proofs.lemmas.Cmp.nat_list_cmp_total.trans file name next.file less first

pub still_waits : (places so_far : List FilePlace) (file : List ℕ) (place : ℕ) (more : List Listed) → IsBefore file (listed_names more) → AreAscending (listed_names more) → Waits places so_far more → Waits places (moved file place so_far) more
still_waits places so_far file place [] first up waits = tt
still_waits places so_far file place (listed ∷ more) first up waits =
    let other : bytes_eq file listed.file ≡ false = apart_below file listed.file (bytes_eq file listed.file) refl first in
    (move_keeps file listed.file place so_far other ∙ waits.0, still_waits places so_far file place more (before_more file listed.file more first up.0) up.1 waits.1)

adds_from : (format : Format) (header : Bool) (dir : List ℕ) (present ever : List LandingFile) (places so_far : List FilePlace) (listing : List Listed) → AreAscending (listed_names listing) → HoldsPresent present ever → AreThere dir present listing → shrunk places listing ≡ None → AreEnds dir ever places → AreAscending (placed_names so_far) → Waits places so_far listing → IsPermutation (taken format header dir ever so_far ++ flat_map (found_in format header dir present places) listing) (taken format header dir ever (reach_from dir present places so_far listing))
adds_from format header dir present ever places so_far [] up held there none ends ascending waits = rw (append-nil (taken format header dir ever so_far)) (IsPermutation-refl (taken format header dir ever so_far))
adds_from format header dir present ever places so_far (listed ∷ more) up held there none ends ascending waits =
    let rows = rows_at format header dir ever in
    let found = found_in format header dir present places in
    let first = unshrunk_first places listed more none in
    let place = reach_of dir present places listed in
    let next = moved listed.file place so_far in
    let adds : rows (entry listed.file place) ≡ rows (entry listed.file (place_of so_far listed.file)) ++ found listed = listed_adds format header dir present ever places listed held there.0 first.0 ends ∙ ap (λ p. rows (entry listed.file p) ++ found listed) (sym waits.0) in
    let one : IsPermutation (flat_map rows so_far ++ found listed) (flat_map rows next) = move_adds rows (λ file. refl) listed.file place (found listed) so_far ascending adds in
    let later : IsPermutation (flat_map rows next ++ flat_map found more) (flat_map rows (reach_from dir present places next more)) = adds_from format header dir present ever places next more up.1 held there.1 first.1 ends (moved_ascending listed.file place so_far ascending) (still_waits places so_far listed.file place more up.0 up.1 waits.1) in
    rw (← append_assoc (flat_map rows so_far) (found listed) (flat_map found more)) (IsPermutation-trans _ _ _ (IsPermutation-append_left (flat_map found more) _ _ one) later)

-- ---- the lines of a reading beside their heads

abbrev landed : List (List ℕ) → FreshLine → LandedLine
landed heads line = record { head = slice_index_or heads line.file []; text = line.line }

beside : (format : Format) (head : Option CompleteLine) (heads : List (List ℕ)) (number : ℕ) (lines : List CompleteLine) → get_or heads number [] ≡ head_text head → map (landed heads) (flat_map (row_line format (head_place head) number) lines) ≡ flat_map (landed_line format head) lines
beside format head heads number [] is = refl
beside format head heads number (line ∷ lines) is =
    by (is_blank format (text_of line) || is_head (head_place head) line) (beside format head heads number lines is)
  where
    by : (test : Bool) → map (landed heads) (flat_map (row_line format (head_place head) number) lines) ≡ flat_map (landed_line format head) lines → map (landed heads) (cond test [] (record { file = number; line = text_of line } ∷ []) ++ flat_map (row_line format (head_place head) number) lines) ≡ cond test [] (record { head = head_text head; text = text_of line } ∷ []) ++ flat_map (landed_line format head) lines
    by true behind = behind
    by false behind = λ i. record { head = is i; text = text_of line } ∷ behind i

beside_all : (format : Format) (header : Bool) (dir : List ℕ) (present : List LandingFile) (places : List FilePlace) (heads front : List (List ℕ)) (number : ℕ) (listing : List Listed) → heads ≡ front ++ heads_of format header dir present listing → length front ≡ number → with_heads heads (new_lines format header dir present places number listing) ≡ flat_map (found_in format header dir present places) listing
beside_all format header dir present places heads front number [] is long = refl
beside_all format header dir present places heads front number (listed ∷ more) is long =
    let head = head_in format header dir present listed in
    let behind = heads_of format header dir present more in
    let at : get_or heads number [] ≡ head_text head = ap (λ hs. get_or hs number []) is ∙ get_or_at front (head_text head) behind [] number long in
    let split : heads ≡ (front ++ head_text head ∷ []) ++ behind = is ∙ sym (append_assoc front (head_text head ∷ []) behind) in
    let longer : length (front ++ head_text head ∷ []) ≡ number + 1 = omega (arith, length-append front (head_text head ∷ [])) in
    let first : map (landed heads) (new_rows format header dir present places number listed) ≡ found_in format header dir present places listed = beside format head heads number (lines_from (place_of places listed.file) [] (new_bytes dir present places listed)) at in
    let later = beside_all format header dir present places heads (front ++ head_text head ∷ []) (number + 1) more split longer in
    map-append (landed heads) (new_rows format header dir present places number listed) (new_lines format header dir present places (number + 1) more) ∙ (λ i. first i ++ later i)

pub reading_adds : (format : Format) (header : Bool) (dir : List ℕ) (present ever : List LandingFile) (places : List FilePlace) (listing : List Listed) → CanReadOn dir present ever places listing → AreAscending (placed_names places) → AreEnds dir ever places → IsPermutation (taken format header dir ever places ++ with_heads (heads_of format header dir present listing) (new_lines format header dir present places 0 listing)) (taken format header dir ever (reach dir present places listing))
reading_adds format header dir present ever places listing can ascending ends =
    rw (beside_all format header dir present places (heads_of format header dir present listing) [] 0 listing refl refl) (adds_from format header dir present ever places places listing can.named can.held can.there can.unshrunk ends ascending (waits_at_first places listing))
