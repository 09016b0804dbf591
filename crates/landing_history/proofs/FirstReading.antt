-- A first reading takes each complete line of each listed file, in order.
use Rattle.std.proofs.Common.{◌≡◌, ℕ, ◌≤◌, List, [], ◌∷◌, ◌++◌, length, take, Bool, true, false, cond, eqb, refl, sym, ap, ◌∙◌, append_assoc, append-nil, flat_map, length-take, take-take, Less, Greater, nat_cmp, arith}
use Rattle.std.specs.Ordering.{ordering_reverse}
use Rattle.std.specs.Cmp.Lexicographic.{slice_cmp}
use Rattle.std.proofs.lemmas.Bool.Decides.{nat_tests}
use Rattle.std.proofs.lemmas.Cmp.{nat_list_cmp_total}
use Rattle.std.proofs.lemmas.List.Concat.{flat_map-append}
use Rattle.value_core.specs.declared.cursor.Format.{Format}
use Rattle.value_core.specs.declared.cursor.FilePlace.{FilePlace}
use Rattle.landing_core.specs.declared.landing.LandingFile.{LandingFile}
use Rattle.landing_core.specs.declared.landing.Listed.{Listed}
use Rattle.landing_core.specs.Folders.{AreThere, HoldsPresent, bytes_of, listed_names}
use Rattle.landing_core.specs.Fresh.{reach, reach_from, reach_of}
use Rattle.landing_core.specs.Lines.{complete_len, head_of, lines_from}
use Rattle.landing_core.specs.Names.{AreAscending}
use Rattle.landing_core.specs.Places.{moved, placed}
use Rattle.landing_history.specs.Taken.{CanReadOn, LandedLine, landed_line, taken, taken_of}
use Rattle.landing_history.proofs.LineCuts.{EndsAt, complete_short, lines_cut}
use Rattle.landing_history.proofs.PlaceWalks.{entry}
use Rattle.landing_history.proofs.ReadingLemmas.{reach_is, rows_at}
use Rattle.landing_history.proofs.WholeReadings.{whole_len}

-- ---- a place behind all others is put last

abbrev AreBelow : List ℕ → List FilePlace → Type 0
AreBelow file [] = Unit {0}
AreBelow file (known ∷ more) = (slice_cmp nat_cmp known.file file ≡ Less) × AreBelow file more

put_last : (file : List ℕ) (place : ℕ) (places : List FilePlace) → AreBelow file places → placed file place places ≡ places ++ entry file place ∷ []
put_last file place [] below = refl
put_last file place (known ∷ more) below =
    let above : slice_cmp nat_cmp file known.file ≡ Greater = nat_list_cmp_total.antisymm file known.file ∙ ap ordering_reverse below.0 in
    rw above (ap (λ (places : List FilePlace). known ∷ places) (put_last file place more below.1))

below_next : (file next : List ℕ) (places : List FilePlace) → slice_cmp nat_cmp file next ≡ Less → AreBelow file places → AreBelow next places
below_next file next [] less below = tt
below_next file next (known ∷ more) less below = (nat_list_cmp_total.trans known.file file next below.0 less, below_next file next more less below.1)

below_last : (file next : List ℕ) (place : ℕ) (places : List FilePlace) → slice_cmp nat_cmp file next ≡ Less → AreBelow next places → AreBelow next (places ++ entry file place ∷ [])
below_last file next place [] less below = (less, tt)
below_last file next place (known ∷ more) less below = (below.0, below_last file next place more less below.1)

below_moved_by : (file next : List ℕ) (place : ℕ) (places : List FilePlace) (test : Bool) → slice_cmp nat_cmp file next ≡ Less → AreBelow file places → AreBelow next (cond test places (placed file place places))
below_moved_by file next place places true less below = below_next file next places less below
below_moved_by file next place places false less below = rw (put_last file place places below) (below_last file next place places less (below_next file next places less below))

-- ---- what a first reading takes of a file ends where its last complete line does

cut_whole : (format : Format) (header : Bool) (bytes : List ℕ) (size : ℕ) → taken_of format header bytes (complete_len (take size bytes)) ≡ taken_of format header bytes size
cut_whole format header bytes size =
    let n = complete_len (take size bytes) in
    let short : n ≤ size = omega (arith, complete_short (take size bytes), length-take size bytes) in
    ap (λ bs. flat_map (landed_line format (head_of format header bytes)) (lines_from 0 [] bs)) (sym (take-take n size bytes short)) ∙ ap (flat_map (landed_line format (head_of format header bytes))) (sym (lines_cut (take size bytes) 0 []))

first_reach : (dir : List ℕ) (present ever : List LandingFile) (listed : Listed) → HoldsPresent present ever → listed.size ≤ length (bytes_of dir listed.file present) → reach_of dir present [] listed ≡ complete_len (take listed.size (bytes_of dir listed.file ever))
first_reach dir present ever listed held within =
    let first : EndsAt (bytes_of dir listed.file ever) 0 = λ above. absurd (let never : ⊥ = omega arith in never) in
    reach_is dir present ever [] listed held within (omega arith) ∙ sym (whole_len (bytes_of dir listed.file ever) 0 listed.size first (omega arith))

moved_takes : (format : Format) (header : Bool) (dir : List ℕ) (ever : List LandingFile) (file : List ℕ) (place : ℕ) (places : List FilePlace) (test : Bool) → eqb place 0 ≡ test → AreBelow file places → flat_map (rows_at format header dir ever) (cond test places (placed file place places)) ≡ flat_map (rows_at format header dir ever) places ++ taken_of format header (bytes_of dir file ever) place
moved_takes format header dir ever file place places true is below =
    let zeroth : place ≡ 0 = grind (arith, nat_tests) in
    rw zeroth (sym (append-nil (flat_map (rows_at format header dir ever) places)))
moved_takes format header dir ever file place places false is below =
    rw (put_last file place places below) (flat_map-append (rows_at format header dir ever) places (entry file place ∷ []) ∙ ap (λ rows. flat_map (rows_at format header dir ever) places ++ rows) (append-nil (taken_of format header (bytes_of dir file ever) place)))

-- the rows of a listed file within its listed size
abbrev whole_of : Format → Bool → List ℕ → List LandingFile → Listed → List LandedLine
whole_of format header dir ever listed = taken_of format header (bytes_of dir listed.file ever) listed.size

abbrev ComeBefore : List FilePlace → List Listed → Type 0
ComeBefore places [] = Unit {0}
ComeBefore places (listed ∷ more) = AreBelow listed.file places

next_before : (file : List ℕ) (place : ℕ) (places : List FilePlace) (listed : Listed) (more : List Listed) → listed.file ≡ file → AreAscending (listed_names (listed ∷ more)) → AreBelow file places → ComeBefore (moved file place places) more
next_before file place places listed [] same up below = tt
next_before file place places listed (next ∷ more) same up below = below_moved_by file next.file place places (eqb place 0) (rw same at up.0) below

first_from : (format : Format) (header : Bool) (dir : List ℕ) (present ever : List LandingFile) (so_far : List FilePlace) (listing : List Listed) → AreAscending (listed_names listing) → HoldsPresent present ever → AreThere dir present listing → ComeBefore so_far listing → taken format header dir ever (reach_from dir present [] so_far listing) ≡ taken format header dir ever so_far ++ flat_map (whole_of format header dir ever) listing
first_from format header dir present ever so_far [] up held there below = sym (append-nil (taken format header dir ever so_far))
first_from format header dir present ever so_far (listed ∷ more) up held there below =
    let rows = rows_at format header dir ever in
    let place = reach_of dir present [] listed in
    let here : taken_of format header (bytes_of dir listed.file ever) place ≡ whole_of format header dir ever listed = ap (taken_of format header (bytes_of dir listed.file ever)) (first_reach dir present ever listed held there.0) ∙ cut_whole format header (bytes_of dir listed.file ever) listed.size in
    let next : flat_map rows (moved listed.file place so_far) ≡ flat_map rows so_far ++ whole_of format header dir ever listed = moved_takes format header dir ever listed.file place so_far (eqb place 0) refl below ∙ ap (λ new. flat_map rows so_far ++ new) here in
    let later = first_from format header dir present ever (moved listed.file place so_far) more up.1 held there.1 (next_before listed.file place so_far listed more refl up below) in
    later ∙ ap (λ front. front ++ flat_map (whole_of format header dir ever) more) next ∙ append_assoc (flat_map rows so_far) (whole_of format header dir ever listed) (flat_map (whole_of format header dir ever) more)

pub first_takes_all : (format : Format) (header : Bool) (dir : List ℕ) (present ever : List LandingFile) (places : List FilePlace) (listing : List Listed) → CanReadOn dir present ever places listing → taken format header dir ever (reach dir present [] listing) ≡ flat_map (λ listed. taken_of format header (bytes_of dir listed.file ever) listed.size) listing
first_takes_all format header dir present ever places [] can = refl
first_takes_all format header dir present ever places (listed ∷ more) can = first_from format header dir present ever [] (listed ∷ more) can.named can.held can.there tt
