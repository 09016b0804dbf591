-- Where a reading leaves the place of each file.
use Rattle.std.proofs.Common.{◌≡◌, ℕ, List, [], ◌∷◌, take, Bool, true, false, ◌||◌, refl, sym, ◌∙◌, None, bytes_eq, arith}
use Rattle.std.proofs.lemmas.Slice.Eq.{bytes_eq-Decides}
use Rattle.value_core.specs.declared.cursor.FilePlace.{FilePlace}
use Rattle.landing_core.specs.declared.landing.LandingFile.{LandingFile}
use Rattle.landing_core.specs.declared.landing.Listed.{Listed}
use Rattle.landing_core.specs.Folders.{AreThere, HoldsPresent, bytes_of, listed_names}
use Rattle.landing_core.specs.Fresh.{reach, reach_from, reach_of, shrunk}
use Rattle.landing_core.specs.Lines.{complete_len}
use Rattle.landing_core.specs.Names.{AreAscending, IsBefore}
use Rattle.landing_core.specs.Places.{moved, place_of}
use Rattle.landing_history.specs.Readings.{AreLastEnds, is_listed}
use Rattle.landing_history.specs.Taken.{AreEnds, CanReadOn}
use Rattle.landing_history.proofs.PlaceWalks.{apart, move_keeps}
use Rattle.landing_history.proofs.ReadingLemmas.{Waits, before_more, place_ends, reach_is, still_waits, unshrunk_first, waits_at_first}
use Rattle.landing_history.proofs.WholeReadings.{moved_place, whole_len}

-- ---- a file that isn't listed keeps its place

first_out : (a b : Bool) → (a || b) ≡ false → (a ≡ false) × (b ≡ false)
first_out false b out = (refl, out)
first_out true b out = absurd (let never : ⊥ = cc in never)

keeps_from : (dir : List ℕ) (present : List LandingFile) (places so_far : List FilePlace) (listing : List Listed) (name : List ℕ) → is_listed name listing ≡ false → place_of (reach_from dir present places so_far listing) name ≡ place_of so_far name
keeps_from dir present places so_far [] name out = refl
keeps_from dir present places so_far (listed ∷ more) name out =
    let apart_from = first_out (bytes_eq listed.file name) (is_listed name more) out in
    keeps_from dir present places (moved listed.file (reach_of dir present places listed) so_far) more name apart_from.1 ∙ move_keeps listed.file name (reach_of dir present places listed) so_far apart_from.0

pub reach_keeps : (dir : List ℕ) (present : List LandingFile) (places : List FilePlace) (listing : List Listed) (name : List ℕ) → is_listed name listing ≡ false → place_of (reach dir present places listing) name ≡ place_of places name
reach_keeps dir present places listing = keeps_from dir present places places listing

-- ---- a listed file is reached up to its last complete line

unlisted_behind : (file : List ℕ) (more : List Listed) → IsBefore file (listed_names more) → AreAscending (listed_names more) → is_listed file more ≡ false
unlisted_behind file [] first up = refl
unlisted_behind file (next ∷ more) first up =
    let other : bytes_eq next.file file ≡ false = apart next.file file (bytes_eq next.file file) refl first in
    rw other (unlisted_behind file more (before_more file next.file more first up.0) up.1)

last_from : (dir : List ℕ) (present ever : List LandingFile) (places so_far : List FilePlace) (listing : List Listed) → AreAscending (listed_names listing) → HoldsPresent present ever → AreThere dir present listing → shrunk places listing ≡ None → AreEnds dir ever places → Waits places so_far listing → AreLastEnds dir ever (reach_from dir present places so_far listing) listing
last_from dir present ever places so_far [] up held there none ends waits = tt
last_from dir present ever places so_far (listed ∷ more) up held there none ends waits =
    let first = unshrunk_first places listed more none in
    let bytes = bytes_of dir listed.file ever in
    let place = reach_of dir present places listed in
    let next = moved listed.file place so_far in
    let here : place_of (reach_from dir present places next more) listed.file ≡ place_of next listed.file = keeps_from dir present places next more listed.file (unlisted_behind listed.file more up.0 up.1) in
    let own : place_of next listed.file ≡ place = moved_place listed.file listed.file place so_far (omega (arith, waits.0)) ∙ rw ((bytes_eq-Decides listed.file listed.file).1 refl) refl in
    let last : place ≡ complete_len (take listed.size bytes) = reach_is dir present ever places listed held there.0 first.0 ∙ sym (whole_len bytes (place_of places listed.file) listed.size (place_ends dir listed.file ever places ends) first.0) in
    (here ∙ own ∙ last, last_from dir present ever places next more up.1 held there.1 first.1 ends (still_waits places so_far listed.file place more up.0 up.1 waits.1))

pub reach_last : (dir : List ℕ) (present ever : List LandingFile) (places : List FilePlace) (listing : List Listed) → CanReadOn dir present ever places listing → AreEnds dir ever places → AreLastEnds dir ever (reach dir present places listing) listing
reach_last dir present ever places listing can ends = last_from dir present ever places places listing can.named can.held can.there can.unshrunk ends (waits_at_first places listing)
