-- Places that a reading has reached: read again, the same listing has nothing new.
use Rattle.std.proofs.Common.{◌≡◌, ℕ, ◌+◌, ◌-◌, ◌<◌, ◌≤◌, List, [], ◌∷◌, length, drop, take, Bool, true, false, cond, eqb, nat_lt, ◌||◌, refl, sym, ap, ◌∙◌, subst, Some, None, Option, Ordering, Less, Equal, Greater, nat_cmp, bytes_eq, add-one, arith, length-drop}
use Rattle.std.specs.Prelude.{slice_range}
use Rattle.std.specs.Ordering.{match_ordering}
use Rattle.std.specs.Cmp.Lexicographic.{slice_cmp}
use Rattle.std.proofs.lemmas.Bool.Decides.{nat_tests}
use Rattle.std.proofs.lemmas.List.{drop-drop, length-take}
use Rattle.std.proofs.lemmas.Slice.Eq.{bytes_eq-Decides}
use Rattle.value_core.specs.declared.cursor.FilePlace.{FilePlace}
use Rattle.value_core.specs.FilePlaces.{IsPlaces}
use Rattle.landing_core.specs.declared.landing.LandingFile.{LandingFile}
use Rattle.landing_core.specs.declared.landing.Listed.{Listed}
use Rattle.landing_core.specs.Folders.{bytes_of, listed_names}
use Rattle.landing_core.specs.Fresh.{reach, reach_from, reach_of, shrunk}
use Rattle.landing_core.specs.Lines.{complete_len}
use Rattle.landing_core.specs.Names.{AreAscending, IsBefore}
use Rattle.landing_core.specs.Places.{AreAboveZero, moved, place_of, placed, placed_names}
use Rattle.landing_core.proofs.PlaceLawLemmas.{moved_above, same_names}
use Rattle.landing_history.specs.Readings.{is_listed}
use Rattle.landing_history.proofs.FileLemmas.{front_range}
use Rattle.landing_history.proofs.LineCuts.{complete_short}
use Rattle.landing_history.proofs.PlaceWalks.{apart, move_keeps, unplaced}
use Rattle.landing_history.proofs.ReadingLemmas.{Waits, before_more, still_waits, unshrunk_first, waits_at_first}
use Rattle.landing_history.proofs.WholeReadings.{moved_place, one_form, reach_ascending}

-- ---- behind the last complete line there is none

behind_by : (b : ℕ) (bytes : List ℕ) (none lf : Bool) → eqb (complete_len bytes) 0 ≡ none → eqb b 10 ≡ lf → complete_len (drop (complete_len bytes) bytes) ≡ 0 → complete_len (drop (cond none (cond lf 1 0) (complete_len bytes + 1)) (b ∷ bytes)) ≡ 0
behind_by b bytes true true none lf behind = grind (arith, nat_tests)
behind_by b bytes true false none lf behind = rw (none, lf) refl
behind_by b bytes false lf none is behind = rw (add-one (complete_len bytes)) behind

none_behind : (bytes : List ℕ) → complete_len (drop (complete_len bytes) bytes) ≡ 0
none_behind [] = refl
none_behind (b ∷ bytes) = behind_by b bytes (eqb (complete_len bytes) 0) (eqb b 10) refl refl (none_behind bytes)

-- a range of a list isn't longer than it is wide
range_short : (bytes : List ℕ) (place size : ℕ) → place ≤ size → length (slice_range bytes place size) ≤ size - place
range_short bytes place size later =
    let is : length (slice_range bytes place size) ≡ length (drop place (take size bytes)) = ap length (front_range bytes place size later) in
    omega (arith, is, length-drop place (take size bytes), length-take size bytes)

abbrev new_len : List ℕ → ℕ → ℕ → ℕ
new_len bytes place size = complete_len (slice_range bytes place size)

reach_within : (bytes : List ℕ) (place size : ℕ) → place ≤ size → place + new_len bytes place size ≤ size
reach_within bytes place size later = omega (arith, later, range_short bytes place size later, complete_short (slice_range bytes place size))

nothing_left : (bytes : List ℕ) (place size : ℕ) → place ≤ size → new_len bytes (place + new_len bytes place size) size ≡ 0
nothing_left bytes place size later =
    let n = new_len bytes place size in
    let front = take size bytes in
    let rest : slice_range bytes (place + n) size ≡ drop n (slice_range bytes place size) = front_range bytes (place + n) size (reach_within bytes place size later) ∙ sym (drop-drop n place front) ∙ ap (drop n) (sym (front_range bytes place size later)) in
    ap complete_len rest ∙ none_behind (slice_range bytes place size)

-- a listed file that was reached is reached no further
reached_again : (dir : List ℕ) (files : List LandingFile) (places now : List FilePlace) (listed : Listed) → place_of places listed.file ≤ listed.size → place_of now listed.file ≡ reach_of dir files places listed → reach_of dir files now listed ≡ place_of now listed.file
reached_again dir files places now listed later is =
    let bytes = bytes_of dir listed.file files in
    let none : new_len bytes (place_of now listed.file) listed.size ≡ 0 = ap (λ place. new_len bytes place listed.size) is ∙ nothing_left bytes (place_of places listed.file) listed.size later in
    omega (arith, none)

-- ---- where a reading leaves the listed files

abbrev AreReached : List ℕ → List LandingFile → List FilePlace → List FilePlace → List Listed → Type 0
AreReached dir files places now [] = Unit {0}
AreReached dir files places now (listed ∷ more) = (place_of now listed.file ≡ reach_of dir files places listed) × AreReached dir files places now more

first_out : (test rest : Bool) → (test || rest) ≡ false → (test ≡ false) × (rest ≡ false)
first_out false rest out = (refl, out)
first_out true rest out = absurd (let never : ⊥ = cc in never)

keeps_from : (dir : List ℕ) (files : List LandingFile) (places so_far : List FilePlace) (listing : List Listed) (name : List ℕ) → is_listed name listing ≡ false → place_of (reach_from dir files places so_far listing) name ≡ place_of so_far name
keeps_from dir files places so_far [] name out = refl
keeps_from dir files places so_far (listed ∷ more) name out =
    let apart_from = first_out (bytes_eq listed.file name) (is_listed name more) out in
    keeps_from dir files places (moved listed.file (reach_of dir files places listed) so_far) more name apart_from.1 ∙ move_keeps listed.file name (reach_of dir files places listed) so_far apart_from.0

unlisted_behind : (file : List ℕ) (more : List Listed) → IsBefore file (listed_names more) → AreAscending (listed_names more) → is_listed file more ≡ false
unlisted_behind file [] first up = refl
unlisted_behind file (next ∷ more) first up =
    let other : bytes_eq next.file file ≡ false = apart next.file file (bytes_eq next.file file) refl first in
    rw other (unlisted_behind file more (before_more file next.file more first up.0) up.1)

reached_from : (dir : List ℕ) (files : List LandingFile) (places so_far : List FilePlace) (listing : List Listed) → AreAscending (listed_names listing) → Waits places so_far listing → AreReached dir files places (reach_from dir files places so_far listing) listing
reached_from dir files places so_far [] up waits = tt
reached_from dir files places so_far (listed ∷ more) up waits =
    let place = reach_of dir files places listed in
    let next = moved listed.file place so_far in
    let here : place_of (reach_from dir files places next more) listed.file ≡ place_of next listed.file = keeps_from dir files places next more listed.file (unlisted_behind listed.file more up.0 up.1) in
    let own : place_of next listed.file ≡ place = moved_place listed.file listed.file place so_far (omega (arith, waits.0)) ∙ rw ((bytes_eq-Decides listed.file listed.file).1 refl) refl in
    (here ∙ own, reached_from dir files places next more up.1 (still_waits places so_far listed.file place more up.0 up.1 waits.1))

-- ---- a place that is put where it stands changes nothing

abbrev entry : List ℕ → ℕ → FilePlace
entry file place = record { file = file; place = place }

put_by : (file : List ℕ) (place : ℕ) (known : FilePlace) (more : List FilePlace) (o : Ordering) → slice_cmp nat_cmp file known.file ≡ o → AreAscending (placed_names (known ∷ more)) → 0 < place → place_of (known ∷ more) file ≡ place
    → (place_of more file ≡ place → placed file place more ≡ more) → match_ordering o (entry file place ∷ known ∷ more) (entry file place ∷ more) (known ∷ placed file place more) ≡ known ∷ more
put_by file place known more Less is up above at later =
    absurd (let none : place_of (known ∷ more) file ≡ 0 = unplaced file (known ∷ more) is up in let never : ⊥ = omega (arith, none, at, above) in never)
put_by file place known more Equal is up above at later =
    let same : file ≡ known.file = same_names file known.file is in
    let own : place_of (known ∷ more) file ≡ known.place = ap (place_of (known ∷ more)) same ∙ rw ((bytes_eq-Decides known.file known.file).1 refl) refl in
    let here : place ≡ known.place = sym at ∙ own in
    λ i. record { file = same i; place = here i } ∷ more
put_by file place known more Greater is up above at later =
    let other : bytes_eq known.file file ≡ false = differs file known.file (bytes_eq known.file file) refl is in
    ap (λ rest. known ∷ rest) (later (rw other at at))
  where
    differs : (file name : List ℕ) (test : Bool) → bytes_eq name file ≡ test → slice_cmp nat_cmp file name ≡ Greater → test ≡ false
    differs file name false same is = refl
    differs file name true same is =
        let e : name ≡ file = (bytes_eq-Decides name file).0 same in
        let tied : slice_cmp nat_cmp file file ≡ Equal = Rattle.std.proofs.lemmas.Cmp.tied_itself Rattle.std.proofs.lemmas.Cmp.nat_list_cmp_total file in
        let greater : slice_cmp nat_cmp file file ≡ Greater = subst (λ n. slice_cmp nat_cmp file n ≡ Greater) e is in
        absurd (let never : ⊥ = cc (tied, greater) in never)

put_again : (file : List ℕ) (place : ℕ) (places : List FilePlace) → AreAscending (placed_names places) → 0 < place → place_of places file ≡ place → placed file place places ≡ places
put_again file place [] up above at = absurd (let never : ⊥ = omega (arith, at, above) in never)
put_again file place (known ∷ more) up above at = put_by file place known more (slice_cmp nat_cmp file known.file) refl up above at (put_again file place more up.1 above)

moved_by : (file : List ℕ) (place : ℕ) (places : List FilePlace) (test : Bool) → eqb place 0 ≡ test → AreAscending (placed_names places) → place_of places file ≡ place → cond test places (placed file place places) ≡ places
moved_by file place places true is up at = refl
moved_by file place places false is up at =
    let above : 0 < place = grind (arith, nat_tests) in
    put_again file place places up above at

moved_again : (file : List ℕ) (place : ℕ) (places : List FilePlace) → AreAscending (placed_names places) → place_of places file ≡ place → moved file place places ≡ places
moved_again file place places = moved_by file place places (eqb place 0) refl

-- ---- a listing that was read

again_from : (dir : List ℕ) (files : List LandingFile) (places now : List FilePlace) (listing : List Listed) → AreAscending (placed_names now) → shrunk places listing ≡ None → AreReached dir files places now listing → reach_from dir files now now listing ≡ now
again_from dir files places now [] up none reached = refl
again_from dir files places now (listed ∷ more) up none reached =
    let first = unshrunk_first places listed more none in
    let place = reach_of dir files now listed in
    let stays : moved listed.file place now ≡ now = moved_again listed.file place now up (sym (reached_again dir files places now listed first.0 reached.0)) in
    ap (λ so_far. reach_from dir files now so_far more) stays ∙ again_from dir files places now more up first.1 reached.1

unshrunk_by : (listed : Listed) (place : ℕ) (rest : Option Listed) (test : Bool) → nat_lt listed.size place ≡ test → place ≤ listed.size → rest ≡ None → cond test (Some listed) rest ≡ None
unshrunk_by listed place rest true is within none = absurd (let never : ⊥ = grind (arith, nat_tests) in never)
unshrunk_by listed place rest false is within none = none

unshrunk_from : (dir : List ℕ) (files : List LandingFile) (places now : List FilePlace) (listing : List Listed) → shrunk places listing ≡ None → AreReached dir files places now listing → shrunk now listing ≡ None
unshrunk_from dir files places now [] none reached = refl
unshrunk_from dir files places now (listed ∷ more) none reached =
    let first = unshrunk_first places listed more none in
    let within : place_of now listed.file ≤ listed.size = omega (arith, reached.0, reach_within (bytes_of dir listed.file files) (place_of places listed.file) listed.size first.0) in
    unshrunk_by listed (place_of now listed.file) (shrunk now more) (nat_lt listed.size (place_of now listed.file)) refl within (unshrunk_from dir files places now more first.1 reached.1)

above_from : (dir : List ℕ) (files : List LandingFile) (places so_far : List FilePlace) (listing : List Listed) → AreAboveZero so_far → AreAboveZero (reach_from dir files places so_far listing)
above_from dir files places so_far [] above = above
above_from dir files places so_far (listed ∷ more) above =
    above_from dir files places (moved listed.file (reach_of dir files places listed) so_far) more (moved_above listed.file (reach_of dir files places listed) so_far above)

-- what a reading reaches are places again, none of them behind the end of its file, and the same listing reaches no further
pub record IsRead (dir : List ℕ) (files : List LandingFile) (listing : List Listed) (now : List FilePlace) : Type 0 where
  pub form : IsPlaces now
  pub none : shrunk now listing ≡ None
  pub again : reach dir files now listing ≡ now

pub is_read : (dir : List ℕ) (files : List LandingFile) (places : List FilePlace) (listing : List Listed) → AreAscending (listed_names listing) → IsPlaces places → shrunk places listing ≡ None → IsRead dir files listing (reach dir files places listing)
is_read dir files places listing names form none =
    let now = reach dir files places listing in
    let were = (one_form places).0 form in
    let up : AreAscending (placed_names now) = reach_ascending dir files places places listing were.0 in
    let reached : AreReached dir files places now listing = reached_from dir files places places listing names (waits_at_first places listing) in
    record {
      form = (one_form now).1 (up, above_from dir files places places listing were.1);
      none = unshrunk_from dir files places now listing none reached;
      again = again_from dir files places now listing up none reached;
    }
