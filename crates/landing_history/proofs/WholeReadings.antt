-- A reading from any ends of lines reaches as far as one from the beginning.
use Rattle.std.proofs.Common.{◌≡◌, ◌↔◌, ℕ, zero, suc, ◌+◌, ◌-◌, ◌<◌, ◌≤◌, List, [], ◌∷◌, ◌++◌, length, get_or, take, Bool, true, false, cond, eqb, nat_lt, ◌||◌, refl, sym, ap, ◌∙◌, subst, None, Ordering, Less, Equal, Greater, nat_cmp, bytes_eq, arith}
use Rattle.std.specs.Prelude.{slice_range}
use Rattle.std.specs.Cmp.Lexicographic.{slice_cmp}
use Rattle.std.proofs.lemmas.Cmp.{nat_list_cmp_total}
use Rattle.std.proofs.lemmas.Bool.Decides.{nat_tests}
use Rattle.std.proofs.lemmas.Slice.Eq.{bytes_eq-Decides}
use Rattle.value_core.specs.declared.cursor.FilePlace.{FilePlace}
use Rattle.value_core.specs.FilePlaces.{IsBelowFiles, IsPlaces}
use Rattle.landing_core.specs.declared.landing.LandingFile.{LandingFile}
use Rattle.landing_core.specs.declared.landing.Listed.{Listed}
use Rattle.landing_core.specs.Folders.{AreThere, HoldsPresent, bytes_of, listed_names}
use Rattle.landing_core.specs.Fresh.{reach, reach_from, reach_of, shrunk}
use Rattle.landing_core.specs.Lines.{complete_len}
use Rattle.landing_core.specs.Names.{AreAscending, IsBefore}
use Rattle.landing_core.specs.Places.{AreAboveZero, moved, place_of, placed, placed_names}
use Rattle.landing_core.proofs.PlaceLawLemmas.{less_back, moved_ascending, placed_place, same_names}
use Rattle.landing_history.specs.Readings.{AreListed, is_listed}
use Rattle.landing_history.specs.Taken.{AreEnds, CanReadOn}
use Rattle.landing_history.proofs.LineCuts.{EndsAt, length_at_lf, split_at_lf}
use Rattle.landing_history.proofs.FileLemmas.{end_of}
use Rattle.landing_history.proofs.PlaceWalks.{unplaced}
use Rattle.landing_history.proofs.ReadingLemmas.{Waits, place_ends, reach_at_ends, reach_is, still_waits, unshrunk_first, waits_at_first}

-- ---- the complete lines of a file's front end behind the place where they end behind the place

lf_by : (n : ℕ) (test : Bool) → eqb n 0 ≡ test → cond test 1 (n + 1) ≡ 1 + n
lf_by n true is = grind (arith, nat_tests)
lf_by n false is = omega arith

more_by : (n m k x : ℕ) (test : Bool) → eqb n 0 ≡ test → n ≡ m + 1 + k → cond test x (n + 1) ≡ suc m + 1 + k
more_by n m k x true is total = absurd (let never : ⊥ = grind (arith, nat_tests) in never)
more_by n m k x false is total = omega arith

complete_behind : (front behind : List ℕ) → complete_len (front ++ 10 ∷ behind) ≡ length front + 1 + complete_len behind
complete_behind [] behind = lf_by (complete_len behind) (eqb (complete_len behind) 0) refl ∙ omega arith
complete_behind (b ∷ front) behind =
    more_by (complete_len (front ++ 10 ∷ behind)) (length front) (complete_len behind) (cond (eqb b 10) 1 0) (eqb (complete_len (front ++ 10 ∷ behind)) 0) refl (complete_behind front behind)

pub whole_len : (bytes : List ℕ) (place size : ℕ) → EndsAt bytes place → place ≤ size → complete_len (take size bytes) ≡ end_of bytes place size
whole_len bytes zero size ends later =
    let same : size ≡ size - 0 = omega arith in
    ap (λ n. complete_len (take n bytes)) same ∙ omega arith
whole_len bytes (suc i) size ends later =
    let back : suc i - 1 ≡ i = omega arith in
    let is : get_or bytes i 0 ≡ 10 = rw back at (ends (omega arith)) in
    let next : i + 1 ≡ suc i = omega arith in
    let at : complete_len (take size bytes) ≡ i + 1 + complete_len (slice_range bytes (i + 1) size) = ap complete_len (split_at_lf bytes i size is (omega arith)) ∙ complete_behind (take i bytes) (slice_range bytes (i + 1) size) ∙ ap (λ n. n + 1 + complete_len (slice_range bytes (i + 1) size)) (length_at_lf bytes i is) in
    subst (λ n. complete_len (take size bytes) ≡ end_of bytes n size) next at

-- ---- a listed file is reached alike from its place and from its beginning

reach_alike : (dir : List ℕ) (present ever : List LandingFile) (places : List FilePlace) (listed : Listed) → HoldsPresent present ever → listed.size ≤ length (bytes_of dir listed.file present) → place_of places listed.file ≤ listed.size → AreEnds dir ever places → reach_of dir present places listed ≡ reach_of dir present [] listed
reach_alike dir present ever places listed held within later ends =
    let bytes = bytes_of dir listed.file ever in
    let first : EndsAt bytes 0 = λ above. absurd (let never : ⊥ = omega arith in never) in
    reach_is dir present ever places listed held within later ∙ sym (whole_len bytes (place_of places listed.file) listed.size (place_ends dir listed.file ever places ends) later) ∙ whole_len bytes 0 listed.size first (omega arith) ∙ sym (reach_is dir present ever [] listed held within (omega arith))

-- ---- the place that a file has once another or the same was moved

moved_zero : (file name : List ℕ) (place was : ℕ) (places : List FilePlace) (test : Bool) → bytes_eq file name ≡ test → place ≡ 0 → place_of places file ≤ place → place_of places name ≡ cond test place (place_of places name)
moved_zero file name place was places false is none low = refl
moved_zero file name place was places true is none low =
    let same : file ≡ name = (bytes_eq-Decides file name).0 is in
    omega (arith, ap (place_of places) same)

moved_by : (file name : List ℕ) (place : ℕ) (places : List FilePlace) (test : Bool) → eqb place 0 ≡ test → place_of places file ≤ place → place_of (cond test places (placed file place places)) name ≡ cond (bytes_eq file name) place (place_of places name)
moved_by file name place places true is low = moved_zero file name place 0 places (bytes_eq file name) refl (grind (arith, nat_tests)) low
moved_by file name place places false is low = placed_place file name place places

pub moved_place : (file name : List ℕ) (place : ℕ) (places : List FilePlace) → place_of places file ≤ place → place_of (moved file place places) name ≡ cond (bytes_eq file name) place (place_of places name)
moved_place file name place places low = moved_by file name place places (eqb place 0) refl low

-- ---- all files, listed or not, come to the same places

abbrev Alike : List FilePlace → List FilePlace → List Listed → Type 0
Alike left right listing = (name : List ℕ) → is_listed name listing ≡ false → place_of left name ≡ place_of right name

alike_by : (name : List ℕ) (more : List Listed) (place : ℕ) (left right : List FilePlace) (test : Bool) → is_listed name more ≡ false → ((test || is_listed name more) ≡ false → place_of left name ≡ place_of right name) → cond test place (place_of left name) ≡ cond test place (place_of right name)
alike_by name more place left right true out alike = refl
alike_by name more place left right false out alike = alike out

alike_more : (file : List ℕ) (size place reached : ℕ) (more : List Listed) (left right : List FilePlace) → place ≡ reached → place_of left file ≤ place → place_of right file ≤ reached → Alike left right ((record { file = file; size = size }) ∷ more) → Alike (moved file place left) (moved file reached right) more
alike_more file size place reached more left right same low_left low_right alike name out =
    let to_left : place_of (moved file place left) name ≡ cond (bytes_eq file name) place (place_of left name) = moved_place file name place left low_left in
    let to_right : place_of (moved file reached right) name ≡ cond (bytes_eq file name) reached (place_of right name) = moved_place file name reached right low_right in
    to_left ∙ alike_by name more place left right (bytes_eq file name) out (alike name) ∙ ap (λ p. cond (bytes_eq file name) p (place_of right name)) same ∙ sym to_right

unshrunk_first_time : (listing : List Listed) → shrunk [] listing ≡ None
unshrunk_first_time [] = refl
unshrunk_first_time (listed ∷ more) =
    let above : nat_lt listed.size 0 ≡ false = not_below listed.size (nat_lt listed.size 0) refl in
    rw above (unshrunk_first_time more)
  where
    not_below : (n : ℕ) (test : Bool) → nat_lt n 0 ≡ test → test ≡ false
    not_below n false is = refl
    not_below n true is = absurd (let never : ⊥ = grind (arith, nat_tests) in never)

alike_from : (dir : List ℕ) (present ever : List LandingFile) (places left right : List FilePlace) (listing : List Listed) → AreAscending (listed_names listing) → HoldsPresent present ever → AreThere dir present listing → shrunk places listing ≡ None → AreEnds dir ever places → Waits places left listing → Waits [] right listing → Alike left right listing → Alike (reach_from dir present places left listing) (reach_from dir present [] right listing) []
alike_from dir present ever places left right [] up held there none ends on_left on_right alike = alike
alike_from dir present ever places left right (listed ∷ more) up held there none ends on_left on_right alike =
    let first = unshrunk_first places listed more none in
    let place = reach_of dir present places listed in
    let reached = reach_of dir present [] listed in
    let same : place ≡ reached = reach_alike dir present ever places listed held there.0 first.0 ends in
    let next : Alike (moved listed.file place left) (moved listed.file reached right) more = alike_more listed.file listed.size place reached more left right same (omega (arith, on_left.0)) (omega (arith, on_right.0)) alike in
    alike_from dir present ever places (moved listed.file place left) (moved listed.file reached right) more up.1 held there.1 first.1 ends (still_waits places left listed.file place more up.0 up.1 on_left.1) (still_waits [] right listed.file reached more up.0 up.1 on_right.1) next

unlisted_by : (name : List ℕ) (known : FilePlace) (place : ℕ) (listing : List Listed) (test : Bool) → bytes_eq known.file name ≡ test → is_listed known.file listing ≡ true → is_listed name listing ≡ false → place ≡ 0 → cond test known.place place ≡ 0
unlisted_by name known place listing true is listed out none =
    let same : known.file ≡ name = (bytes_eq-Decides known.file name).0 is in
    let both : true ≡ false = sym listed ∙ ap (λ n. is_listed n listing) same ∙ out in
    absurd (let never : ⊥ = cc in never)
unlisted_by name known place listing false is listed out none = none

unlisted : (places : List FilePlace) (listing : List Listed) → AreListed places listing → Alike places [] listing
unlisted [] listing all name out = refl
unlisted (known ∷ more) listing all name out =
    unlisted_by name known (place_of more name) listing (bytes_eq known.file name) refl all.0 out (unlisted more listing all.1 name out)

-- ---- places in order are one list where they are the same for each file

pub ends_above : (dir : List ℕ) (ever : List LandingFile) (places : List FilePlace) → AreEnds dir ever places → AreAboveZero places
ends_above dir ever [] ends = tt
ends_above dir ever (known ∷ more) ends = (ends.0.0, ends_above dir ever more ends.1)

pub reach_ascending : (dir : List ℕ) (present : List LandingFile) (places so_far : List FilePlace) (listing : List Listed) → AreAscending (placed_names so_far) → AreAscending (placed_names (reach_from dir present places so_far listing))
reach_ascending dir present places so_far [] up = up
reach_ascending dir present places so_far (listed ∷ more) up =
    reach_ascending dir present places (moved listed.file (reach_of dir present places listed) so_far) more (moved_ascending listed.file (reach_of dir present places listed) so_far up)

own_place : (known : FilePlace) (more : List FilePlace) → place_of (known ∷ more) known.file ≡ known.place
own_place known more = rw ((bytes_eq-Decides known.file known.file).1 refl) refl

never_below : (x y : FilePlace) (xs ys : List FilePlace) → AreAscending (placed_names (y ∷ ys)) → 0 < x.place → slice_cmp nat_cmp x.file y.file ≡ Less → place_of (x ∷ xs) x.file ≡ place_of (y ∷ ys) x.file → ⊥
never_below x y xs ys up above less same =
    let none : place_of (y ∷ ys) x.file ≡ 0 = unplaced x.file (y ∷ ys) less up in
    omega (arith, own_place x xs)

rest_by : (name : List ℕ) (x : FilePlace) (left right : ℕ) (test : Bool) → (test ≡ true → (left ≡ 0) × (right ≡ 0)) → cond test x.place left ≡ cond test x.place right → left ≡ right
rest_by name x left right true none same = (none refl).0 ∙ sym (none refl).1
rest_by name x left right false none same = same

rest_alike : (x : FilePlace) (xs ys : List FilePlace) → AreAscending (placed_names (x ∷ xs)) → AreAscending (placed_names (x ∷ ys)) → ((name : List ℕ) → place_of (x ∷ xs) name ≡ place_of (x ∷ ys) name) → (name : List ℕ) → place_of xs name ≡ place_of ys name
rest_alike x xs ys left right same name =
    rest_by name x (place_of xs name) (place_of ys name) (bytes_eq x.file name) (λ is.
    let here : x.file ≡ name = (bytes_eq-Decides x.file name).0 is in
    (ap (place_of xs) (sym here) ∙ unplaced x.file xs left.0 left.1, ap (place_of ys) (sym here) ∙ unplaced x.file ys right.0 right.1)) (same name)

one_list_by : (x y : FilePlace) (xs ys : List FilePlace) (o : Ordering) → slice_cmp nat_cmp x.file y.file ≡ o → AreAscending (placed_names (x ∷ xs)) → AreAscending (placed_names (y ∷ ys)) → 0 < x.place → 0 < y.place → ((name : List ℕ) → place_of (x ∷ xs) name ≡ place_of (y ∷ ys) name) → x ≡ y
one_list_by x y xs ys Less is left right above_x above_y same = absurd (never_below x y xs ys right above_x is (same x.file))
one_list_by x y xs ys Greater is left right above_x above_y same = absurd (never_below y x ys xs left above_y (less_back x.file y.file is) (sym (same y.file)))
one_list_by x y xs ys Equal is left right above_x above_y same =
    let file : x.file ≡ y.file = same_names x.file y.file is in
    let place : x.place ≡ y.place = sym (own_place x xs) ∙ same x.file ∙ ap (place_of (y ∷ ys)) file ∙ own_place y ys in
    λ i. record { file = file i; place = place i }

one_list : (xs ys : List FilePlace) → AreAscending (placed_names xs) → AreAscending (placed_names ys) → AreAboveZero xs → AreAboveZero ys → ((name : List ℕ) → place_of xs name ≡ place_of ys name) → xs ≡ ys
one_list [] [] left right above_left above_right same = refl
one_list [] (y ∷ ys) left right above_left above_right same = absurd (let never : ⊥ = omega (arith, same y.file, own_place y ys, above_right.0) in never)
one_list (x ∷ xs) [] left right above_left above_right same = absurd (let never : ⊥ = omega (arith, same x.file, own_place x xs, above_left.0) in never)
one_list (x ∷ xs) (y ∷ ys) left right above_left above_right same =
    let first : x ≡ y = one_list_by x y xs ys (slice_cmp nat_cmp x.file y.file) refl left right above_left.0 above_right.0 same in
    let moved_up : AreAscending (placed_names (x ∷ ys)) = subst (λ (z : FilePlace). AreAscending (placed_names (z ∷ ys))) (sym first) right in
    let alike : (name : List ℕ) → place_of (x ∷ xs) name ≡ place_of (x ∷ ys) name = λ name. same name ∙ ap (λ (z : FilePlace). place_of (z ∷ ys) name) (sym first) in
    let rest : xs ≡ ys = one_list xs ys left.1 right.1 above_left.1 above_right.1 (rest_alike x xs ys left moved_up alike) in
    λ i. first i ∷ rest i

pub whole_reach : (dir : List ℕ) (present ever : List LandingFile) (places : List FilePlace) (listing : List Listed) → CanReadOn dir present ever places listing → AreAscending (placed_names places) → AreEnds dir ever places → AreListed places listing → reach dir present places listing ≡ reach dir present [] listing
whole_reach dir present ever places listing can up ends all =
    let afresh : CanReadOn dir present ever [] listing = record { named = can.named; there = can.there; held = can.held; unshrunk = unshrunk_first_time listing } in
    let same : Alike (reach dir present places listing) (reach dir present [] listing) [] = alike_from dir present ever places places [] listing can.named can.held can.there can.unshrunk ends (waits_at_first places listing) (waits_at_first [] listing) (unlisted places listing all) in
    one_list (reach dir present places listing) (reach dir present [] listing) (reach_ascending dir present places places listing up) (reach_ascending dir present [] [] listing tt) (ends_above dir ever (reach dir present places listing) (reach_at_ends dir present ever places listing can ends)) (ends_above dir ever (reach dir present [] listing) (reach_at_ends dir present ever [] listing afresh tt)) (λ name. same name refl)

-- ---- the two forms of places

above_before : (file : List ℕ) (places : List FilePlace) → IsBelowFiles file places → IsBefore file (placed_names places)
above_before file [] below = tt
above_before file (next ∷ places) below = below.0

before_above : (file : List ℕ) (places : List FilePlace) → IsBefore file (placed_names places) → AreAscending (placed_names places) → IsBelowFiles file places
before_above file [] first up = tt
before_above file (next ∷ places) first up = (first, below_rest file next.file places first (before_above next.file places up.0 up.1))
  where
    below_rest : (file name : List ℕ) (places : List FilePlace) → slice_cmp nat_cmp file name ≡ Less → IsBelowFiles name places → IsBelowFiles file places
    below_rest file name [] less below = tt
    below_rest file name (next ∷ places) less below = (nat_list_cmp_total.trans file name next.file less below.0, below_rest file name places less below.1)

to_form : (places : List FilePlace) → IsPlaces places → AreAscending (placed_names places) × AreAboveZero places
to_form [] are = (tt, tt)
to_form (first ∷ places) are =
    let rest = to_form places are.2 in
    ((above_before first.file places are.1, rest.0), (are.0, rest.1))

from_form : (places : List FilePlace) → AreAscending (placed_names places) → AreAboveZero places → IsPlaces places
from_form [] up above = tt
from_form (first ∷ places) up above = (above.0, before_above first.file places up.0 up.1, from_form places up.1 above.1)

pub one_form : (places : List FilePlace) → IsPlaces places ↔ (AreAscending (placed_names places) × AreAboveZero places)
one_form places = (to_form places, λ form. from_form places form.0 form.1)
