-- Places of which none falls pass the store's test.
use Rattle.std.proofs.Common.{◌≡◌, ℕ, ◌<◌, ◌≤◌, Bool, true, false, cond, ◌&&◌, ◌||◌, List, [], ◌∷◌, refl, sym, ◌∙◌, subst, arith, bytes_eq, nat_cmp, Less, Equal}
use Rattle.std.specs.Prelude.{nat_le}
use Rattle.std.specs.List.{list_any}
use Rattle.std.specs.Cmp.{tied_itself}
use Rattle.std.specs.Cmp.Lexicographic.{slice_cmp}
use Rattle.std.proofs.lemmas.Cmp.{nat_list_cmp_total}
use Rattle.std.proofs.lemmas.Bool.Decides.{nat_tests}
use Rattle.std.proofs.lemmas.Slice.Eq.{bytes_eq-Decides}
use Rattle.value_core.specs.declared.cursor.FilePlace.{FilePlace}
use Rattle.value_core.specs.FilePlaces.{IsBelowFiles, IsPlaces}
use Rattle.landing_core.specs.Places.{NoneFalls, place_of}
use Rattle.state_model.specs.Follows.{is_kept, keeps_place, none_falls}

by_cases : {P : Type 0} (b : Bool) → (b ≡ true → P) → (b ≡ false → P) → P
by_cases true yes_case no_case = yes_case refl
by_cases false yes_case no_case = no_case refl

apart : (file other : List ℕ) → slice_cmp nat_cmp file other ≡ Less → other ≡ file → ⊥
apart file other below same =
    let itself : slice_cmp nat_cmp file file ≡ Equal = tied_itself nat_list_cmp_total file in
    let less : slice_cmp nat_cmp file file ≡ Less = subst (λ name. slice_cmp nat_cmp file name ≡ Less) same below in
    let wrong : Less ≡ Equal = sym less ∙ itself in cc

-- a name below the names of all places has none
place-below : (file : List ℕ) (places : List FilePlace) → IsBelowFiles file places → place_of places file ≡ 0
place-below file [] below = refl
place-below file (known ∷ more) below =
    by_cases (bytes_eq known.file file)
    (λ t. absurd (apart file known.file below.0 ((bytes_eq-Decides known.file file).0 t)))
    (λ f. rw f (place-below file more below.1))

-- each place of these is above 0, and not above that of its file among the others
abbrev Rise : List FilePlace → List FilePlace → Type 0
Rise [] now = Unit {0}
Rise (old ∷ places) now = (0 < old.place) × (old.place ≤ place_of now old.file) × Rise places now

first-rises : (old : FilePlace) (places now : List FilePlace) → NoneFalls (old ∷ places) now → old.place ≤ place_of now old.file
first-rises old places now later =
    let same : bytes_eq old.file old.file ≡ true = (bytes_eq-Decides old.file old.file).1 refl in
    let here : place_of (old ∷ places) old.file ≤ place_of now old.file = later old.file in
    rw same at here

rest-rises : (old : FilePlace) (places now : List FilePlace) → IsBelowFiles old.file places → NoneFalls (old ∷ places) now → NoneFalls places now
rest-rises old places now below later file =
    by_cases (bytes_eq old.file file)
    (λ t.
    let same : old.file ≡ file = (bytes_eq-Decides old.file file).0 t in
    let none : place_of places file ≡ 0 = subst (λ name. place_of places name ≡ 0) same (place-below old.file places below) in
    omega (arith, none))
    (λ f. let here : place_of (old ∷ places) file ≤ place_of now file = later file in rw f at here)

rise : (was now : List FilePlace) → IsPlaces was → NoneFalls was now → Rise was now
rise [] now form later = tt
rise (old ∷ places) now form later = (form.0, first-rises old places now later, rise places now form.2 (rest-rises old places now form.1 later))

kept-by : (old known : FilePlace) (more : List FilePlace) (test : Bool) → old.place ≤ cond test known.place (place_of more old.file)
    → (old.place ≤ place_of more old.file → list_any (keeps_place old) more ≡ true)
    → ((test && nat_le old.place known.place) || list_any (keeps_place old) more) ≡ true
kept-by old known more true high behind = let is : nat_le old.place known.place ≡ true = grind (arith, nat_tests) in rw is refl
kept-by old known more false high behind = behind high

kept : (old : FilePlace) (now : List FilePlace) → 0 < old.place → old.place ≤ place_of now old.file → is_kept old now ≡ true
kept old [] above high = absurd (let wrong : ⊥ = omega arith in wrong)
kept old (known ∷ more) above high = kept-by old known more (bytes_eq known.file old.file) high (kept old more above)

none-falls : (was now : List FilePlace) → Rise was now → none_falls was now ≡ true
none-falls [] now rises = refl
none-falls (old ∷ places) now rises = rw (kept old now rises.0 rises.1, none-falls places now rises.2) refl

pub moves_on : (was now : List FilePlace) → IsPlaces was → NoneFalls was now → none_falls was now ≡ true
moves_on was now form later = none-falls was now (rise was now form later)
