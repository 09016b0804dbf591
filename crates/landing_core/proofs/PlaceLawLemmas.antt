-- What a place that is put leaves: names in order, no place of 0, and no place lower than before.
use Rattle.std.proofs.Common.{◌≡◌, ℕ, ◌≤◌, ◌<◌, List, [], ◌∷◌, Bool, true, false, cond, eqb, refl, sym, ap, ◌∙◌, arith}
use Rattle.std.specs.Str.{bytes_eq}
use Rattle.std.proofs.lemmas.Slice.Eq.{bytes_eq-Decides}
use Rattle.std.proofs.lemmas.Bool.Decides.{nat_tests}
use Rattle.std.proofs.lemmas.Map.Text.{is_eq-slice_cmp}
use Rattle.std.specs.declared.cmp.Ordering.{Ordering}
use Rattle.std.specs.declared.cmp.Ordering.TheVariants.{Less, Equal, Greater}
use Rattle.std.specs.Ordering.{nat_cmp, match_ordering, ordering_reverse, is_eq}
use Rattle.std.specs.Cmp.Lexicographic.{slice_cmp}
use Rattle.std.proofs.lemmas.Cmp.{nat_list_cmp_total, tied_itself}
use Rattle.value_core.specs.declared.cursor.FilePlace.{FilePlace}
use Rattle.landing_core.specs.Names.{IsBefore, AreAscending}
use Rattle.landing_core.specs.Places.{place_of, placed, moved, placed_names, AreAboveZero, NoneFalls}

pub same_names : (a b : List ℕ) → slice_cmp nat_cmp a b ≡ Equal → a ≡ b
same_names a b equal = (bytes_eq-Decides a b).0 (sym (is_eq-slice_cmp a b) ∙ ap is_eq equal)

pub less_back : (a b : List ℕ) → slice_cmp nat_cmp a b ≡ Greater → slice_cmp nat_cmp b a ≡ Less
less_back a b greater = nat_list_cmp_total.antisymm b a ∙ ap ordering_reverse greater

abbrev entry : List ℕ → ℕ → FilePlace
entry file place = record { file = file; place = place }

abbrev put : List ℕ → ℕ → FilePlace → List FilePlace → Ordering → List FilePlace
put file place known more order = match_ordering order (entry file place ∷ known ∷ more) (entry file place ∷ more) (known ∷ placed file place more)

before_put : (name file : List ℕ) (place : ℕ) (known : FilePlace) (more : List FilePlace) (o : Ordering) → slice_cmp nat_cmp name file ≡ Less → slice_cmp nat_cmp name known.file ≡ Less → IsBefore name (placed_names (put file place known more o))
before_put name file place known more Less less first = less
before_put name file place known more Equal less first = less
before_put name file place known more Greater less first = first

before_placed : (name file : List ℕ) (place : ℕ) (places : List FilePlace) → slice_cmp nat_cmp name file ≡ Less → IsBefore name (placed_names places) → IsBefore name (placed_names (placed file place places))
before_placed name file place [] less first = less
before_placed name file place (known ∷ more) less first = before_put name file place known more (slice_cmp nat_cmp file known.file) less first

ascending_put : (file : List ℕ) (place : ℕ) (known : FilePlace) (more : List FilePlace) (o : Ordering) → slice_cmp nat_cmp file known.file ≡ o → AreAscending (placed_names (known ∷ more)) → AreAscending (placed_names (placed file place more)) → AreAscending (placed_names (put file place known more o))
ascending_put file place known more Less is were later = (is, were)
ascending_put file place known more Equal is were later = (rw (same_names file known.file is) (were.0), were.1)
ascending_put file place known more Greater is were later = (before_placed known.file file place more (less_back file known.file is) (were.0), later)

placed_ascending : (file : List ℕ) (place : ℕ) (places : List FilePlace) → AreAscending (placed_names places) → AreAscending (placed_names (placed file place places))
placed_ascending file place [] were = (tt, tt)
placed_ascending file place (known ∷ more) were = ascending_put file place known more (slice_cmp nat_cmp file known.file) refl were (placed_ascending file place more (were.1))

above_put : (file : List ℕ) (place : ℕ) (known : FilePlace) (more : List FilePlace) (o : Ordering) → 0 < place → AreAboveZero (known ∷ more) → AreAboveZero (placed file place more) → AreAboveZero (put file place known more o)
above_put file place known more Less above were later = (above, were)
above_put file place known more Equal above were later = (above, were.1)
above_put file place known more Greater above were later = (were.0, later)

placed_above : (file : List ℕ) (place : ℕ) (places : List FilePlace) → 0 < place → AreAboveZero places → AreAboveZero (placed file place places)
placed_above file place [] above were = (above, tt)
placed_above file place (known ∷ more) above were = above_put file place known more (slice_cmp nat_cmp file known.file) above were (placed_above file place more above (were.1))

two_equal : (b : Bool) (p q r : ℕ) → cond b p r ≡ cond b p (cond b q r)
two_equal true p q r = refl
two_equal false p q r = refl

two_swapped : (a b : Bool) (p q r : ℕ) → (a ≡ true → b ≡ true → p ≡ q) → cond a p (cond b q r) ≡ cond b q (cond a p r)
two_swapped true true p q r both = both refl refl
two_swapped true false p q r both = refl
two_swapped false b p q r both = refl

not_both : (file name : List ℕ) (known : FilePlace) (p q : ℕ) → slice_cmp nat_cmp file known.file ≡ Greater → bytes_eq known.file name ≡ true → bytes_eq file name ≡ true → p ≡ q
not_both file name known p q greater left right =
    let l : known.file ≡ name = (bytes_eq-Decides known.file name).0 left in
    let r : file ≡ name = (bytes_eq-Decides file name).0 right in
    let tied : slice_cmp nat_cmp file known.file ≡ Equal = rw (r, l) (tied_itself nat_list_cmp_total name) in
    absurd (let e : Greater ≡ Equal = sym greater ∙ tied in cc)

place_put : (file name : List ℕ) (place : ℕ) (known : FilePlace) (more : List FilePlace) (o : Ordering) → slice_cmp nat_cmp file known.file ≡ o → place_of (placed file place more) name ≡ cond (bytes_eq file name) place (place_of more name) → place_of (put file place known more o) name ≡ cond (bytes_eq file name) place (place_of (known ∷ more) name)
place_put file name place known more Less is later = refl
place_put file name place known more Equal is later = rw (← same_names file known.file is) (two_equal (bytes_eq file name) place known.place (place_of more name))
place_put file name place known more Greater is later = rw later (two_swapped (bytes_eq known.file name) (bytes_eq file name) known.place place (place_of more name) (not_both file name known known.place place is))

pub placed_place : (file name : List ℕ) (place : ℕ) (places : List FilePlace) → place_of (placed file place places) name ≡ cond (bytes_eq file name) place (place_of places name)
placed_place file name place [] = refl
placed_place file name place (known ∷ more) = place_put file name place known more (slice_cmp nat_cmp file known.file) refl (placed_place file name place more)

higher : (b : Bool) (was place kept : ℕ) → (b ≡ true → was ≤ place) → was ≤ kept → was ≤ cond b place kept
higher true was place kept here there = here refl
higher false was place kept here there = there

placed_later : (was : List FilePlace) (file : List ℕ) (place : ℕ) (places : List FilePlace) → place_of was file ≤ place → NoneFalls was places → NoneFalls was (placed file place places)
placed_later was file place places above were name =
    rw (placed_place file name place places) (higher (bytes_eq file name) (place_of was name) place (place_of places name) (λ is. rw (← (bytes_eq-Decides file name).0 is) above) (were name))

-- the same of a place that is left out where it is 0
by_zero : (P : List FilePlace → Type 0) (b : Bool) (stays puts : List FilePlace) → P stays → (b ≡ false → P puts) → P (cond b stays puts)
by_zero P true stays puts old new = old
by_zero P false stays puts old new = new refl

above_zero : (place : ℕ) → eqb place 0 ≡ false → 0 < place
above_zero place ne = grind (arith, nat_tests)

pub moved_ascending : (file : List ℕ) (place : ℕ) (places : List FilePlace) → AreAscending (placed_names places) → AreAscending (placed_names (moved file place places))
moved_ascending file place places were = by_zero (λ kept. AreAscending (placed_names kept)) (eqb place 0) places (placed file place places) were (λ ne. placed_ascending file place places were)

pub moved_above : (file : List ℕ) (place : ℕ) (places : List FilePlace) → AreAboveZero places → AreAboveZero (moved file place places)
moved_above file place places were = by_zero AreAboveZero (eqb place 0) places (placed file place places) were (λ ne. placed_above file place places (above_zero place ne) were)

pub moved_later : (was : List FilePlace) (file : List ℕ) (place : ℕ) (places : List FilePlace) → place_of was file ≤ place → NoneFalls was places → NoneFalls was (moved file place places)
moved_later was file place places above were = by_zero (NoneFalls was) (eqb place 0) places (placed file place places) were (λ ne. placed_later was file place places above were)
