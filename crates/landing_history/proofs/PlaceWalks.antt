-- What a list along places holds once a file's place has moved on.
use Rattle.std.proofs.Common.{◌≡◌, ℕ, List, [], ◌∷◌, ◌++◌, Bool, true, false, cond, eqb, refl, sym, ap, ◌∙◌, append_assoc, append-nil, flat_map, IsPermutation, Ordering, Less, Equal, Greater, nat_cmp, bytes_eq, arith}
use Rattle.std.specs.Ordering.{match_ordering}
use Rattle.std.specs.Cmp.Lexicographic.{slice_cmp}
use Rattle.std.proofs.lemmas.Cmp.{nat_list_cmp_total, tied_itself}
use Rattle.std.proofs.lemmas.Bool.Decides.{nat_tests}
use Rattle.std.proofs.lemmas.List.Sorted.{IsPermutation-refl, IsPermutation-append_comm, IsPermutation-append_right}
use Rattle.std.proofs.lemmas.Slice.Eq.{bytes_eq-Decides}
use Rattle.value_core.specs.declared.cursor.FilePlace.{FilePlace}
use Rattle.landing_core.specs.Names.{IsBefore, AreAscending}
use Rattle.landing_core.specs.Places.{place_of, placed, moved, placed_names}
use Rattle.landing_core.proofs.PlaceLawLemmas.{same_names, less_back, placed_place}

abbrev pub entry : List ℕ → ℕ → FilePlace
entry file place = record { file = file; place = place }

-- ---- names that differ

pub apart : (a b : List ℕ) (test : Bool) → bytes_eq a b ≡ test → slice_cmp nat_cmp b a ≡ Less → test ≡ false
apart a b false is less = refl
apart a b true is less =
    let same : a ≡ b = (bytes_eq-Decides a b).0 is in
    let tied : slice_cmp nat_cmp b a ≡ Equal = ap (slice_cmp nat_cmp b) same ∙ tied_itself nat_list_cmp_total b in
    absurd (let none : Less ≡ Equal = sym less ∙ tied in cc)

pub apart_below : (a b : List ℕ) (test : Bool) → bytes_eq a b ≡ test → slice_cmp nat_cmp a b ≡ Less → test ≡ false
apart_below a b false is less = refl
apart_below a b true is less =
    let same : a ≡ b = (bytes_eq-Decides a b).0 is in
    let tied : slice_cmp nat_cmp a b ≡ Equal = ap (λ n. slice_cmp nat_cmp n b) same ∙ tied_itself nat_list_cmp_total b in
    absurd (let none : Less ≡ Equal = sym less ∙ tied in cc)

before_rest : (file name : List ℕ) (names : List (List ℕ)) → slice_cmp nat_cmp file name ≡ Less → IsBefore name names → IsBefore file names
before_rest file name [] less first = tt
before_rest file name (next ∷ names) less first = nat_list_cmp_total.trans file name next less first

-- a name before all has no place
pub unplaced : (file : List ℕ) (places : List FilePlace) → IsBefore file (placed_names places) → AreAscending (placed_names places) → place_of places file ≡ 0
unplaced file [] first up = refl
unplaced file (known ∷ more) first up =
    let other : bytes_eq known.file file ≡ false = apart known.file file (bytes_eq known.file file) refl first in
    rw other (unplaced file more (before_rest file known.file (placed_names more) first up.0) up.1)

-- ---- one file's place moves on

module _ {A : Type 0} (rows : FilePlace → List A) (nothing : (file : List ℕ) → rows (entry file 0) ≡ []) where
  past : (front back new : List A) → IsPermutation ((front ++ back) ++ new) ((front ++ new) ++ back)
  past front back new = rw (append_assoc front back new, append_assoc front new back) (IsPermutation-append_right front (back ++ new) (new ++ back) (IsPermutation-append_comm back new))

  put_by : (file : List ℕ) (place : ℕ) (new : List A) (known : FilePlace) (more : List FilePlace) (o : Ordering) → slice_cmp nat_cmp file known.file ≡ o → AreAscending (placed_names (known ∷ more)) → rows (entry file place) ≡ rows (entry file (place_of (known ∷ more) file)) ++ new → (rows (entry file place) ≡ rows (entry file (place_of more file)) ++ new → IsPermutation (flat_map rows more ++ new) (flat_map rows (placed file place more))) → IsPermutation (flat_map rows (known ∷ more) ++ new) (flat_map rows (match_ordering o (entry file place ∷ known ∷ more) (entry file place ∷ more) (known ∷ placed file place more)))
  put_by file place new known more Less is up adds later =
      let none : place_of (known ∷ more) file ≡ 0 = unplaced file (known ∷ more) is up in
      let all : rows (entry file place) ≡ new = adds ∙ ap (λ p. rows (entry file p) ++ new) none ∙ ap (λ xs. xs ++ new) (nothing file) in
      rw all (IsPermutation-append_comm (flat_map rows (known ∷ more)) new)
  put_by file place new known more Equal is up adds later =
      let same : file ≡ known.file = same_names file known.file is in
      let here : bytes_eq known.file file ≡ true = (bytes_eq-Decides known.file file).1 (sym same) in
      let was : rows (entry file (place_of (known ∷ more) file)) ≡ rows known = rw (here, same) refl in
      rw (adds ∙ ap (λ xs. xs ++ new) was) (past (rows known) (flat_map rows more) new)
  put_by file place new known more Greater is up adds later =
      let other : bytes_eq known.file file ≡ false = apart_below known.file file (bytes_eq known.file file) refl (less_back file known.file is) in
      let behind : rows (entry file place) ≡ rows (entry file (place_of more file)) ++ new = rw other at adds in
      rw (append_assoc (rows known) (flat_map rows more) new) (IsPermutation-append_right (rows known) (flat_map rows more ++ new) (flat_map rows (placed file place more)) (later behind))

  put_adds : (file : List ℕ) (place : ℕ) (new : List A) (places : List FilePlace) → AreAscending (placed_names places) → rows (entry file place) ≡ rows (entry file (place_of places file)) ++ new → IsPermutation (flat_map rows places ++ new) (flat_map rows (placed file place places))
  put_adds file place new [] up adds =
      let all : rows (entry file place) ≡ new = adds ∙ ap (λ xs. xs ++ new) (nothing file) in
      rw (append-nil (rows (entry file place)), all) (IsPermutation-refl new)
  put_adds file place new (known ∷ more) up adds =
      put_by file place new known more (slice_cmp nat_cmp file known.file) refl up adds (λ behind. put_adds file place new more up.1 behind)

  move_by : (file : List ℕ) (place : ℕ) (new : List A) (places : List FilePlace) (test : Bool) → eqb place 0 ≡ test → AreAscending (placed_names places) → rows (entry file place) ≡ rows (entry file (place_of places file)) ++ new → IsPermutation (flat_map rows places ++ new) (flat_map rows (cond test places (placed file place places)))
  move_by file place new places false is up adds = put_adds file place new places up adds
  move_by file place new places true is up adds =
      let zeroth : place ≡ 0 = grind (arith, nat_tests) in
      let none : [] ≡ rows (entry file (place_of places file)) ++ new = sym (ap (λ p. rows (entry file p)) zeroth ∙ nothing file) ∙ adds in
      rw (no_second (rows (entry file (place_of places file))) new (sym none), append-nil (flat_map rows places)) (IsPermutation-refl (flat_map rows places))
    where
      no_second : (xs ys : List A) → xs ++ ys ≡ [] → ys ≡ []
      no_second [] ys e = e
      no_second (x ∷ xs) ys e = absurd (let none : ⊥ = cc in none)

  pub move_adds : (file : List ℕ) (place : ℕ) (new : List A) (places : List FilePlace) → AreAscending (placed_names places) → rows (entry file place) ≡ rows (entry file (place_of places file)) ++ new → IsPermutation (flat_map rows places ++ new) (flat_map rows (moved file place places))
  move_adds file place new places up adds = move_by file place new places (eqb place 0) refl up adds

-- ---- the places of other files stay

move_keeps_by : (file name : List ℕ) (place : ℕ) (places : List FilePlace) (test : Bool) → bytes_eq file name ≡ false → place_of (cond test places (placed file place places)) name ≡ place_of places name
move_keeps_by file name place places true other = refl
move_keeps_by file name place places false other = placed_place file name place places ∙ rw other refl

pub move_keeps : (file name : List ℕ) (place : ℕ) (places : List FilePlace) → bytes_eq file name ≡ false → place_of (moved file place places) name ≡ place_of places name
move_keeps file name place places other = move_keeps_by file name place places (eqb place 0) other
