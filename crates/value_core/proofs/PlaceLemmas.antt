-- What one step of a walk along places in files keeps.
use Rattle.std.proofs.Common.{◌≡◌, ◌↔◌, ℕ, ◌<◌, true, List, [], ◌∷◌, Some, slice_get, refl, sym, subst}
use Rattle.std.specs.declared.cmp.Ordering.{Ordering}
use Rattle.std.specs.declared.cmp.Ordering.TheVariants.{Less, Equal, Greater}
use Rattle.std.specs.Ordering.{is_lt}
use Rattle.std.specs.Cmp.Lexicographic.{nat_list_cmp_total}
use Rattle.value_core.specs.declared.cursor.FilePlace.{FilePlace}
use Rattle.value_core.specs.FilePlaces.{file_order, IsBelowFiles, IsPlaces}

below-files : (a b : List ℕ) (places : List FilePlace) → file_order a b ≡ Less → IsBelowFiles b places → IsBelowFiles a places
below-files a b [] h l = tt
below-files a b (p ∷ places) h l = (nat_list_cmp_total.trans a b p.file h l.0, below-files a b places h l.1)

Less-from : (o : Ordering) → is_lt o ≡ true → o ≡ Less
Less-from Less e = refl
Less-from Equal e = cc
Less-from Greater e = cc

places_from-more : (x next : FilePlace) (more : List FilePlace) {A : Type 0} → Some next ≡ slice_get more 0 → 0 < x.place → file_order x.file next.file ≡ Less → (IsPlaces (x ∷ more) ↔ A) → IsPlaces more ↔ A
places_from-more x next [] e some h both = let none : ⊥ = cc in absurd none
places_from-more x next (y ∷ zs) e some h both =
    let same : next ≡ y = cc in
    let less : file_order x.file y.file ≡ Less = subst (λ (v : FilePlace). file_order x.file v.file ≡ Less) same h in
    (λ s. both.0 (some, (less, below-files x.file y.file zs less s.1), s), λ a. let s : IsPlaces (x ∷ y ∷ zs) = both.1 a in s.2)

pub places_from : (left : List FilePlace) (x next : FilePlace) (more : List FilePlace) {A : Type 0} → left ≡ x ∷ more → Some next ≡ slice_get more 0 → 0 < x.place → is_lt (file_order x.file next.file) ≡ true → (IsPlaces left ↔ A) → IsPlaces more ↔ A
places_from left x next more e n some h both =
    places_from-more x next more n some (Less-from (file_order x.file next.file) h) (λ s. both.0 (subst IsPlaces (sym e) s), λ a. subst IsPlaces e (both.1 a))
