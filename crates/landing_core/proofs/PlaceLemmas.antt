-- Where a place is put.
use Rattle.std.proofs.Common.{◌≡◌, ℕ, ◌+◌, ◌<◌, ◌≤◌, List, [], ◌∷◌, ◌++◌, length, get_or, take, drop, refl, sym, ap, ◌∙◌, add-one}
use Rattle.std.proofs.lemmas.List.{drop_more, drop_all, take_all}
use Rattle.std.proofs.Math.ListN.{set}
use Rattle.std.proofs.lemmas.List.{set_split}
use Rattle.std.specs.List.{insert}
use Rattle.std.specs.declared.cmp.Ordering.TheVariants.{Less, Equal}
use Rattle.std.specs.Ordering.{nat_cmp}
use Rattle.std.specs.Cmp.Lexicographic.{slice_cmp}
use Rattle.value_core.specs.declared.cursor.FilePlace.{FilePlace}
use Rattle.landing_core.specs.Places.{placed}

split_at : (places : List FilePlace) (i : ℕ) (known : FilePlace) → i < length places → known ≡ get_or places i known → drop i places ≡ known ∷ drop (i + 1) places
split_at places i known within is = drop_more places i known within ∙ ap (λ (k : FilePlace). k ∷ drop (i + 1) places) (sym is)

abbrev entry : List ℕ → ℕ → FilePlace
entry file place = record { file = file; place = place }

pub put_less : (file : List ℕ) (place : ℕ) (places all : List FilePlace) (i : ℕ) (known : FilePlace) → i < length places → known ≡ get_or places i known → slice_cmp nat_cmp file known.file ≡ Less → take i places ++ placed file place (drop i places) ≡ all → insert places i (entry file place) ≡ all
put_less file place places all i known within is below so_far =
    let split = split_at places i known within is in
    let put : placed file place (known ∷ drop (i + 1) places) ≡ entry file place ∷ known ∷ drop (i + 1) places = rw below refl in
    rw split (rw (split, put) at so_far)

pub put_equal : (file : List ℕ) (place : ℕ) (places all : List FilePlace) (i : ℕ) (known : FilePlace) → i < length places → known ≡ get_or places i known → slice_cmp nat_cmp file known.file ≡ Equal → take i places ++ placed file place (drop i places) ≡ all → set places i (entry file place) ≡ all
put_equal file place places all i known within is same so_far =
    let split = split_at places i known within is in
    let put : placed file place (known ∷ drop (i + 1) places) ≡ entry file place ∷ drop (i + 1) places = rw same refl in
    let here : take i places ++ entry file place ∷ drop (i + 1) places ≡ all = rw (split, put) at so_far in
    set_split places i (entry file place) within ∙ rw (← add-one i) here

pub put_last : (file : List ℕ) (place : ℕ) (places all : List FilePlace) (i : ℕ) → length places ≤ i → take i places ++ placed file place (drop i places) ≡ all → places ++ entry file place ∷ [] ≡ all
put_last file place places all i past so_far = rw (drop_all i places past, take_all i places past) at so_far
