-- Expressions under their codes, one after another.
use Rattle.std.proofs.Common.{◌≡◌, ℕ, ◌+◌, ◌<◌, Bool, true, false, cond, List, [], ◌∷◌, ◌++◌, length, take, get_or, Option, Some, None, refl, sym, ap, subst, ◌∙◌, arith}
use Rattle.std.specs.Prelude.{position, bytes_eq, is_some}
use Rattle.std.specs.List.{position_from}
use Rattle.std.specs.Option.{option_or}
use Rattle.std.specs.Cmp.Lexicographic.{bytes_decides}
use Rattle.std.proofs.lemmas.Iterator.Adapters.{position_from-zero}
use Rattle.std.proofs.lemmas.List.{take_more, length-take-le}
use Rattle.sql_tree.specs.declared.expr.SqlExpr.{SqlExpr}
use Rattle.tree_equality.specs.TreeCodes.{Code, tree_code, same_tree, equal_place, under_code, place_if_same, ArePlaced}

module _ {K : Type 0} (code_of : K → Code) where
  first_more : (test : Bool) (first : ℕ) (front back : Option ℕ) → cond test (Some first) (option_or front back) ≡ option_or (cond test (Some first) front) back
  first_more true first front back = refl
  first_more false first front back = refl

  pub under_more : (code : Code) (entries : List (K × ℕ)) (key : K) (place : ℕ) →
      under_code code_of code (entries ++ (key, place) ∷ []) ≡ option_or (under_code code_of code entries) (place_if_same code (code_of key) place)
  under_more code [] key place = refl
  under_more code (entry ∷ entries) key place =
      ap (λ rest. cond (bytes_eq code (code_of entry.0)) (Some entry.1) rest) (under_more code entries key place)
      ∙ first_more (bytes_eq code (code_of entry.0)) entry.1 (under_code code_of code entries) (place_if_same code (code_of key) place)

  there : (found : Option ℕ) (other : Option ℕ) → is_some found ≡ true → found ≡ option_or found other
  there None other is = absurd (cc is)
  there (Some place) other is = refl

  nothing_more : (found : Option ℕ) → found ≡ option_or found None
  nothing_more None = refl
  nothing_more (Some place) = refl

  by_same : (code other : Code) (entries : List (K × ℕ)) (place : ℕ) (same : Bool) → bytes_eq code other ≡ same → is_some (under_code code_of other entries) ≡ true →
      under_code code_of code entries ≡ option_or (under_code code_of code entries) (cond same (Some place) None)
  by_same code other entries place false is has = nothing_more (under_code code_of code entries)
  by_same code other entries place true is has =
      let one : code ≡ other = (bytes_decides code other).0 is in
      there (under_code code_of code entries) (Some place) (ap (λ (c : Code). is_some (under_code code_of c entries)) one ∙ has)

  -- under a code that has a place no further one counts
  pub under_same : (code other : Code) (entries : List (K × ℕ)) (place : ℕ) → is_some (under_code code_of other entries) ≡ true →
      under_code code_of code entries ≡ option_or (under_code code_of code entries) (place_if_same code other place)
  under_same code other entries place has = by_same code other entries place (bytes_eq code other) refl has

-- ---- places in a list

from_more : {A : Type 0} (test : A → Bool) (from : ℕ) (list : List A) (a : A) → position_from test from (list ++ a ∷ []) ≡ option_or (position_from test from list) (cond (test a) (Some (from + length list)) None)
from_more test from [] a = let e : from ≡ from + length {A = ℕ} [] = omega arith in ap (λ n. cond (test a) (Some n) None) e
from_more test from (first ∷ list) a =
    let e : (from + 1) + length list ≡ from + length (first ∷ list) = omega arith in
    first_or (test first) from _ _ _ (from_more test (from + 1) list a ∙ ap (λ n. option_or (position_from test (from + 1) list) (cond (test a) (Some n) None)) e)
  where
    first_or : (found : Bool) (first : ℕ) (whole front back : Option ℕ) → whole ≡ option_or front back → cond found (Some first) whole ≡ option_or (cond found (Some first) front) back
    first_or true first whole front back is = refl
    first_or false first whole front back is = is

place_more : {A : Type 0} (test : A → Bool) (list : List A) (a : A) → position test (list ++ a ∷ []) ≡ option_or (position test list) (cond (test a) (Some (length list)) None)
place_more test list a =
    let e : 0 + length list ≡ length list = omega arith in
    position_from-zero test (list ++ a ∷ []) ∙ from_more test 0 list a
    ∙ ap (λ front. option_or front (cond (test a) (Some (0 + length list)) None)) (sym (position_from-zero test list))
    ∙ ap (λ n. option_or (position test list) (cond (test a) (Some n) None)) e

pub placed_more : {K : Type 0} (code_of : K → Code) (entries after : List (K × ℕ)) (trees : List SqlExpr) (at : ℕ) (tree : SqlExpr) → at < length trees → tree ≡ get_or trees at tree →
    ((sought : Code) → under_code code_of sought after ≡ option_or (under_code code_of sought entries) (place_if_same sought (tree_code tree) at)) →
    ArePlaced code_of entries (take at trees) → ArePlaced code_of after (take (at + 1) trees)
placed_more code_of entries after trees at tree inside is put so_far = λ sought.
    let size : length (take at trees) ≡ at = length-take-le at trees (omega arith) in
    let more : take at trees ++ tree ∷ [] ≡ take (at + 1) trees = ap (λ (last : SqlExpr). take at trees ++ last ∷ []) is ∙ sym (take_more trees at tree inside) in
    put (tree_code sought)
    ∙ ap (λ (front : Option ℕ). option_or front (place_if_same (tree_code sought) (tree_code tree) at)) (so_far sought)
    ∙ ap (λ (n : ℕ). option_or (equal_place (take at trees) sought) (place_if_same (tree_code sought) (tree_code tree) n)) (sym size)
    ∙ sym (place_more (same_tree sought) (take at trees) tree)
    ∙ ap (λ (list : List SqlExpr). equal_place list sought) more

pub all_placed : {K : Type 0} (code_of : K → Code) (entries : List (K × ℕ)) (trees : List SqlExpr) (n : ℕ) → take n trees ≡ trees → ArePlaced code_of entries (take n trees) → ArePlaced code_of entries trees
all_placed code_of entries trees n whole so_far = subst (ArePlaced code_of entries) whole so_far

pub none_there : (found : Option ℕ) (there : Bool) → there ≡ is_some found → there ≡ false → found ≡ None
none_there None there is not_there = refl
none_there (Some place) there is not_there = absurd (cc (sym is ∙ not_there))
