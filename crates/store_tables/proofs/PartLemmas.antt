-- Definitions and what is kept beside them, as one list.
use Rattle.std.proofs.Common.{◌≡◌, ℕ, zero, suc, ◌+◌, ◌<◌, ◌≤◌, Bool, true, false, cond, List, [], ◌∷◌, ◌++◌, length, map, take, drop, get_or, set, Option, Some, None, refl, sym, ap, ◌∙◌, subst, arith, length-take}
use Rattle.std.specs.Prelude.{find, option_map, slice_get}
use Rattle.commit_payloads.specs.declared.definition.Definition.{Definition}
use Rattle.store_tables.specs.declared.part.Part.{Part}
use Rattle.state_model.specs.Dataset.{Dataset, State, definitions_of, is_defined, is_named, dataset_of}
use Rattle.state_model.specs.After.{begun, updated}
use Rattle.store_tables.specs.Kept.{cursors_of}
use Rattle.store_tables.specs.Parts.{AreBeside, joined, side_by_side}
use Rattle.store_tables.specs.Places.{IsFirst}
use Rattle.std.proofs.lemmas.List.{take_more, map-append, length_push}
use Rattle.store_tables.proofs.FirstLemmas.{by_cases, none-split}

-- each has its definition
pub definitions-are : (list : List Definition) (parts : List Part) → length list ≡ length parts → definitions_of (side_by_side list parts) ≡ list
definitions-are [] parts e = refl
definitions-are (d ∷ list) [] e = absurd (omega arith)
definitions-are (d ∷ list) (p ∷ parts) e = ap (λ rest. d ∷ rest) (definitions-are list parts (omega arith))

-- there is none of a name that has no definition
none-by : (d : Definition) (x : Dataset) (test : Bool) (list : Option Definition) (state : Option Dataset) → (list ≡ None → state ≡ None) → cond test (Some d) list ≡ None → cond test (Some x) state ≡ None
none-by d x true list state h e = cc
none-by d x false list state h e = h e

pub none-found : (name : List ℕ) (list : List Definition) (parts : List Part) → find (is_defined name) list ≡ None → dataset_of (side_by_side list parts) name ≡ None
none-found name [] parts e = refl
none-found name (d ∷ list) [] e = refl
none-found name (d ∷ list) (p ∷ parts) e = none-by d (joined d p) (is_defined name d) (find (is_defined name) list) (dataset_of (side_by_side list parts) name) (none-found name list parts) e

-- the first of a name is the dataset of the first definition of that name
found-by : (x : Dataset) (test : Bool) (rest : Option Dataset) (y : Dataset) → test ≡ false → rest ≡ Some y → cond test (Some x) rest ≡ Some y
found-by x test rest y fails e = rw (fails, e) refl

pub found-at : (name : List ℕ) (list : List Definition) (parts : List Part) (i : ℕ) (d : Definition) (p : Part) → IsFirst (is_defined name) list i → i < length parts → d ≡ get_or list i d → p ≡ get_or parts i p → dataset_of (side_by_side list parts) name ≡ Some (joined d p)
found-at name [] parts i d p first h e f = absurd first
found-at name (x ∷ list) [] i d p first h e f = absurd (omega arith)
found-at name (x ∷ list) (y ∷ parts) zero d p first h e f = rw (e, f) (rw first refl)
found-at name (x ∷ list) (y ∷ parts) (suc i) d p first h e f =
    found-by (joined x y) (is_defined name x) (dataset_of (side_by_side list parts) name) (joined d p) first.0 (found-at name list parts i d p first.1 (omega arith) e f)

pub length-sides : (list : List Definition) (parts : List Part) → length list ≡ length parts → length (side_by_side list parts) ≡ length parts
length-sides [] [] e = refl
length-sides [] (p ∷ parts) e = absurd (omega arith)
length-sides (d ∷ list) [] e = absurd (omega arith)
length-sides (d ∷ list) (p ∷ parts) e = ap suc (length-sides list parts (omega arith))

-- what stands at a place
pub at-place : (list : List Definition) (parts : List Part) (i : ℕ) (d : Definition) (p : Part) → length list ≡ length parts → i < length parts → d ≡ get_or list i d → p ≡ get_or parts i p → slice_get (side_by_side list parts) i ≡ Some (joined d p)
at-place list [] i d p long within item part = absurd (omega arith)
at-place [] (y ∷ parts) i d p long within item part = absurd (omega (arith, long))
at-place (x ∷ list) (y ∷ parts) zero d p long within item part = rw (item, part) refl
at-place (x ∷ list) (y ∷ parts) (suc i) d p long within item part = at-place list parts i d p (omega (arith, long)) (omega (arith, within)) item part

pub past-place : (list : List Definition) (parts : List Part) (i : ℕ) → length parts ≤ i → slice_get (side_by_side list parts) i ≡ None
past-place [] parts i past = refl
past-place (x ∷ list) [] i past = refl
past-place (x ∷ list) (y ∷ parts) zero past = absurd (omega arith)
past-place (x ∷ list) (y ∷ parts) (suc i) past = past-place list parts i (omega (arith, past))

-- ---- the dataset of a name changed

pub updated-none : (name : List ℕ) (f : Dataset → Dataset) (list : List Definition) (parts : List Part) → find (is_defined name) list ≡ None → side_by_side list parts ≡ updated name f (side_by_side list parts)
updated-none name f [] parts e = refl
updated-none name f (d ∷ list) [] e = refl
updated-none name f (d ∷ list) (p ∷ parts) e =
    let split = none-split (is_defined name) d list e in
    rw split.0 (ap (λ rest. joined d p ∷ rest) (updated-none name f list parts split.1))

pub updated-at : (name : List ℕ) (f : Dataset → Dataset) (list : List Definition) (parts : List Part) (i : ℕ) (d : Definition) (p new : Part) → IsFirst (is_defined name) list i → i < length parts → d ≡ get_or list i d → p ≡ get_or parts i p → joined d new ≡ f (joined d p) → side_by_side list (set parts i new) ≡ updated name f (side_by_side list parts)
updated-at name f [] parts i d p new first h e g same = absurd first
updated-at name f (x ∷ list) [] i d p new first h e g same = absurd (omega arith)
updated-at name f (x ∷ list) (y ∷ parts) zero d p new first h e g same =
    let here : joined x new ≡ f (joined x y) = subst (λ a. joined x new ≡ f (joined x a)) g (subst (λ a. joined a new ≡ f (joined a p)) e same) in
    rw first (ap (λ a. a ∷ side_by_side list parts) here)
updated-at name f (x ∷ list) (y ∷ parts) (suc i) d p new first h e g same =
    rw first.0 (ap (λ rest. joined x y ∷ rest) (updated-at name f list parts i d p new first.1 (omega arith) e g same))

pub updated-back : (name : List ℕ) (f g : Dataset → Dataset) (state : State) (d : Dataset) → ((x : Dataset) → is_named name (f x) ≡ is_named name x) → dataset_of state name ≡ Some d → g (f d) ≡ d → updated name g (updated name f state) ≡ state
updated-back name f g [] d keeps found back = refl
updated-back name f g (x ∷ state) d keeps found back =
    by_cases (is_named name x)
    (λ t. let here = rw t at found in let same : d ≡ x = cc in
    rw (t, keeps x, t) (ap (λ a. a ∷ state) (subst (λ a. g (f a) ≡ a) same back)))
    (λ n. let behind = rw n at found in rw (n, n) (ap (λ rest. x ∷ rest) (updated-back name f g state d keeps behind back)))

-- ---- more datasets, and fewer

pub sides-more : (list : List Definition) (parts : List Part) (d : Definition) (p : Part) → length list ≡ length parts → side_by_side (list ++ d ∷ []) (parts ++ p ∷ []) ≡ side_by_side list parts ++ joined d p ∷ []
sides-more [] [] d p e = refl
sides-more [] (y ∷ parts) d p e = absurd (omega arith)
sides-more (x ∷ list) [] d p e = absurd (omega arith)
sides-more (x ∷ list) (y ∷ parts) d p e = ap (λ rest. joined x y ∷ rest) (sides-more list parts d p (omega arith))

pub sides-split : (list : List Definition) (parts more : List Part) → length parts ≤ length list → side_by_side list (parts ++ more) ≡ side_by_side (take (length parts) list) parts ++ side_by_side (drop (length parts) list) more
sides-split list [] more h = refl
sides-split [] (y ∷ parts) more h = absurd (omega arith)
sides-split (x ∷ list) (y ∷ parts) more h = ap (λ rest. joined x y ∷ rest) (sides-split list parts more (omega arith))

pub take-sides : (n : ℕ) (list : List Definition) (parts : List Part) → side_by_side (take n list) (take n parts) ≡ take n (side_by_side list parts)
take-sides zero list parts = refl
take-sides (suc n) [] parts = refl
take-sides (suc n) (d ∷ list) [] = refl
take-sides (suc n) (d ∷ list) (p ∷ parts) = ap (λ rest. joined d p ∷ rest) (take-sides n list parts)

-- definitions that begin a list are no longer than it
pub prefix-short : (list first : List Definition) (n : ℕ) → length first ≡ n → take n list ≡ first → n ≤ length list
prefix-short list first n e t = omega (arith, length-take n list, ap length t)

-- what is defined behind the datasets that are there
pub sides-added : (first list : List Definition) (parts more : List Part) → length first ≡ length parts → take (length parts) list ≡ first → side_by_side (drop (length parts) list) more ≡ map begun (drop (length parts) list) → side_by_side list (parts ++ more) ≡ side_by_side first parts ++ map begun (drop (length parts) list)
sides-added first list parts more e t m =
    sides-split list parts more (prefix-short list first (length parts) e t) ∙ ap (λ l. side_by_side l parts ++ side_by_side (drop (length parts) list) more) t ∙ ap (λ rest. side_by_side first parts ++ rest) m

-- what the parts that were made so far come to
pub record AreBegun (list : List Definition) (parts : List Part) (i : ℕ) : Type 0 where
  pub each : length parts ≡ i
  pub sides : side_by_side (take i list) parts ≡ map begun (take i list)

pub sides-next : (list : List Definition) (parts : List Part) (i : ℕ) (d : Definition) (p : Part) (new : List Part) → i < length list → d ≡ get_or list i d → AreBegun list parts i → joined d p ≡ begun d → new ≡ parts ++ p ∷ [] → AreBegun list new (i + 1)
sides-next list parts i d p new h item so_far first pushed =
    let next : take (i + 1) list ≡ take i list ++ d ∷ [] = subst (λ x. take (i + 1) list ≡ take i list ++ x ∷ []) (sym item) (take_more list i d h) in
    let as_long : length (take i list) ≡ length parts = omega (arith, length-take i list, so_far.each) in
    let sides : side_by_side (take i list ++ d ∷ []) (parts ++ p ∷ []) ≡ map begun (take i list ++ d ∷ []) =
    sides-more (take i list) parts d p as_long
    ∙ ap (λ state. state ++ joined d p ∷ []) so_far.sides
    ∙ ap (λ x. map begun (take i list) ++ x ∷ []) first
    ∙ sym (map-append begun (take i list) (d ∷ []))
    in
    record {
      each = omega (arith, ap length pushed, length_push parts p, so_far.each);
      sides = rw (pushed, next) sides;
    }

-- a list that keeps the datasets begins with their definitions
pub prefix-kept : (first list : List Definition) (parts : List Part) (state : State) → length first ≡ length parts → side_by_side first parts ≡ state → take (length state) list ≡ definitions_of state → take (length parts) list ≡ first
prefix-kept first list parts state e view kept =
    let long : length state ≡ length parts = ap length (sym view) ∙ length-sides first parts e in
    ap (λ n. take n list) (sym long) ∙ kept ∙ ap definitions_of (sym view) ∙ definitions-are first parts e

-- ---- one part changed

length-set : (parts : List Part) (i : ℕ) (p : Part) → length (set parts i p) ≡ length parts
length-set [] i p = refl
length-set (x ∷ parts) zero p = refl
length-set (x ∷ parts) (suc i) p = let e = length-set parts i p in omega (arith, e)

pub beside-set : (list : List Definition) (parts : List Part) (i : ℕ) (p : Part) → AreBeside list parts → AreBeside list (set parts i p)
beside-set list parts i p beside = record { long = beside.long ∙ sym (length-set parts i p); distinct = beside.distinct }

pub take-long : (n : ℕ) (list : List Definition) (parts : List Part) → length list ≡ length parts → length (take n list) ≡ length (take n parts)
take-long zero list parts long = refl
take-long (suc n) [] [] long = refl
take-long (suc n) [] (p ∷ parts) long = absurd (omega (arith, long))
take-long (suc n) (d ∷ list) [] long = absurd (omega (arith, long))
take-long (suc n) (d ∷ list) (p ∷ parts) long = let e = take-long n list parts (omega (arith, long)) in omega (arith, e)

-- how far the flows of the dataset at a place have read
pub cursors-at : (list : List Definition) (parts : List Part) (i : ℕ) (p : Part) → length list ≡ length parts → i < length parts → p ≡ get_or parts i p → Some p.cursors.items ≡ option_map cursors_of (slice_get (side_by_side list parts) i)
cursors-at [] [] i p long within e = absurd (omega arith)
cursors-at [] (part ∷ parts) i p long within e = absurd (omega arith)
cursors-at (d ∷ list) [] i p long within e = absurd (omega arith)
cursors-at (d ∷ list) (part ∷ parts) zero p long within e = rw e refl
cursors-at (d ∷ list) (part ∷ parts) (suc i) p long within e = cursors-at list parts i p (omega arith) (omega arith) e
