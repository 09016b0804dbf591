-- The datasets of some names are emptied one by one, and filled again.
use Rattle.std.proofs.Common.{◌≡◌, ℕ, zero, suc, ◌+◌, ◌<◌, ◌≤◌, ◌^◌, true, List, [], ◌∷◌, ◌++◌, length, take, get_or, set, Option, Some, None, refl, sym, ap, subst, ◌∙◌, arith}
use Rattle.std.specs.Prelude.{⊤}
use Rattle.std.proofs.lemmas.List.{take_more}
use Rattle.table_versions.specs.Versions.{now_of}
use Rattle.commit_payloads.specs.declared.definition.Definition.{Definition}
use Rattle.state_model.specs.After.{emptied_if, reset}
use Rattle.state_model.specs.Dataset.{Dataset, State}
use Rattle.store_tables.specs.declared.part.Part.{Part}
use Rattle.store_tables.specs.declared.part.Rest.{Rest}
use Rattle.store_tables.specs.Members.{AreNone, IsNamedIn, MembersHaveVersions}
use Rattle.store_tables.specs.Parts.{Becomes, joined, side_by_side}
use Rattle.store_tables.specs.Undo.{all_restored, restored_if}

-- the first datasets were gone through: those of the names are emptied, and what is given fills them again
abbrev pub Halfway : List (List ℕ) → ℕ → List Definition → List Part → List (Option Rest) → List Part → Type 0
Halfway names zero list old rests now = (now ≡ old) × AreNone rests old
Halfway names (suc i) (d ∷ list) (p ∷ old) (r ∷ rests) (q ∷ now) = (joined d q ≡ emptied_if names (joined d p)) × (restored_if r (joined d q) ≡ joined d p) × Halfway names i list old rests now
Halfway names (suc i) list old rests now = ⊥

pub half-first : (names : List (List ℕ)) (list : List Definition) (old : List Part) (rests : List (Option Rest)) → AreNone rests old → Halfway names 0 list old rests old
half-first names list old rests none = (refl, none)

none-long : (rests : List (Option Rest)) (parts : List Part) → AreNone rests parts → length rests ≡ length parts
none-long [] [] none = refl
none-long [] (p ∷ parts) none = absurd none
none-long (None ∷ rests) [] none = absurd none
none-long (Some r ∷ rests) [] none = absurd none
none-long (Some r ∷ rests) (p ∷ parts) none = absurd none
none-long (None ∷ rests) (p ∷ parts) none = let e = none-long rests parts none in omega (arith, e)

pub half-long : (names : List (List ℕ)) (i : ℕ) (list : List Definition) (old : List Part) (rests : List (Option Rest)) (now : List Part) → Halfway names i list old rests now → (length now ≡ length old) × (length rests ≡ length old)
half-long names zero list old rests now half = (ap length half.0, none-long rests old half.1)
half-long names (suc i) [] old rests now half = absurd half
half-long names (suc i) (d ∷ list) [] rests now half = absurd half
half-long names (suc i) (d ∷ list) (p ∷ old) [] now half = absurd half
half-long names (suc i) (d ∷ list) (p ∷ old) (r ∷ rests) [] half = absurd half
half-long names (suc i) (d ∷ list) (p ∷ old) (r ∷ rests) (q ∷ now) half =
    let e = half-long names i list old rests now half.2 in
    (omega (arith, e.0), omega (arith, e.1))

none-more : (rests : List (Option Rest)) (parts : List Part) (p : Part) → AreNone rests parts → AreNone (rests ++ None ∷ []) (parts ++ p ∷ [])
none-more [] [] p none = tt
none-more [] (q ∷ parts) p none = absurd none
none-more (None ∷ rests) [] p none = absurd none
none-more (Some r ∷ rests) [] p none = absurd none
none-more (Some r ∷ rests) (q ∷ parts) p none = absurd none
none-more (None ∷ rests) (q ∷ parts) p none = none-more rests parts p none

-- one place more
pub none-next : (rests new : List (Option Rest)) (parts : List Part) (i : ℕ) (p : Part) → i < length parts → p ≡ get_or parts i p → AreNone rests (take i parts) → new ≡ rests ++ None ∷ [] → AreNone new (take (i + 1) parts)
none-next rests new parts i p within item none pushed =
    let next : take (i + 1) parts ≡ take i parts ++ p ∷ [] = subst (λ x. take (i + 1) parts ≡ take i parts ++ x ∷ []) (sym item) (take_more parts i p within) in
    subst (λ list. AreNone new list) (sym next) (subst (λ list. AreNone list (take i parts ++ p ∷ [])) (sym pushed) (none-more rests (take i parts) p none))

-- ---- the next one

abbrev head_or : Part → List Part → Part
head_or d [] = d
head_or d (p ∷ parts) = p

abbrev tail_of : List Part → List Part
tail_of [] = []
tail_of (p ∷ parts) = parts

pub half-limit : (names : List (List ℕ)) (i : ℕ) (list : List Definition) (old : List Part) (rests : List (Option Rest)) (now : List Part) (d : Definition) (p : Part) → Halfway names i list old rests now
    → length list ≡ length old → i < length list → d ≡ get_or list i d → p ≡ get_or now i p → MembersHaveVersions names (side_by_side list old) → IsNamedIn names d → now_of p.table < 2 ^ 62
half-limit names i [] old rests now d p half long within item part have named = absurd (omega arith)
half-limit names i (x ∷ list) [] rests now d p half long within item part have named = absurd (omega (arith, long))
half-limit names zero (x ∷ list) (y ∷ old) rests [] d p half long within item part have named = let e : ◌≡◌ {A = List Part} [] (y ∷ old) = half.0 in let wrong : ⊥ = cc in absurd wrong
half-limit names zero (x ∷ list) (y ∷ old) rests (z ∷ now) d p half long within item part have named =
    let same : p ≡ y = part ∙ ap (head_or z) half.0 in
    subst (λ a. now_of a.table < 2 ^ 62) (sym same) (have.0 (subst (IsNamedIn names) item named))
half-limit names (suc i) (x ∷ list) (y ∷ old) [] now d p half long within item part have named = absurd half
half-limit names (suc i) (x ∷ list) (y ∷ old) (r ∷ rests) [] d p half long within item part have named = absurd half
half-limit names (suc i) (x ∷ list) (y ∷ old) (r ∷ rests) (z ∷ now) d p half long within item part have named =
    half-limit names i list old rests now d p half.2 (omega (arith, long)) (omega (arith, within)) item part have.1 named

pub half-next : (names : List (List ℕ)) (i : ℕ) (list : List Definition) (old : List Part) (rests : List (Option Rest)) (now : List Part) (d : Definition) (p q : Part) (r : Option Rest) → Halfway names i list old rests now
    → length list ≡ length old → i < length list → d ≡ get_or list i d → p ≡ get_or now i p → joined d q ≡ emptied_if names (joined d p) → restored_if r (joined d q) ≡ joined d p
    → Halfway names (suc i) list old (set rests i r) (set now i q)
half-next names i [] old rests now d p q r half long within item part is back = absurd (omega arith)
half-next names i (x ∷ list) [] rests now d p q r half long within item part is back = absurd (omega (arith, long))
half-next names zero (x ∷ list) (y ∷ old) [] now d p q r half long within item part is back = absurd half.1
half-next names zero (x ∷ list) (y ∷ old) (Some s ∷ rests) now d p q r half long within item part is back = absurd half.1
half-next names zero (x ∷ list) (y ∷ old) (None ∷ rests) [] d p q r half long within item part is back = let e : ◌≡◌ {A = List Part} [] (y ∷ old) = half.0 in let wrong : ⊥ = cc in absurd wrong
half-next names zero (x ∷ list) (y ∷ old) (None ∷ rests) (z ∷ now) d p q r half long within item part is back =
    let same : p ≡ y = part ∙ ap (head_or z) half.0 in
    let here = subst (λ a. joined a q ≡ emptied_if names (joined a y)) item (subst (λ b. joined d q ≡ emptied_if names (joined d b)) same is) in
    let again = subst (λ a. restored_if r (joined a q) ≡ joined a y) item (subst (λ b. restored_if r (joined d q) ≡ joined d b) same back) in
    (here, again, (ap tail_of half.0, half.1))
half-next names (suc i) (x ∷ list) (y ∷ old) [] now d p q r half long within item part is back = absurd half
half-next names (suc i) (x ∷ list) (y ∷ old) (s ∷ rests) [] d p q r half long within item part is back = absurd half
half-next names (suc i) (x ∷ list) (y ∷ old) (s ∷ rests) (z ∷ now) d p q r half long within item part is back =
    (half.0, half.1, half-next names i list old rests now d p q r half.2 (omega (arith, long)) (omega (arith, within)) item part is back)

-- ---- the end

pub half-end : (names : List (List ℕ)) (i : ℕ) (list : List Definition) (old : List Part) (rests : List (Option Rest)) (now : List Part) → Halfway names i list old rests now → length list ≤ i
    → side_by_side list now ≡ reset names (side_by_side list old)
half-end names zero [] old rests now half end = refl
half-end names zero (x ∷ list) old rests now half end = absurd (omega (arith, end))
half-end names (suc i) [] old rests now half end = absurd half
half-end names (suc i) (x ∷ list) [] rests now half end = absurd half
half-end names (suc i) (x ∷ list) (y ∷ old) [] now half end = absurd half
half-end names (suc i) (x ∷ list) (y ∷ old) (r ∷ rests) [] half end = absurd half
half-end names (suc i) (x ∷ list) (y ∷ old) (r ∷ rests) (z ∷ now) half end =
    let rest = half-end names i list old rests now half.2 (omega (arith, end)) in
    λ k. half.0 k ∷ rest k

none-restored : (rests : List (Option Rest)) (list : List Definition) (parts : List Part) → AreNone rests parts → all_restored rests (side_by_side list parts) ≡ side_by_side list parts
none-restored [] list parts none = refl
none-restored (None ∷ rests) [] parts none = refl
none-restored (Some r ∷ rests) [] parts none = refl
none-restored (None ∷ rests) (d ∷ list) [] none = refl
none-restored (Some r ∷ rests) (d ∷ list) [] none = refl
none-restored (Some r ∷ rests) (d ∷ list) (p ∷ parts) none = absurd none
none-restored (None ∷ rests) (d ∷ list) (p ∷ parts) none = ap (λ (rest : State). joined d p ∷ rest) (none-restored rests list parts none)

pub half-back : (names : List (List ℕ)) (i : ℕ) (list : List Definition) (old : List Part) (rests : List (Option Rest)) (now : List Part) → Halfway names i list old rests now
    → all_restored rests (side_by_side list now) ≡ side_by_side list old
half-back names zero list old rests now half = ap (λ parts. all_restored rests (side_by_side list parts)) half.0 ∙ none-restored rests list old half.1
half-back names (suc i) [] old rests now half = absurd half
half-back names (suc i) (x ∷ list) [] rests now half = absurd half
half-back names (suc i) (x ∷ list) (y ∷ old) [] now half = absurd half
half-back names (suc i) (x ∷ list) (y ∷ old) (r ∷ rests) [] half = absurd half
half-back names (suc i) (x ∷ list) (y ∷ old) (r ∷ rests) (z ∷ now) half =
    let rest = half-back names i list old rests now half.2 in
    λ k. half.1 k ∷ rest k

-- ---- filled again, from the last one on

pub fill-step : (n : ℕ) (rests : List (Option Rest)) (r : Option Rest) (list : List Definition) (parts : List Part) (p q : Part) → n ≡ length rests → n < length parts → p ≡ get_or parts n p → Becomes (restored_if r) p q
    → all_restored rests (side_by_side list (set parts n q)) ≡ all_restored (rests ++ r ∷ []) (side_by_side list parts)
fill-step n rests r list [] p q place within part is = absurd (omega arith)
fill-step zero (s ∷ rests) r list (x ∷ parts) p q place within part is = absurd (omega (arith, place))
fill-step zero [] r [] (x ∷ parts) p q place within part is = refl
fill-step zero [] r (d ∷ list) (x ∷ parts) p q place within part is =
    let here : joined d q ≡ restored_if r (joined d x) = subst (λ a. joined d q ≡ restored_if r (joined d a)) part (is d) in
    ap (λ (dataset : Dataset). dataset ∷ side_by_side list parts) here
fill-step (suc n) [] r list (x ∷ parts) p q place within part is = absurd (omega (arith, place))
fill-step (suc n) (s ∷ rests) r [] (x ∷ parts) p q place within part is = refl
fill-step (suc n) (s ∷ rests) r (d ∷ list) (x ∷ parts) p q place within part is =
    ap (λ (rest : State). restored_if s (joined d x) ∷ rest) (fill-step n rests r list parts p q (omega (arith, place)) (omega (arith, within)) part is)

pub fill-past : (n : ℕ) (rests : List (Option Rest)) (r : Option Rest) (list : List Definition) (parts : List Part) → n ≡ length rests → length parts ≤ n
    → all_restored rests (side_by_side list parts) ≡ all_restored (rests ++ r ∷ []) (side_by_side list parts)
fill-past zero (s ∷ rests) r list parts place past = absurd (omega (arith, place))
fill-past zero [] r [] parts place past = refl
fill-past zero [] r (d ∷ list) [] place past = refl
fill-past zero [] r (d ∷ list) (x ∷ parts) place past = absurd (omega (arith, past))
fill-past (suc n) [] r list parts place past = absurd (omega (arith, place))
fill-past (suc n) (s ∷ rests) r [] parts place past = refl
fill-past (suc n) (s ∷ rests) r (d ∷ list) [] place past = refl
fill-past (suc n) (s ∷ rests) r (d ∷ list) (x ∷ parts) place past =
    ap (λ (rest : State). restored_if s (joined d x) ∷ rest) (fill-past n rests r list parts (omega (arith, place)) (omega (arith, past)))
